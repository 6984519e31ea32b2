use Rattle.std.proofs.Common.{◌≡◌, arith}
use Rattle.rd_protocol.specs.Texts.{natural}
use Rattle.rd_history.specs.declared.entry.Change.TheVariants.{DropRule}
use Rattle.rd_history.proofs.reading.drop_of.Goals as goal

pub returns-clause-reads : goal.returns-clause-reads
returns-clause-reads c = λ scope rank within is at_place at_rank.
    let number : c.number_of.result ≡ scope = c.number_of.ensures scope (omega (arith, within.1)) (c.at.ensures (natural scope) at_place) in
    let of_rank : c.short_of.result ≡ rank = c.short_of.ensures rank (omega (arith, is.1)) (c.at-2.ensures (natural rank) at_rank) in
    λ i. DropRule c.args.band (number i) (of_rank i)
