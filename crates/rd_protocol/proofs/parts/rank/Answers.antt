use Rattle.std.proofs.Common.{◌∙◌, sym, lit≤}
use Rattle.rd_protocol.proofs.PartLemmas.{number_read}
use Rattle.rd_protocol.proofs.parts.rank.Goals as goal

pub returns-then-has_digits : goal.returns-then-has_digits
returns-then-has_digits c =
    c.ok.ensures.value
    ∙ number_read 16 4 c.args.text.now c.parse.result c.parse.ensures.value.0 (lit≤ tt) (sym c.if-has_digits.ensures)
