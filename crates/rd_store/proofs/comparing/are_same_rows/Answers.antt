use Rattle.rd_store.proofs.Common.{◌∙◌, ◌<◌, IsTrue, arith, length, rules, sym, take_all, take_more_same}
use Rattle.rd_store.proofs.Listings.{any_default}
use Rattle.rd_store.proofs.comparing.are_same_rows.Goals as goal

pub loop-at-preserved : goal.loop-at-preserved
loop-at-preserved c =
    let told : IsTrue c.is_same_row.result = search rules in
    let one = c.index-one-at.result in
    let other = c.index-other-at.result in
    let low : c.loop-at.at < length c.args.other.now = omega arith in
    take_more_same c.args.one.now c.args.other.now c.loop-at.at one (omega arith) low c.loop-at.invariant
    (sym c.index-one-at.is ∙ c.is_same_row.ensures told ∙ c.index-other-at.is ∙ any_default c.args.other.now c.loop-at.at other one low)

pub returns : goal.returns
returns c told = sym (take_all c.loop-at.at c.args.one.now (omega arith)) ∙ c.loop-at.invariant ∙ take_all c.loop-at.at c.args.other.now (omega arith)
