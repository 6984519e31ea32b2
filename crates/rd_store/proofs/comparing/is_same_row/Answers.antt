use Rattle.rd_store.proofs.Common.{◌∙◌, IsTrue, arith, rules, sym, take_all, take_more_same, Null}
use Rattle.rd_store.proofs.comparing.is_same_row.Goals as goal

pub loop-at-preserved : goal.loop-at-preserved
loop-at-preserved c =
    let told : IsTrue c.is_same_at.result = search rules in
    take_more_same c.args.one.now c.args.other.now c.loop-at.at Null (omega arith) (omega arith) c.loop-at.invariant (c.is_same_at.ensures.same told)

pub returns : goal.returns
returns c told = sym (take_all c.loop-at.at c.args.one.now (omega arith)) ∙ c.loop-at.invariant ∙ take_all c.loop-at.at c.args.other.now (omega arith)
