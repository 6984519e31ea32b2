use Rattle.rd_chain.specs.Held.{lines}
use Rattle.rd_history.proofs.StageLemmas.{none_so}
use Rattle.rd_history.proofs.history.History.create.Goals as goal

pub invariant_of-result : goal.invariant_of-result
invariant_of-result g c = λ is_open. none_so (lines g.S.Store c.in-Ok.chain) (c.in-Ok.ensures.created.empty is_open)
