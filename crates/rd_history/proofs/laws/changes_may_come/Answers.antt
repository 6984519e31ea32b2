use Rattle.rd_history.proofs.StageLemmas.{changes_may_come}
use Rattle.rd_history.proofs.laws.changes_may_come.Goals as goal

pub returns : goal.returns
returns c = changes_may_come
