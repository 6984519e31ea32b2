use Rattle.rd_store.proofs.Common.{subst, IsNonDecreasing}
use Rattle.rd_store.proofs.opening.accessions_in.Goals as goal

pub returns-in-Ok-clause-ascending : goal.returns-in-Ok-clause-ascending
returns-in-Ok-clause-ascending c = subst IsNonDecreasing c.deref.ensures.value c.if-ascend.ensures
