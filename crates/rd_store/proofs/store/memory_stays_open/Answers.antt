use Rattle.rd_store.proofs.Common.{memory_is_clean}
use Rattle.rd_store.proofs.store.memory_stays_open.Goals as goal

pub returns-clause-clean : goal.returns-clause-clean
returns-clause-clean c conn = memory_is_clean conn
