use Rattle.rd_store.proofs.Common.{take, AllZip, IsIndexedBy}
use Rattle.rd_store.proofs.batches.index_each.Given as goal

abbrev pub invariant-loop-entry : goal.invariant-loop-entry
invariant-loop-entry l = AllZip (IsIndexedBy l.rows) (take l.entry-index l.entries) l.batch.items
