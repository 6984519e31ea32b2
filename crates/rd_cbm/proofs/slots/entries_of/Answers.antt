use Rattle.std.proofs.Common.{arith}
use Rattle.rd_cbm.proofs.EntryLemmas.{entries_more}
use Rattle.rd_cbm.proofs.slots.entries_of.Goals as goal

pub loop-slot-preserved : goal.loop-slot-preserved
loop-slot-preserved c = rw c.in_ok-push.ensures.items
    (entries_more _ _ _ _ _ c.loop-slot.invariant c.read_entry-entry.ensures.fields c.read_entry-entry.ensures.slot (omega arith) c.if-entry-eq0.false)
