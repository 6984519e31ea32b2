use Rattle.rd_geometry.specs.CbmDisks.{cbm_bytes}
use Rattle.rd_cbm.proofs.EntryLemmas.{AreEntriesBelow}
use Rattle.rd_cbm.proofs.slots.entries_of.Given as goal

abbrev pub invariant-loop-slot : goal.invariant-loop-slot
invariant-loop-slot l = AreEntriesBelow (cbm_bytes l.disk) l.blocks l.slot l.entries.items
