use Rattle.rd_cbm.proofs.ListingLemmas.{files_more}
use Rattle.rd_cbm.proofs.catalog.files.Goals as goal

pub loop-slot-preserved : goal.loop-slot-preserved
loop-slot-preserved c = rw c.in_ok-push.ensures.items (files_more _ _ _ _ _ c.loop-slot.invariant c.in_ok-file_at.ensures.file c.in_ok-file_at.ensures.slot)
