use Rattle.rd_geometry.specs.CbmDisks.{cbm_bytes}
use Rattle.rd_cbm.proofs.ListingLemmas.{AreFilesBelow}
use Rattle.rd_cbm.proofs.catalog.files.Given as goal

abbrev pub invariant-loop-slot : goal.invariant-loop-slot
invariant-loop-slot l = AreFilesBelow (cbm_bytes l.disk) l.blocks l.slot l.files.items
