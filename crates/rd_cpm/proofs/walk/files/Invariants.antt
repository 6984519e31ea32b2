use Rattle.rd_geometry.specs.CpmDisks.{cpm_bytes}
use Rattle.rd_cpm.proofs.ListingLemmas.{AreFilesBelow}
use Rattle.rd_cpm.proofs.walk.files.Given as goal

abbrev pub invariant-loop-slot : goal.invariant-loop-slot
invariant-loop-slot l = AreFilesBelow (cpm_bytes l.disk) l.slot l.files.items
