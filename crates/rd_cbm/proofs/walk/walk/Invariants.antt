use Rattle.rd_geometry.specs.CbmDisks.{cbm_bytes}
use Rattle.rd_cbm.specs.Links.{link_of}
use Rattle.rd_cbm.proofs.MarkLemmas.{IsAt, unmarked}
use Rattle.rd_cbm.proofs.walk.walk.Given as goal

abbrev pub invariant-loop-marks : goal.invariant-loop-marks
invariant-loop-marks l = IsAt (link_of (cbm_bytes l.disk)) l.fn.start l.block l.blocks.items l.marks

abbrev pub decreases-loop-marks : goal.decreases-loop-marks
decreases-loop-marks l = unmarked l.marks
