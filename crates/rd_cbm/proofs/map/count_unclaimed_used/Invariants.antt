use Rattle.std.proofs.Common.{IsTrue, false, slice_index_or}
use Rattle.rd_geometry.specs.CbmDisks.{cbm_bytes}
use Rattle.rd_cbm.specs.BlockMap.{IsFreeBlock}
use Rattle.rd_cbm.proofs.CountLemmas.{IsCountBelow}
use Rattle.rd_cbm.proofs.map.count_unclaimed_used.Given as goal

abbrev pub invariant-loop-block : goal.invariant-loop-block
invariant-loop-block l = IsCountBelow (λ b. (¬ IsTrue (slice_index_or l.uses.used b false)) × (¬ IsFreeBlock (cbm_bytes l.disk) b)) l.block l.count
