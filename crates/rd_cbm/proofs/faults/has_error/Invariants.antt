use Rattle.std.proofs.Common.{◌<◌, ℕ, slice_index}
use Rattle.rd_geometry.specs.Blocks.{mark_of}
use Rattle.rd_geometry.specs.CbmDisks.{cbm_bytes}
use Rattle.rd_cbm.specs.Faults.{IsError}
use Rattle.rd_cbm.proofs.faults.has_error.Given as goal

-- the error byte of no block passed tells of an error
abbrev pub invariant-loop-block : goal.invariant-loop-block
invariant-loop-block l = (k : ℕ) → k < l.block-index → IsError (mark_of (cbm_bytes l.disk) (slice_index l.blocks k)) → ⊥
