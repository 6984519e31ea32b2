use Rattle.std.proofs.Common.{◌≡◌, ◌<◌, ℕ, true, false, slice_index, slice_index_or}
use Rattle.rd_cbm.proofs.faults.has_shared.Given as goal

-- no block passed is shared
abbrev pub invariant-loop-block : goal.invariant-loop-block
invariant-loop-block l = (k : ℕ) → k < l.block-index → slice_index_or l.uses.shared (slice_index l.blocks k) false ≡ true → ⊥
