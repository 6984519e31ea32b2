use Rattle.rd_store.proofs.Common.{◌≡◌, ◌<◌, ◌/◌, ℕ, length, slice_index, units_in}
use Rattle.rd_store.proofs.decode.spell_out.Given as goal

-- the units up to a place are spelled out
abbrev pub invariant-loop-at : goal.invariant-loop-at
invariant-loop-at l = record {
  sized : length l.units ≡ length l.bytes / 2;
  spelled : (k : ℕ) → k < l.at → slice_index l.units k ≡ slice_index (units_in l.bytes) k;
}
