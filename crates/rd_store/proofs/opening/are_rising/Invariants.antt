use Rattle.rd_store.proofs.Common.{◌≡◌, ℕ, ◌+◌, ◌-◌, ◌<◌, ◌≤◌, [], length, slice_index_or, int_lt, true, column, id_in}
use Rattle.rd_store.proofs.opening.are_rising.Given as goal

abbrev pub invariant-loop-at : goal.invariant-loop-at
invariant-loop-at l = (1 ≤ l.at) × ((k : ℕ) → k + 1 < l.at → k + 1 < length l.rows → int_lt (id_in (column (slice_index_or l.rows k []) 0)) (id_in (column (slice_index_or l.rows (k + 1) []) 0)) ≡ true)

abbrev pub decreases-loop-at : goal.decreases-loop-at
decreases-loop-at l = length l.rows - l.at
