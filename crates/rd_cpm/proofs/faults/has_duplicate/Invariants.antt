use Rattle.std.proofs.Common.{◌≢◌, ℕ, ◌<◌, [], slice_index_or}
use Rattle.rd_cpm.specs.Entries.{extent_number_of}
use Rattle.rd_cpm.proofs.faults.has_duplicate.Given as goal

-- no two entries passed hold the extent of one number
abbrev pub invariant-loop-i : goal.invariant-loop-i
invariant-loop-i l = (one other : ℕ) → one < other → other < l.i → extent_number_of (slice_index_or l.entries one []) ≢ extent_number_of (slice_index_or l.entries other [])
