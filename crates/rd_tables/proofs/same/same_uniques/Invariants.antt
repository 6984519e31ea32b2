use Rattle.rd_tables.proofs.Common.{◌≡◌, length, take}
use Rattle.rd_tables.proofs.same.same_uniques.Given as goal

-- the keys so far are the same
abbrev pub invariant-loop-at : goal.invariant-loop-at
invariant-loop-at l = (length l.keys ≡ length l.others) × (take l.at l.keys ≡ take l.at l.others)
