use Rattle.rd_tables.proofs.Common.{◌≡◌, length, take}
use Rattle.rd_tables.proofs.same.all_same.Given as goal

-- the items so far are the same
abbrev pub invariant-loop-at : goal.invariant-loop-at
invariant-loop-at g l = (length l.items ≡ length l.others) × (take l.at l.items ≡ take l.at l.others)
