use Rattle.rd_tables.proofs.Common.{◌≡◌, false, take, list_any, is_named_desk}
use Rattle.rd_tables.proofs.desk.desk_tree.Given as goal

-- none of the tables so far
abbrev pub invariant-loop-at : goal.invariant-loop-at
invariant-loop-at l = list_any is_named_desk (take l.at l.tables) ≡ false
