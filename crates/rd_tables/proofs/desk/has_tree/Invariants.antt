use Rattle.rd_tables.proofs.Common.{◌≡◌, false, take, has_tree}
use Rattle.rd_tables.proofs.desk.has_tree.Given as goal

-- none of the tables so far
abbrev pub invariant-loop-table : goal.invariant-loop-table
invariant-loop-table l = has_tree (take l.table-index l.tables) l.tree ≡ false
