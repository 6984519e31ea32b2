use Rattle.rd_store.proofs.Common.{drop, state, IsClean, IsOpen, Stays, AreReadNext, IsWalkTo, last_number}
use Rattle.rd_store.proofs.image_walk.walk_rows.Given as goal

-- the entries so far are those of the images up to the row at this place, and the rows from there come next
abbrev pub invariant-loop-row : goal.invariant-loop-row
invariant-loop-row g l = record {
  stays : Stays g.S.Store l.fn.conn l.conn;
  open_if_clean : IsClean g.S.Store l.conn → IsOpen g.S.Store l.conn;
  follow : IsOpen g.S.Store l.conn → AreReadNext (last_number l.entries.items) (state g.S.Store l.fn.conn).now.trees (drop l.row-index l.rows);
  walked : IsOpen g.S.Store l.conn → IsWalkTo l.deeds l.marked (state g.S.Store l.fn.conn).now.trees l.fn.entries.items → IsWalkTo l.deeds l.marked (state g.S.Store l.fn.conn).now.trees l.entries.items;
}
