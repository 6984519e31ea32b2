use Rattle.rd_store.proofs.Common.{state, IsClean, IsOpen, Stays, IsWalkTo}
use Rattle.rd_store.proofs.image_walk.walk_images.Given as goal

-- the entries so far are those of the images up to the last of them, all of which were judged
abbrev pub invariant-loop : goal.invariant-loop
invariant-loop g l =
    Stays g.S.Store l.fn.conn l.conn × (IsClean g.S.Store l.conn → IsOpen g.S.Store l.conn)
    × (IsOpen g.S.Store l.conn → IsWalkTo l.deeds l.marked (state g.S.Store l.fn.conn).now.trees l.entries.items)
