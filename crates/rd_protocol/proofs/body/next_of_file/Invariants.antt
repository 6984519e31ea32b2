use Rattle.std.proofs.Common.{◌≡◌, length}
use Rattle.rd_volume.specs.PiecesLeft.{pieces_left}
use Rattle.rd_protocol.specs.Slices.{not_empty}
use Rattle.rd_protocol.proofs.body.next_of_file.Given as goal

-- only empty pieces have gone by
abbrev pub invariant-loop-piece : goal.invariant-loop-piece
invariant-loop-piece l = not_empty (pieces_left l.pieces) ≡ not_empty (pieces_left l.fn.pieces)

abbrev pub decreases-loop-piece : goal.decreases-loop-piece
decreases-loop-piece l = length (pieces_left l.pieces)
