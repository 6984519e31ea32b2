use Rattle.std.proofs.Common.{◌≡◌, ◌++◌}
use Rattle.std.specs.List.{concat}
use Rattle.rd_protocol.specs.BodyPieces.{pieces_left}
use Rattle.rd_program.proofs.show.bytes_of.Given as goal

-- the pieces so far, and those that are left, are the body
abbrev pub invariant-loop-piece : goal.invariant-loop-piece
invariant-loop-piece l = l.bytes.items ++ concat (pieces_left l.piece-iterator) ≡ l.body.bytes
