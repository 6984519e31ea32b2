use Rattle.std.proofs.Common.{◌≡◌, ◌++◌, map}
use Rattle.std.specs.List.{concat}
use Rattle.rd_volume.specs.PiecesLeft.{pieces_left}
use Rattle.rd_program.proofs.extract.contents.Given as goal

abbrev pub invariant-loop-piece : goal.invariant-loop-piece
invariant-loop-piece l = record {
  left : map (λ piece. piece.now) l.yielded ++ pieces_left l.piece-iterator ≡ pieces_left l.initial.piece-iterator;
  joined : l.bytes.items ≡ concat (map (λ piece. piece.now) l.yielded);
}
