use Rattle.std.proofs.Common.{◌≡◌, ◌++◌, map}
use Rattle.std.specs.Io.KnownBytes.{Appends}
use Rattle.std.specs.List.{concat}
use Rattle.rd_volume.specs.PiecesLeft.{pieces_left}
use Rattle.rd_commands.proofs.output.write_each.Given as goal

abbrev pub invariant-loop-piece : goal.invariant-loop-piece
invariant-loop-piece g l = record {
  left : map (λ piece. piece.now) l.yielded ++ pieces_left l.piece-iterator ≡ pieces_left l.initial.piece-iterator;
  written : Appends (g.W.Write.contents l.fn.output) (g.W.Write.contents l.output) (concat (map (λ piece. piece.now) l.yielded));
}
