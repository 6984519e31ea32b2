use Rattle.std.proofs.Common.{◌≡◌, ◌∙◌, ◌++◌, [], ◌∷◌, ap, append_assoc, map, subst, sym}
use Rattle.std.proofs.lemmas.List.{map-append}
use Rattle.std.specs.Io.KnownBytes.{Appends}
use Rattle.std.specs.List.{concat}
use Rattle.rd_volume.specs.PiecesLeft.{pieces_left}
use Rattle.rd_commands.proofs.WriterLemmas.{on_err, piece_more, pieces_part}
use Rattle.rd_commands.proofs.output.write_each.Goals as goal

pub loop-piece-preserved : goal.loop-piece-preserved
loop-piece-preserved g c =
    let at = c.loop-piece in
    let piece = c.in-Some.piece.now in
    let before = map (λ p. p.now) at.yielded in
    let steps : pieces_left at.piece-iterator ≡ piece ∷ pieces_left c.next.new.self = c.in-Some.ensures.steps in
    let more : map (λ p. p.now) (at.yielded ++ c.in-Some.piece ∷ []) ≡ before ++ piece ∷ [] = map-append (λ p. p.now) at.yielded (c.in-Some.piece ∷ []) in
    record {
      left = ap (λ l. l ++ pieces_left c.next.new.self) more ∙ append_assoc before (piece ∷ []) _ ∙ rw (← steps) at.invariant.left;
      written = subst (λ l. Appends (g.W.Write.contents c.args.output.now) (g.W.Write.contents c.write_bytes.new.output) (concat l)) (sym more)
          (piece_more _ _ _ before piece at.invariant.written c.in_ok-write_bytes.ensures.done);
    }

pub returns-in_err-write_bytes-clause-cut : goal.returns-in_err-write_bytes-clause-cut
returns-in_err-write_bytes-clause-cut g c =
    let at = c.loop-piece in
    let piece = c.in-Some.piece.now in
    let before = map (λ p. p.now) at.yielded in
    let steps : pieces_left at.piece-iterator ≡ piece ∷ pieces_left c.next.new.self = c.in-Some.ensures.steps in
    let left : before ++ (piece ∷ pieces_left c.next.new.self) ≡ pieces_left c.into_iter-piece-iterator.result = rw (← steps) at.invariant.left in
    let given : pieces_left c.into_iter-piece-iterator.result ≡ pieces_left c.args.pieces = ap pieces_left c.into_iter-piece-iterator.ensures.into_iter_gives in
    on_err c.from_residual.result
    (pieces_part _ _ _ (pieces_left c.args.pieces) before (pieces_left c.next.new.self) piece (left ∙ given) at.invariant.written c.in_err-write_bytes.ensures.cut)
