use Rattle.std.proofs.Common.{◌≡◌, ◌∙◌, ◌++◌, [], ◌∷◌, ap, append-nil, append_assoc, map, sym}
use Rattle.std.proofs.lemmas.List.{map-append}
use Rattle.std.proofs.lemmas.List.Folds.{concat-append}
use Rattle.std.specs.List.{concat}
use Rattle.rd_volume.specs.PiecesLeft.{pieces_left}
use Rattle.rd_program.proofs.extract.contents.Goals as goal

pub loop-piece-preserved : goal.loop-piece-preserved
loop-piece-preserved c =
    let at = c.loop-piece in
    let piece = c.in-Some.piece.now in
    let before = map (λ p. p.now) at.yielded in
    let steps : pieces_left at.piece-iterator ≡ piece ∷ pieces_left c.next.new.self = c.in-Some.ensures.steps in
    let more : map (λ p. p.now) (at.yielded ++ c.in-Some.piece ∷ []) ≡ before ++ piece ∷ [] = map-append (λ p. p.now) at.yielded (c.in-Some.piece ∷ []) in
    record {
      left = ap (λ l. l ++ pieces_left c.next.new.self) more ∙ append_assoc before (piece ∷ []) _ ∙ rw (← steps) at.invariant.left;
      joined = c.in_ok-extend_from_slice.ensures.items ∙ ap (λ l. l ++ piece) at.invariant.joined
          ∙ sym (concat-append before (piece ∷ []) ∙ ap (λ l. concat before ++ l) (append-nil piece)) ∙ ap concat (sym more);
    }
