-- What writers have gained.
use Rattle.std.proofs.Common.{◌≡◌, ◌∙◌, ℕ, ◌+◌, ◌-◌, ◌≤◌, List, [], ◌∷◌, ◌++◌, Option, Some, None, Result, Ok, Err, OnErr, OnOk, append-nil, append_assoc, drop, length, length-drop, refl, take, subst, sym, ap, arith}
use Rattle.std.specs.List.{concat}
use Rattle.std.proofs.lemmas.List.{take-append-drop, take_all}
use Rattle.std.proofs.lemmas.List.Folds.{concat-append}
use Rattle.std.specs.Io.KnownBytes.{Appends, Keeps}
use Rattle.std.proofs.KnownBytes.{Appends-kept, Appends-nil, Appends-trans, Keeps-refl, Keeps-trans}
use lib.Seq.{take-add}
use Rattle.rd_commands.specs.Output.{AppendsPart}

-- a writer that has gained nothing is as it was
pub keeps_by_nothing : (old mid new : Option (List ℕ)) → Keeps old mid → Appends mid new [] → Keeps old new
keeps_by_nothing old mid new kept gained = Keeps-trans old mid new kept (nothing mid new gained)
  where
    nothing : (a b : Option (List ℕ)) → Appends a b [] → Keeps a b
    nothing None b gained = tt
    nothing (Some xs) None gained = gained
    nothing (Some xs) (Some ys) gained = gained ∙ append-nil xs

-- one more write of what is left
pub more_written : (old mid new : Option (List ℕ)) (bytes : List ℕ) (at n : ℕ) → at ≤ length bytes → Appends old mid (take at bytes)
    → Appends mid new (take n (take (length bytes - at) (drop at bytes))) → Appends old new (take (at + n) bytes)
more_written old mid new bytes at n within before more =
    let left : length (drop at bytes) ≤ length bytes - at = simp length-drop (omega arith) in
    let rest : take (length bytes - at) (drop at bytes) ≡ drop at bytes = take_all (length bytes - at) (drop at bytes) left in
    subst (Appends old new) (ap (λ l. take at bytes ++ take n l) rest ∙ sym (take-add at n bytes)) (Appends-trans old mid new _ _ before more)

-- a write that fails leaves a front part written
pub part_written : (old mid new : Option (List ℕ)) (bytes : List ℕ) (at : ℕ) → Appends old mid (take at bytes) → Keeps mid new → AppendsPart old new bytes
part_written old mid new bytes at before kept = record {
  part = take at bytes;
  rest = drop at bytes;
  whole = sym (take-append-drop at bytes);
  gained = Appends-kept old mid new (take at bytes) before kept;
}

-- one more piece is written
pub piece_more : (old mid new : Option (List ℕ)) (before : List (List ℕ)) (piece : List ℕ) → Appends old mid (concat before) → Appends mid new piece
    → Appends old new (concat (before ++ piece ∷ []))
piece_more old mid new before piece written more =
    subst (Appends old new) (sym (concat-append before (piece ∷ []) ∙ ap (λ l. concat before ++ l) (append-nil piece)))
    (Appends-trans old mid new (concat before) piece written more)

-- where a piece is written in part, so are the pieces
pub pieces_part : (old mid new : Option (List ℕ)) (all before after : List (List ℕ)) (piece : List ℕ) → before ++ (piece ∷ after) ≡ all
    → Appends old mid (concat before) → AppendsPart mid new piece → AppendsPart old new (concat all)
pieces_part old mid new all before after piece are written part = record {
  part = concat before ++ part.part;
  rest = part.rest ++ concat after;
  whole = ap concat (sym are) ∙ concat-append before (piece ∷ after) ∙ ap (λ l. concat before ++ (l ++ concat after)) part.whole ∙ simp append_assoc;
  gained = Appends-trans old mid new (concat before) part.part written part.gained;
}

-- at an error a part is written
pub on_err : {T E P : Type 0} (r : Result T E) → P → OnErr r P
on_err (Ok value) fact = tt
on_err (Err error) fact = fact

-- all that was written is a part of it
pub whole_part : (old mid new : Option (List ℕ)) (bytes : List ℕ) → Appends old mid bytes → Keeps mid new → AppendsPart old new bytes
whole_part old mid new bytes gained kept = record { part = bytes; rest = []; whole = sym (append-nil bytes); gained = Appends-kept old mid new bytes gained kept }

-- what is written of a front part is written of the whole
pub part_of : (old new : Option (List ℕ)) (whole front rest : List ℕ) → whole ≡ front ++ rest → AppendsPart old new front → AppendsPart old new whole
part_of old new whole front rest is part = record {
  part = part.part;
  rest = part.rest ++ rest;
  whole = is ∙ ap (λ l. l ++ rest) part.whole ∙ append_assoc part.part part.rest rest;
  gained = part.gained;
}

-- after bytes that were written, a part of those that follow is a part of the whole
pub part_after : (old mid new : Option (List ℕ)) (whole front more rest : List ℕ) → whole ≡ front ++ (more ++ rest) → Appends old mid front → AppendsPart mid new more
    → AppendsPart old new whole
part_after old mid new whole front more rest is written part = record {
  part = front ++ part.part;
  rest = part.rest ++ rest;
  whole = is ∙ ap (λ l. front ++ (l ++ rest)) part.whole ∙ simp append_assoc;
  gained = Appends-trans old mid new front part.part written part.gained;
}

-- so where the last write fails
pub on_err_after : {T E : Type 0} (r : Result T E) (old mid new : Option (List ℕ)) (whole front more : List ℕ) → whole ≡ front ++ more → Appends old mid front
    → OnErr r (AppendsPart mid new more) → OnErr r (AppendsPart old new whole)
on_err_after (Ok value) old mid new whole front more is written part = tt
on_err_after (Err error) old mid new whole front more is written part =
    part_after old mid new whole front more [] (is ∙ ap (λ l. front ++ l) (sym (append-nil more))) written part

-- and where it does not
pub on_ok_after : {T E : Type 0} (r : Result T E) (old mid new : Option (List ℕ)) (whole front more : List ℕ) → whole ≡ front ++ more → Appends old mid front
    → OnOk r (Appends mid new more) → OnOk r (Appends old new whole)
on_ok_after (Ok value) old mid new whole front more is written last = subst (Appends old new) (sym is) (Appends-trans old mid new front more written last)
on_ok_after (Err error) old mid new whole front more is written last = tt

-- whether a write failed or not, a part is written
pub part_either : {T E : Type 0} (r : Result T E) (old new : Option (List ℕ)) (bytes : List ℕ) → OnOk r (Appends old new bytes) → OnErr r (AppendsPart old new bytes)
    → AppendsPart old new bytes
part_either (Ok value) old new bytes done cut = whole_part old new new bytes done (Keeps-refl new)
part_either (Err error) old new bytes done cut = cut

-- nothing is a part of any bytes
pub none_written : (old new : Option (List ℕ)) (bytes : List ℕ) → Keeps old new → AppendsPart old new bytes
none_written old new bytes kept = record { part = []; rest = bytes; whole = refl; gained = Appends-kept old old new [] (Appends-nil old) kept }
