-- An option whose text is read is there.
use Rattle.std.proofs.Common.{◌≡◌, ◌∙◌, List, None, Option, Some, ap, refl, sym}
use Rattle.std.specs.Prelude.{find, option_and_then, option_map, slice_get}
use Rattle.std.specs.Str.{bytes_eq}
use Rattle.clap.specs.Walk.{row_text}
use Rattle.clap.specs.Words.{Row, Text, first_of, one_of, read_as}

-- an option is not both there and absent
pub there_and_absent : (o : Option Text) (text : Text) → Some text ≡ o → o ≡ None → ⊥
there_and_absent o text there absent = let no : Some text ≡ None = there ∙ absent in absurd (cc no)

-- an option of which no text is read first has no text that is read as one
pub absent_one : (id : Text) (rows : List Row) → first_of id rows ≡ None → one_of id rows ≡ None
absent_one id rows absent = row (find (λ r. bytes_eq r.id id) rows) absent
  where
    row : (found : Option Row) → option_and_then (λ (r : Row). slice_get r.values 0) found ≡ None → option_and_then row_text found ≡ None
    row (Some r) none = ap (option_map (read_as r.reading)) none
    row None none = refl

-- so one of them is not there where the other is absent
pub one_and_absent : (id : Text) (rows : List Row) (text : Text) → one_of id rows ≡ Some text → first_of id rows ≡ None → ⊥
one_and_absent id rows text there absent = there_and_absent (one_of id rows) text (sym there) (absent_one id rows absent)
