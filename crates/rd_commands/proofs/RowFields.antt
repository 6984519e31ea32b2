-- What the fields of a row say.
use Rattle.std.proofs.Common.{◌≡◌, ◌∙◌, ap, ap₂, arith, codes, length, false, ℕ, List, [], ◌∷◌, Some, Result, Ok, Err, IsTrue, IsUtf8, MatchResult, option_map, refl}
use Rattle.std.specs.Borrow.{Bor}
use Rattle.std.specs.Result.{result_ok}
use Rattle.std.specs.Str.{is_utf8}
use Rattle.std.proofs.lemmas.Bool.{false_from_ne_true}
use Rattle.std.proofs.lemmas.Str.{IsUtf8-from_is_utf8, is_utf8-from_IsUtf8}
use Rattle.csv.specs.Records.{field_at}
use Rattle.rd_commands.specs.Sheets.{header, text_of}

-- the text that bytes are
pub text_read : {E : Type 0} (P : E → Type 0) (field : List ℕ) (r : Result (Bor (List ℕ)) E)
    → MatchResult r (λ s. (s.now ≡ field) × IsUtf8 field) (λ e. ¬ (IsUtf8 field) × P e) → option_map (λ s. s.now) (result_ok r) ≡ text_of field
text_read P field (Ok s) read = rw (is_utf8-from_IsUtf8 field read.1, read.0) refl
text_read P field (Err e) read =
    let none : is_utf8 field ≡ false = false_from_ne_true (is_utf8 field) (λ is. read.0 (IsUtf8-from_is_utf8 field is)) in rw none refl

-- ---- the names of the columns

pub named_first : field_at header 0 ≡ Some (codes "accession")
unfolding field_at
named_first = refl

pub named_second : field_at header 1 ≡ Some (codes "kind")
unfolding field_at
named_second = refl

pub named_third : field_at header 2 ≡ Some (codes "deed")
unfolding field_at
named_third = refl

pub named_fourth : field_at header 3 ≡ Some (codes "sha256")
unfolding field_at
named_fourth = refl

pub named_last : field_at header 4 ≡ Some (codes "file")
unfolding field_at
named_last = refl

-- fields with these names are they
pub are_names : (fields : List (List ℕ)) → length fields ≡ 5 → field_at fields 0 ≡ Some (codes "accession") → field_at fields 1 ≡ Some (codes "kind")
    → field_at fields 2 ≡ Some (codes "deed") → field_at fields 3 ≡ Some (codes "sha256") → field_at fields 4 ≡ Some (codes "file") → fields ≡ header
unfolding field_at
are_names [] five one two three four last = absurd (omega (arith, five))
are_names (a ∷ []) five one two three four last = absurd (omega (arith, five))
are_names (a ∷ b ∷ []) five one two three four last = absurd (omega (arith, five))
are_names (a ∷ b ∷ c ∷ []) five one two three four last = absurd (omega (arith, five))
are_names (a ∷ b ∷ c ∷ d ∷ []) five one two three four last = absurd (omega (arith, five))
are_names (a ∷ b ∷ c ∷ d ∷ e ∷ []) five one two three four last =
    ap₂ ◌∷◌ (inner one) (ap₂ ◌∷◌ (inner two) (ap₂ ◌∷◌ (inner three) (ap₂ ◌∷◌ (inner four) (ap (λ x. x ∷ []) (inner last)))))
  where
    inner : {x y : List ℕ} → Some x ≡ Some y → x ≡ y
    inner same = cc
are_names (a ∷ b ∷ c ∷ d ∷ e ∷ f ∷ rest) five one two three four last = absurd (omega (arith, five))

-- where one of them is another, they are not
pub no_header : (fields : List (List ℕ)) (place : ℕ) (name : List ℕ) → field_at header place ≡ Some name
    → (IsTrue false → field_at fields place ≡ Some name) × (field_at fields place ≡ Some name → IsTrue false)
    → (IsTrue false → fields ≡ header) × (fields ≡ header → IsTrue false)
no_header fields place name named is = (λ no. absurd (cc no), λ same. is.1 (ap (λ fs. field_at fs place) same ∙ named))
