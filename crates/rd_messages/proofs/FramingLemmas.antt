-- What the fields of a head tell, and what they do not.
use Rattle.std.proofs.Common.{◌≡◌, ℕ, ◌≤◌, true, false, ◌&&◌, nat_le, nat_lt, List, [], ◌∷◌, Option, None, Some, SomeIff, length, refl, ◌∙◌, ap, arith}
use Rattle.std.proofs.lemmas.Bool.{and_from, and_parts, false_from_ne_true, le-leb, leb-true, lt-ltb, ltb-true}
use Rattle.std.proofs.lemmas.Str.{IsUtf8-from_ascii}
use Rattle.std.proofs.lemmas.Str.Ascii.{IsAscii-cons, IsAscii-nil}
use Rattle.std.proofs.lemmas.Str.Parse.{IsNumeralModel, digit_from_value, numerals_by_value, tells_all_ascii_digits}
use Rattle.std.specs.Str.{IsAscii, IsUtf8, all_ascii_digits}
use Rattle.std.specs.Str.Parse.{AllDigits, IsNumeral, digits_value}
use Rattle.rd_messages.specs.Framing.{length_in_value}

-- ---- a number

digits : IsNumeralModel (λ text. all_ascii_digits text ≡ true) (digits_value 10)
digits = numerals_by_value _ tells_all_ascii_digits

-- the tests say what a numeral is
pub tests_pass : (text : List ℕ) → IsNumeral 10 text → digits_value 10 text ≤ 262144
    → (nat_lt 0 (length text) && all_ascii_digits text && nat_le (digits_value 10 text) 262144) ≡ true
tests_pass text numeral fits =
    and_from _ _ (and_from _ _ (lt-ltb 0 (length text) numeral.0) (digits.from text numeral.1)) (le-leb _ _ fits)

pub tests_fail : (text : List ℕ) → (IsNumeral 10 text × (digits_value 10 text ≤ 262144) → ⊥)
    → (nat_lt 0 (length text) && all_ascii_digits text && nat_le (digits_value 10 text) 262144) ≡ false
tests_fail text other = false_from_ne_true _ (λ passes.
    let both = and_parts _ _ passes in
    let first = and_parts _ _ both.0 in
    other ((ltb-true 0 (length text) first.0, digits.to text first.1), leb-true _ _ both.1))

-- what is found of a number is what the text tells
pub length_in_value-is : (text : List ℕ) (found : Option ℕ) → SomeIff found (IsNumeral 10 text × (digits_value 10 text ≤ 262144)) (digits_value 10 text)
    → found ≡ length_in_value text
length_in_value-is text None other = rw (tests_fail text other) refl
length_in_value-is text (Some size) (is, same) = ap Some same ∙ rw (tests_pass text is.0 is.1) refl

-- digits are ASCII
pub digits_ascii : (text : List ℕ) → AllDigits 10 text → IsAscii text
digits_ascii [] all = IsAscii-nil
digits_ascii (c ∷ text) (first, others) =
    let range = digit_from_value c first in IsAscii-cons c text (omega (arith, range)) (digits_ascii text others)

-- bytes that are no text tell no number
pub not_text-is : (text : List ℕ) → (IsUtf8 text → ⊥) → None ≡ length_in_value text
not_text-is text other = length_in_value-is text None (λ is. other (IsUtf8-from_ascii text (digits_ascii text is.0.1)))
