-- Parts: that numbers and kinds are read as they are written, and the limits of numbers.
use Rattle.std.proofs.Common.{◌≡◌, ◌≢◌, ◌+◌, ◌*◌, ◌^◌, ◌<◌, ◌≤◌, ℕ, List, [], ◌∷◌, Bool, true, false, refl, length, slice_index, Option, Some, None, if◌then◌else◌, IfSome, IfNone, bytes_eq, codes, Result, arith, rules}
use Rattle.std.specs.Char.{digit_value, is_ascii_digit}
use Rattle.std.specs.List.{list_all}
use Rattle.std.specs.Result.{result_ok}
use Rattle.std.specs.Str.Parse.{ParsesUnsigned, digits_value, digits_value_after}
use Rattle.std.specs.Cmp.Lexicographic.{bytes_decides}
use Rattle.std.proofs.lemmas.Bool.{and_parts, eqb-false, false_from_ne_true, le-leb, leb-true, lt-ltb, ltb-true, ne_eqb, not-true}
use Rattle.std.proofs.lemmas.Bool.Decides.{nat_tests}
use Rattle.std.proofs.lemmas.Option.{IfSome_then}
use Rattle.std.proofs.lemmas.Str.Parse.{IsNumeralModel, digits_value_short, numerals_by_value, parse_gives}
use Rattle.rd_geometry.specs.Kinds.{word_of}
use Rattle.rd_geometry.specs.declared.kind.Kind.{Kind}
use Rattle.rd_geometry.specs.declared.kind.Kind.TheVariants.{Cpm8, D64, D64e}
use Rattle.rd_policy.specs.Rules.{IsScope, IsRank}
use Rattle.rd_policy.specs.declared.limits.TheConstants.{LAST_SLOT}
use Rattle.rd_protocol.specs.Parts.{is_number, kind_of, number_of, rank_of, scope_of, slot_of}

-- What the test of a number says of its text.
record IsNumber (most : ℕ) (text : List ℕ) : Type 0 where
  some : 0 < length text
  few : length text ≤ most
  first : slice_index text 0 ≢ 48
  digits : list_all is_ascii_digit text ≡ true

number_tells : (most : ℕ) (text : List ℕ) → is_number most text ≡ true → IsNumber most text
number_tells most text is =
    let last = and_parts _ _ is in
    let third = and_parts _ _ last.0 in
    let second = and_parts _ _ third.0 in
    record {
      some = ltb-true _ _ second.0;
      few = leb-true _ _ second.1;
      first = eqb-false _ _ (not-true _ third.1);
      digits = last.1;
    }

-- what the last part of the test says, where those before it passed
pub number_test : (most : ℕ) (text : List ℕ) (digits : Bool) → 0 < length text → length text ≤ most → slice_index text 0 ≢ 48
    → digits ≡ list_all is_ascii_digit text → digits ≡ is_number most text
number_test most text digits some few first is = rw (lt-ltb 0 (length text) some, le-leb (length text) most few, ne_eqb (slice_index text 0) 48 first) is

own : IsNumeralModel (λ text. list_all is_ascii_digit text ≡ true) (digits_value 10)
own = numerals_by_value _ (search rules)

-- a number is read as it, where its type has room
pub number_read : {E : Type 0} (bits most : ℕ) (text : List ℕ) (read : Result ℕ E)
    → ParsesUnsigned bits 10 text read → 10 ^ most ≤ 2 ^ bits → is_number most text ≡ true
    → result_ok read ≡ number_of most text
number_read bits most text read parsed room is =
    let tells = number_tells most text is in
    let short = digits_value_short own text most tells.digits tells.few in
    let value = parse_gives own bits text read parsed tells.digits tells.some (omega arith) in
    rw (is, value) refl

grows : (number : ℕ) (text : List ℕ) → number ≤ digits_value_after 10 number text
grows number [] = omega arith
grows number (digit ∷ rest) = omega (arith, grows (number * 10 + digit_value digit) rest)

-- digits of which the first is not 0 write no 0
positive : (text : List ℕ) → 0 < length text → slice_index text 0 ≢ 48 → list_all is_ascii_digit text ≡ true → 1 ≤ digits_value 10 text
positive [] some first digits = absurd (omega arith)
positive (digit ∷ rest) some first digits =
    let is_digit : is_ascii_digit digit ≡ true = (and_parts (is_ascii_digit digit) (list_all is_ascii_digit rest) digits).0 in
    let value : 1 ≤ digit_value digit = grind (arith, nat_tests) in
    omega (arith, grows (0 * 10 + digit_value digit) rest)

pub number_within : (most : ℕ) (text : List ℕ) → IfSome (number_of most text) (λ number. (1 ≤ number) × (number < 10 ^ most))
number_within most text =
    elim (is_number most text) as (λ test. is_number most text ≡ test → IfSome (if test then Some (digits_value 10 text) else None) (λ number. (1 ≤ number) × (number < 10 ^ most))) [
      | true ↦ λ is.
          let tells = number_tells most text is in
          (positive text tells.some tells.first tells.digits, digits_value_short own text most tells.digits tells.few)
      | false ↦ λ is. tt
    ] refl

pub scope_within : (text : List ℕ) → IfSome (scope_of text) IsScope
scope_within text = IfSome_then (scope_of text) (number_within 6 text) (λ number within. (within.0, omega (arith, within.1)))

pub rank_within : (text : List ℕ) → IfSome (rank_of text) IsRank
rank_within text = IfSome_then (rank_of text) (number_within 4 text) (λ number within. (within.0, omega (arith, within.1)))

pub slot_within : (text : List ℕ) → IfSome (slot_of text) (λ slot. slot ≤ LAST_SLOT)
slot_within text =
    elim (bytes_eq text (codes "0")) as (λ test. IfSome (if test then Some 0 else number_of 4 text) (λ slot. slot ≤ LAST_SLOT)) [
      | true ↦ omega arith
      | false ↦ IfSome_then (number_of 4 text) (number_within 4 text) (λ number within. omega (arith, within.1))
    ]

-- the kind that was found by a word is that of the word
pub kind_found : (text : List ℕ) (found : Option Kind)
    → IfSome found (λ kind. text ≡ word_of kind) → IfNone found ((kind : Kind) → text ≢ word_of kind)
    → found ≡ kind_of text
kind_found text (Some Cpm8) is none = rw is refl
kind_found text (Some D64) is none = rw is refl
kind_found text (Some D64e) is none = rw is refl
kind_found text None is none = rw (other Cpm8, other D64, other D64e) refl
  where
    other : (kind : Kind) → bytes_eq text (word_of kind) ≡ false
    other kind = false_from_ne_true _ (λ same. none kind ((bytes_decides text (word_of kind)).0 same))
