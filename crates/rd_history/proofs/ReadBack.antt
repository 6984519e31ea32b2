-- A value whose objects have their keys in order is read back from its text; its numbers may have a sign.
use Rattle.std.proofs.Common.{◌≡◌, ◌∙◌, ◌≤◌, ◌<◌, ◌^◌, ℕ, zero, suc, ℤ, pos, negsuc, [], false, Some, ap, append-nil, arith, option_and_then, option_map, refl, sym}
use Rattle.json.specs.Json as json
use Rattle.json.specs.Lex.{tokens}
use Rattle.json.specs.Tree as tree
use Rattle.json.proofs.Printed.Decimals.{IsNumber-decimal, IsNumber-signed_decimal}
use Rattle.json.proofs.Printed.Tokens.{tokens-print}
use Rattle.json.proofs.Printed.Trees.{ArePrintable-json_tokens, value-json_tokens}
use Rattle.serde_json.specs.Data.{Data, null, boolean, number, unsigned, negative, float, string, array, object, Items, no_items, item, Members, no_members, member, put}
use Rattle.serde_json.specs.Read.{max_depth, of_items, of_json, of_members, read}
use Rattle.serde_json.specs.Written.{compact_text, has_float, items_have_float, items_outline, members_have_float, members_outline, outline}
use Rattle.serde_json.proofs.Numbers.{number_of-decimal, number_of-negative}
use Rattle.serde_json.proofs.Texts.{print-outline}

-- the members that are read after others, one after another
abbrev pub after : Members → Members → Members
after before no_members = before
after before (member key value members) = after (put key value before) members

-- a number below 0 that fits 64 bits
abbrev pub IsBelow : ℤ → Type 0
IsBelow (pos n) = ⊥
IsBelow (negsuc n) = n < 2 ^ 63

-- numbers fit 64 bits, the members of an object are in order, and arrays and objects nest at most so deep
abbrev mutual
  pub IsKept : ℕ → Data → Type 0
  IsKept most null = Unit {0}
  IsKept most (boolean b) = Unit {0}
  IsKept most (number (unsigned n)) = n < 2 ^ 64
  IsKept most (number (negative z)) = IsBelow z
  IsKept most (number (float x)) = ⊥
  IsKept most (string text) = Unit {0}
  IsKept zero (array values) = ⊥
  IsKept (suc most) (array values) = AreKept most values
  IsKept zero (object ms) = ⊥
  IsKept (suc most) (object ms) = HaveKept most ms × (after no_members ms ≡ ms)

  pub AreKept : ℕ → Items → Type 0
  AreKept most no_items = Unit {0}
  AreKept most (item value items) = IsKept most value × AreKept most items

  pub HaveKept : ℕ → Members → Type 0
  HaveKept most no_members = Unit {0}
  HaveKept most (member key value members) = IsKept most value × HaveKept most members

mutual
  numbers : (most : ℕ) (value : Data) → IsKept most value → tree.HasNumbers (outline value)
  numbers most null is = tt
  numbers most (boolean b) is = tt
  numbers most (number (unsigned n)) is = IsNumber-decimal n is
  numbers most (number (negative (pos n))) is = absurd is
  numbers most (number (negative (negsuc n))) is = IsNumber-signed_decimal (negsuc n) is
  numbers most (number (float x)) is = absurd is
  numbers most (string text) is = tt
  numbers zero (array items) is = absurd is
  numbers (suc most) (array items) is = items_numbers most items is
  numbers zero (object ms) is = absurd is
  numbers (suc most) (object ms) is = members_numbers most ms is.0

  items_numbers : (most : ℕ) (items : Items) → AreKept most items → tree.ItemsHaveNumbers (items_outline items)
  items_numbers most no_items is = tt
  items_numbers most (item value items) is = (numbers most value is.0, items_numbers most items is.1)

  members_numbers : (most : ℕ) (members : Members) → HaveKept most members → tree.MembersHaveNumbers (members_outline members)
  members_numbers most no_members is = tt
  members_numbers most (member key value members) is = (numbers most value is.0, members_numbers most members is.1)

mutual
  shallow : (most : ℕ) (value : Data) → IsKept most value → tree.depth (outline value) ≤ most
  shallow most null is = omega arith
  shallow most (boolean b) is = omega arith
  shallow most (number (unsigned n)) is = omega arith
  shallow most (number (negative z)) is = omega arith
  shallow most (number (float x)) is = absurd is
  shallow most (string text) is = omega arith
  shallow zero (array items) is = absurd is
  shallow (suc most) (array items) is = omega (arith, shallow_items most items is)
  shallow zero (object ms) is = absurd is
  shallow (suc most) (object ms) is = omega (arith, shallow_members most ms is.0)

  shallow_items : (most : ℕ) (items : Items) → AreKept most items → tree.items_depth (items_outline items) ≤ most
  shallow_items most no_items is = omega arith
  shallow_items most (item value items) is = omega (arith, shallow most value is.0, shallow_items most items is.1)

  shallow_members : (most : ℕ) (members : Members) → HaveKept most members → tree.members_depth (members_outline members) ≤ most
  shallow_members most no_members is = omega arith
  shallow_members most (member key value members) is = omega (arith, shallow most value is.0, shallow_members most members is.1)

mutual
  value_back : (most : ℕ) (value : Data) → IsKept most value → of_json (outline value) ≡ Some value
  value_back most null is = refl
  value_back most (boolean b) is = refl
  value_back most (number (unsigned n)) is = ap (option_map number) (number_of-decimal n is)
  value_back most (number (negative (pos n))) is = absurd is
  value_back most (number (negative (negsuc n))) is = ap (option_map number) (number_of-negative n is)
  value_back most (number (float x)) is = absurd is
  value_back most (string text) is = refl
  value_back zero (array items) is = absurd is
  value_back (suc most) (array items) is = ap (option_map array) (items_back most items is)
  value_back zero (object ms) is = absurd is
  value_back (suc most) (object ms) is = ap (option_map object) (members_back most no_members ms is.0 ∙ ap Some is.1)

  items_back : (most : ℕ) (items : Items) → AreKept most items → of_items (items_outline items) ≡ Some items
  items_back most no_items is = refl
  items_back most (item value items) is =
      ap (option_and_then (λ d. option_map (item d) (of_items (items_outline items)))) (value_back most value is.0) ∙ ap (option_map (item value)) (items_back most items is.1)

  members_back : (most : ℕ) (before members : Members) → HaveKept most members → of_members (members_outline members) before ≡ Some (after before members)
  members_back most before no_members is = refl
  members_back most before (member key value members) is =
      ap (option_and_then (λ d. of_members (members_outline members) (put key d before))) (value_back most value is.0)
      ∙ members_back most (put key value before) members is.1

-- the value that was written is read
pub read_back : (most : ℕ) (value : Data) → most ≤ 127 → IsKept most value → read (compact_text value) ≡ Some value
read_back most value few is =
    let described : tokens (compact_text value) ≡ tree.json_tokens (outline value) =
    ap tokens (sym (print-outline value)) ∙ tokens-print (tree.json_tokens (outline value)) (ArePrintable-json_tokens (outline value) (numbers most value is)) in
    ap (λ ts. option_and_then of_json (option_and_then (λ p. json.if_last p.0 p.1) (json.value max_depth ts))) (described ∙ sym (append-nil (tree.json_tokens (outline value))))
    ∙ ap (λ o. option_and_then of_json (option_and_then (λ p. json.if_last p.0 p.1) o))
    (value-json_tokens (outline value) max_depth [] (omega (arith, few, shallow most value is)))
    ∙ value_back most value is

mutual
  -- and has no float
  pub no_float : (most : ℕ) (value : Data) → IsKept most value → has_float value ≡ false
  no_float most null is = refl
  no_float most (boolean b) is = refl
  no_float most (number (unsigned n)) is = refl
  no_float most (number (negative z)) is = refl
  no_float most (number (float x)) is = absurd is
  no_float most (string text) is = refl
  no_float zero (array items) is = absurd is
  no_float (suc most) (array items) is = no_float_items most items is
  no_float zero (object ms) is = absurd is
  no_float (suc most) (object ms) is = no_float_members most ms is.0

  no_float_items : (most : ℕ) (items : Items) → AreKept most items → items_have_float items ≡ false
  no_float_items most no_items is = refl
  no_float_items most (item value items) is = rw (no_float most value is.0) (no_float_items most items is.1)

  no_float_members : (most : ℕ) (members : Members) → HaveKept most members → members_have_float members ≡ false
  no_float_members most no_members is = refl
  no_float_members most (member key value members) is = rw (no_float most value is.0) (no_float_members most members is.1)
