-- What is written is read back.
use Rattle.std.proofs.Common.{◌≡◌, ◌∙◌, ◌≤◌, ◌<◌, ◌^◌, ◌&&◌, ℕ, zero, suc, List, [], ◌∷◌, Bool, true, false, Option, Some, None, Ordering, Less, Equal, Greater, ap, append-nil, arith, max, option_and_then, option_map, refl, sym, subst}
use Rattle.std.specs.Cmp.Lexicographic.{slice_cmp}
use Rattle.std.specs.Ordering.{is_gt, match_ordering, nat_cmp}
use Rattle.json.specs.Json as json
use Rattle.json.specs.Lex.{tokens}
use Rattle.json.specs.Print.{print}
use Rattle.json.specs.Tree as tree
use Rattle.json.proofs.Printed.Decimals.{IsNumber-decimal}
use Rattle.json.proofs.Printed.Tokens.{tokens-print}
use Rattle.json.proofs.Printed.Trees.{ArePrintable-json_tokens, value-json_tokens}
use Rattle.serde_json.specs.Data.{Data, null, boolean, number, unsigned, negative, float, string, array, object, Items, no_items, item, Members, no_members, member, put}
use Rattle.serde_json.specs.Read.{max_depth, number_of, of_items, of_json, of_members, read}
use Rattle.serde_json.specs.Written.{compact_text, items_outline, members_outline, outline}
use Rattle.serde_json.proofs.Numbers.{number_of-decimal}
use Rattle.serde_json.proofs.Texts.{print-outline}
use Rattle.rd_protocol.specs.ReadableData.{AreReadable, HasReadable, IsReadable, comes_after, joined}

joined_none : (members : Members) → joined members no_members ≡ members
joined_none no_members = refl
joined_none (member key value members) = ap (member key value) (joined_none members)

joined_again : (one two three : Members) → joined (joined one two) three ≡ joined one (joined two three)
joined_again no_members two three = refl
joined_again (member key value members) two three = ap (member key value) (joined_again members two three)

-- a member whose key comes after the others is put behind them
put_after : (key : List ℕ) (value : Data) (members : Members) → comes_after key members ≡ true → put key value members ≡ joined members (member key value no_members)
put_after key value no_members after = refl
put_after key value (member other first ms) after = go (slice_cmp nat_cmp key other) after (put_after key value ms)
  where
    go : (order : Ordering) → (is_gt order && comes_after key ms) ≡ true → (comes_after key ms ≡ true → put key value ms ≡ joined ms (member key value no_members))
        → match_ordering order (member key value (member other first ms)) (member other value ms) (member other first (put key value ms))
        ≡ member other first (joined ms (member key value no_members))
    go Less is rest = absurd cc
    go Equal is rest = absurd cc
    go Greater is rest = ap (member other first) (rest is)

mutual
  -- numbers are numbers
  has_numbers : (most : ℕ) (value : Data) → IsReadable most value → tree.HasNumbers (outline value)
  has_numbers most null is = tt
  has_numbers most (boolean b) is = tt
  has_numbers most (number (unsigned n)) is = IsNumber-decimal n is
  has_numbers most (number (negative z)) is = absurd is
  has_numbers most (number (float x)) is = absurd is
  has_numbers most (string text) is = tt
  has_numbers zero (array items) is = absurd is
  has_numbers (suc most) (array items) is = items_numbers most items is
  has_numbers zero (object ms) is = absurd is
  has_numbers (suc most) (object ms) is = members_numbers most no_members ms is

  items_numbers : (most : ℕ) (items : Items) → AreReadable most items → tree.ItemsHaveNumbers (items_outline items)
  items_numbers most no_items is = tt
  items_numbers most (item value items) is = (has_numbers most value is.0, items_numbers most items is.1)

  members_numbers : (most : ℕ) (before members : Members) → HasReadable most before members → tree.MembersHaveNumbers (members_outline members)
  members_numbers most before no_members is = tt
  members_numbers most before (member key value members) is =
      (has_numbers most value is.1, members_numbers most (joined before (member key value no_members)) members is.2)

mutual
  -- arrays and objects nest no deeper
  shallow : (most : ℕ) (value : Data) → IsReadable most value → tree.depth (outline value) ≤ most
  shallow most null is = omega arith
  shallow most (boolean b) is = omega arith
  shallow most (number (unsigned n)) is = omega arith
  shallow most (number (negative z)) is = absurd is
  shallow most (number (float x)) is = absurd is
  shallow most (string text) is = omega arith
  shallow zero (array items) is = absurd is
  shallow (suc most) (array items) is = omega (arith, shallow_items most items is)
  shallow zero (object ms) is = absurd is
  shallow (suc most) (object ms) is = omega (arith, shallow_members most no_members ms is)

  shallow_items : (most : ℕ) (items : Items) → AreReadable most items → tree.items_depth (items_outline items) ≤ most
  shallow_items most no_items is = omega arith
  shallow_items most (item value items) is = omega (arith, shallow most value is.0, shallow_items most items is.1)

  shallow_members : (most : ℕ) (before members : Members) → HasReadable most before members → tree.members_depth (members_outline members) ≤ most
  shallow_members most before no_members is = omega arith
  shallow_members most before (member key value members) is =
      omega (arith, shallow most value is.1, shallow_members most (joined before (member key value no_members)) members is.2)

mutual
  -- the value that was written
  value_back : (most : ℕ) (value : Data) → IsReadable most value → of_json (outline value) ≡ Some value
  value_back most null is = refl
  value_back most (boolean b) is = refl
  value_back most (number (unsigned n)) is = ap (option_map number) (number_of-decimal n is)
  value_back most (number (negative z)) is = absurd is
  value_back most (number (float x)) is = absurd is
  value_back most (string text) is = refl
  value_back zero (array items) is = absurd is
  value_back (suc most) (array items) is = ap (option_map array) (items_back most items is)
  value_back zero (object ms) is = absurd is
  value_back (suc most) (object ms) is = ap (option_map object) (members_back most no_members ms is)

  items_back : (most : ℕ) (items : Items) → AreReadable most items → of_items (items_outline items) ≡ Some items
  items_back most no_items is = refl
  items_back most (item value items) is =
      ap (option_and_then (λ d. option_map (item d) (of_items (items_outline items)))) (value_back most value is.0) ∙ ap (option_map (item value)) (items_back most items is.1)

  members_back : (most : ℕ) (before members : Members) → HasReadable most before members → of_members (members_outline members) before ≡ Some (joined before members)
  members_back most before no_members is = ap Some (sym (joined_none before))
  members_back most before (member key value members) is =
      ap (option_and_then (λ d. of_members (members_outline members) (put key d before))) (value_back most value is.1)
      ∙ ap (of_members (members_outline members)) (put_after key value before is.0)
      ∙ members_back most (joined before (member key value no_members)) members is.2
      ∙ ap Some (joined_again before (member key value no_members) members)

-- the text of a value is that of no other
pub read_back : (most : ℕ) (value : Data) → most ≤ 127 → IsReadable most value → read (compact_text value) ≡ Some value
read_back most value few is =
    let numbers = has_numbers most value is in
    let low = shallow most value is in
    let described : tokens (compact_text value) ≡ tree.json_tokens (outline value) =
    ap tokens (sym (print-outline value)) ∙ tokens-print (tree.json_tokens (outline value)) (ArePrintable-json_tokens (outline value) numbers) in
    ap (λ ts. option_and_then of_json (option_and_then (λ p. json.if_last p.0 p.1) (json.value max_depth ts))) (described ∙ sym (append-nil (tree.json_tokens (outline value))))
    ∙ ap (λ o. option_and_then of_json (option_and_then (λ p. json.if_last p.0 p.1) o)) (value-json_tokens (outline value) max_depth [] (omega (arith, few, low)))
    ∙ value_back most value is

-- two values of one text are the same
pub one_value : (most : ℕ) (one other : Data) → most ≤ 127 → IsReadable most one → IsReadable most other → compact_text one ≡ compact_text other → one ≡ other
one_value most one other few first second same =
    let is : Some one ≡ Some other = sym (read_back most one few first) ∙ ap read same ∙ read_back most other few second in cc
