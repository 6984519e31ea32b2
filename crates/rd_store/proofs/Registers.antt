-- What a register of images tells, and what becomes of it.
use Rattle.rd_store.proofs.Common.{halves, holds_true, empty_by_length, map_map, same_truth, ◌≡◌, inl, inr, ℕ, zero, suc, ◌+◌, ◌<◌, ◌≤◌, pos, List, [], ◌∷◌, map, length, slice_index_or, true, T, Option, Some, None, is_some, option_map, Result, Ok, Err, IfOk, refl, sym, ap, ap₂, subst, ◌∙◌, arith, add-one, Ordering, nat_cmp, is_lt, Less, Equal, Greater, IsBinarySearchResult, IsNonDecreasingBy, IsSearchInRange, ordering_index, FinMap, entries, entries-insert, entries_sorted, from_entries, get, get-entries, get-from_entries, insert, keys, len-empty, len-entries, below_all, find, is_sorted, put, nat_tests, length-map, IsNonDecreasingBy-from_all_adjacent, Int, Ghosts, Database, Held, state, Row, Has, map_of, entry_got, OpenFault, Heading, Register, ImageRow, is_one_of, Turns, Changes, IsOf, IsOpen, Stays, desk, joined, kind_with, with_marks, first_desk, AreKeys, IsPlaceIn, IsRegisterOf, IsSameHeading, entry_for, entry_in, numbered_accession, listed, number_of, register_of, as_row, heading_of, desk_of, image_spelling, marks_spelling, Desk, HasOtherImage, put_or_kept, with_image, registered, image_columns}
use Rattle.std.specs.List.{insert as insert_at}
use Rattle.rd_store.proofs.ColumnValues.{one_of_shown, one_of_spelled}
use Rattle.rd_store.proofs.QueryResults.{row_back}
use Rattle.rd_store.proofs.MarkedImages.{deed_marked, digest_marked, entries_joined, kind_marked}
use Rattle.rd_store.proofs.Orders.{number_order}

abbrev Images : Type 0
Images = FinMap nat_cmp ImageRow

abbrev Entries : Type 0
Entries = List (ℕ × ImageRow)

-- ---- the entries ascend

below_next : (a b : ℕ) → is_lt (nat_cmp a b) ≡ true → a ≤ b
below_next a b low = grind (arith, nat_tests)

rises : (es : Entries) → T (is_sorted nat_cmp es) → (k : ℕ) (d : ℕ × Heading) → suc k < length es → (slice_index_or (map entry_for es) k d).0 ≤ (slice_index_or (map entry_for es) (suc k) d).0
rises [] sorted k d low = absurd (omega (arith, low))
rises (e ∷ []) sorted k d low = absurd (omega (arith, low))
rises (e ∷ f ∷ es) sorted zero d low =
    let sides = halves (below_all nat_cmp e.0 (f ∷ es)) (is_sorted nat_cmp (f ∷ es)) sorted in
    below_next e.0 f.0 (holds_true (is_lt (nat_cmp e.0 f.0)) (halves (is_lt (nat_cmp e.0 f.0)) (below_all nat_cmp e.0 es) sides.0).0)
rises (e ∷ f ∷ es) sorted (suc k) d low =
    let sides = halves (below_all nat_cmp e.0 (f ∷ es)) (is_sorted nat_cmp (f ∷ es)) sorted in
    rises (f ∷ es) sides.1 k d (omega (arith, low))

index_rises : (a b n : ℕ) → a ≤ b → ordering_index (nat_cmp a n) ≤ ordering_index (nat_cmp b n)
index_rises a b n low = grind (arith, nat_tests)

next_rises : (es : Entries) → T (is_sorted nat_cmp es) → (acc k : ℕ) (d : ℕ × Heading) → k + 1 < length (map entry_for es)
    → ordering_index (nat_cmp (slice_index_or (map entry_for es) k d).0 acc) ≤ ordering_index (nat_cmp (slice_index_or (map entry_for es) (k + 1) d).0 acc)
next_rises es sorted acc k d low =
    let within : suc k < length es = omega (arith, low, length-map es entry_for) in
    rw add-one (index_rises _ _ acc (rises es sorted k d within))

ascend : (es : Entries) → T (is_sorted nat_cmp es) → (acc : ℕ) → IsNonDecreasingBy (λ (e : ℕ × Heading). ordering_index (nat_cmp e.0 acc)) (map entry_for es)
ascend es sorted acc = IsNonDecreasingBy-from_all_adjacent (λ (e : ℕ × Heading). ordering_index (nat_cmp e.0 acc)) (map entry_for es) (λ k d low. next_rises es sorted acc k d low)

-- ---- a place among them

item_at : (es : Entries) (k : ℕ) (d : ℕ × Heading) → k < length es → (e : ℕ × ImageRow) × Has es e × (slice_index_or (map entry_for es) k d ≡ entry_for e)
item_at [] k d low = absurd (omega (arith, low))
item_at (e ∷ es) zero d low = (e, inl refl, refl)
item_at (e ∷ es) (suc k) d low = let it = item_at es k d (omega (arith, low)) in (it.0, inr it.1, it.2)

greater_turned : (a b : ℕ) → nat_cmp a b ≡ Greater → nat_cmp b a ≡ Less
greater_turned a b above = grind (arith, nat_tests)

less_turned : (a b : ℕ) → nat_cmp a b ≡ Less → nat_cmp b a ≡ Greater
less_turned a b below = grind (arith, nat_tests)

-- where the numbers before a place are below, and those from it on are above
module _ (cmp : ℕ → ℕ → Ordering) (up : (a b : ℕ) → cmp a b ≡ Greater → cmp b a ≡ Less) (down : (a b : ℕ) → cmp a b ≡ Less → cmp b a ≡ Greater) (acc : ℕ) where
  abbrev AreBelow : Entries → ℕ → Type 0
  AreBelow es at = (k : ℕ) (d : ℕ × Heading) → k < at → cmp (slice_index_or (map entry_for es) k d).0 acc ≡ Less

  abbrev AreAbove : Entries → ℕ → Type 0
  AreAbove es at = (k : ℕ) (d : ℕ × Heading) → at ≤ k → k < length es → cmp (slice_index_or (map entry_for es) k d).0 acc ≡ Greater

  none_found : (es : Entries) (at : ℕ) → at ≤ length es → AreBelow es at → AreAbove es at → find cmp acc es ≡ None
  none_found [] at low before after = refl
  none_found (e ∷ es) zero low before after =
      let above : cmp acc e.0 ≡ Less = up e.0 acc (after 0 (entry_for e) (omega arith) (omega arith)) in
      rw above (none_found es zero (omega arith) (λ k d under. absurd (omega (arith, under))) (λ k d from under. after (suc k) d (omega arith) (omega (arith, under))))
  none_found (e ∷ es) (suc at) low before after =
      let below : cmp acc e.0 ≡ Greater = down e.0 acc (before 0 (entry_for e) (omega arith)) in
      rw below (none_found es at (omega (arith, low)) (λ k d under. before (suc k) d (omega (arith, under))) (λ k d from under. after (suc k) d (omega (arith, from)) (omega (arith, under))))

  goes_there : (image : ImageRow) (es : Entries) (at : ℕ) → at ≤ length es → AreBelow es at → AreAbove es at → insert_at (map entry_for es) at (entry_for (acc, image)) ≡ map entry_for (put cmp acc image es)
  goes_there image [] zero low before after = refl
  goes_there image [] (suc at) low before after = absurd (omega (arith, low))
  goes_there image (e ∷ es) zero low before after =
      let above : cmp acc e.0 ≡ Less = up e.0 acc (after 0 (entry_for e) (omega arith) (omega arith)) in
      rw above refl
  goes_there image (e ∷ es) (suc at) low before after =
      let below : cmp acc e.0 ≡ Greater = down e.0 acc (before 0 (entry_for e) (omega arith)) in
      rw below (ap (λ more. entry_for e ∷ more) (goes_there image es at (omega (arith, low)) (λ k d under. before (suc k) d (omega (arith, under))) (λ k d from under. after (suc k) d (omega (arith, from)) (omega (arith, under)))))

module _ (images : Images) (acc : ℕ) where
  pub placed : (found : Result ℕ ℕ) → IsSearchInRange found (length (register_of images)) → IsBinarySearchResult (λ (e : ℕ × Heading). nat_cmp e.0 acc) (register_of images) found → IsPlaceIn images acc found
  placed (Ok at) low equal = λ d.
      let it = item_at (entries images) at d (omega (arith, low, length-map (entries images) entry_for)) in
      let key : it.0.0 ≡ acc = number_order.same it.0.0 acc (subst (λ (e : ℕ × Heading). nat_cmp e.0 acc ≡ Equal) it.2 (equal d)) in
      let there : get images acc ≡ Some it.0.1 = ap (get images) (sym key) ∙ entry_got nat_cmp number_order images it.0.0 it.0.1 it.1 in
      ap (option_map heading_of) there ∙ sym (ap (λ (e : ℕ × Heading). Some e.1) it.2)
  placed (Err at) low parted =
      let split = parted (ascend (entries images) (entries_sorted images) acc) in
      let same = length-map (entries images) entry_for in
      let within : at ≤ length (entries images) = omega (arith, low, same) in
      let before = λ (k : ℕ) (d : ℕ × Heading) (under : k < at). split.0 k d (omega arith) under in
      let after = λ (k : ℕ) (d : ℕ × Heading) (from : at ≤ k) (under : k < length (entries images)). split.1 k d from (omega (arith, under, same)) in (
        get-entries images acc ∙ none_found nat_cmp greater_turned less_turned acc (entries images) at within before after,
        λ image. goes_there nat_cmp greater_turned less_turned acc image (entries images) at within before after ∙ ap (map entry_for) (sym (entries-insert number_order.total images acc image)),
      )

-- a place that is none, since the accession is nowhere
pub nowhere : (images : Images) (acc : ℕ) (heading : Heading) → get images acc ≡ None → option_map heading_of (get images acc) ≡ Some heading → ⊥
nowhere images acc heading free is = let wrong : None ≡ Some heading = sym (ap (option_map heading_of) free) ∙ is in cc

-- ---- what is told of the accessions

abbrev no_images : Images
no_images = from_entries []

pub register_empty : [] ≡ register_of no_images
register_empty = sym (ap (map entry_for) (empty_by_length (entries no_images) (sym (len-entries no_images) ∙ len-empty nat_cmp ImageRow)))

pub numbers_told : (images : Images) → map number_of (register_of images) ≡ keys images
numbers_told images = map_map number_of entry_for (entries images)

pub givens_told : (images : Images) → map numbered_accession (register_of images) ≡ map registered (entries images)
givens_told images = map_map numbered_accession entry_for (entries images)

-- the deed of an accession
pub deed_found : (images : Images) (acc : ℕ) (heading : Heading) → Some heading ≡ option_map heading_of (get images acc) → (image : ImageRow) × (get images acc ≡ Some image) × (heading ≡ heading_of image)
deed_found images acc heading is = go (get images acc) refl is
  where
    go : (found : Option ImageRow) → get images acc ≡ found → Some heading ≡ option_map heading_of found → (image : ImageRow) × (get images acc ≡ Some image) × (heading ≡ heading_of image)
    go None at was = absurd cc
    go (Some image) at was = (image, at, cc)

-- ---- one image that stands, and one that is put

module _ (d : Desk) (acc : ℕ) (image : ImageRow) (standing : Heading) (found : Some standing ≡ option_map heading_of (get d.images acc)) where
  -- it is another
  pub another : ¬ IsSameHeading standing (heading_of image) → HasOtherImage d acc image
  another apart = let it = deed_found d.images acc standing found in (it.0, it.1, subst (λ (h : Heading). ¬ IsSameHeading h (heading_of image)) it.2 apart)

-- ---- what calls leave of it

-- an image that was put
module _ {S : Type 0} (g : Ghosts S) (old new : Held S) (before after : Register) (acc : ℕ) (image : ImageRow) (free : IsOpen g old → get (desk g old).images acc ≡ None) (was : IsRegisterOf g old before) where
  pub listed_put : {T X : Type 0} (value : T) → Changes {X = X} g old new (with_image acc image (desk g old)) (Ok value) → (IsOpen g old → listed after ≡ register_of (insert (desk g old).images acc image)) → IsRegisterOf g new after
  listed_put value changes put_in o =
      let at = changes.lasts.was_open o in
      let there : with_image acc image (desk g old) ≡ put_or_kept None acc image (desk g old) = ap (λ (found : Option ImageRow). put_or_kept found acc image (desk g old)) (free at) in
      put_in at ∙ ap (λ (d : Desk). register_of d.images) (sym (changes.ok o ∙ there))

-- what is told of a register, wherever the connection is open
pub each_ok : {T X : Type 0} (r : Result T X) (O : Type 0) (P Q : T → Type 0) → (O → IfOk r P) → ((value : T) → O → P value → Q value) → IfOk r (λ value. O → Q value)
each_ok (Ok value) O P Q holds from = λ o. from value o (holds o)
each_ok (Err e) O P Q holds from = tt

-- after queries
pub register_stays : {S : Type 0} (g : Ghosts S) (a b : Held S) → Stays g a b → (register : Register) → IsOpen g b → listed register ≡ register_of (desk g a).images → listed register ≡ register_of (desk g b).images
register_stays g a b stays register o is = is ∙ ap (λ (db : Database). register_of (desk_of db.trees).images) (sym (stays.now o))

-- after the tables of version 1 were brought to version 2
pub brought_listed : {S : Type 0} (g : Ghosts S) (a b : Held S) (register : Register) (r : Result Register OpenFault) → Turns g a b (IsOf (first_desk (state g a).now.trees)) r → IfOk r (λ brought. brought ≡ register)
    → (IsOpen g a → listed register ≡ register_of (first_desk (state g a).now.trees).images) → IfOk r (IsRegisterOf g b)
brought_listed g a b register (Ok value) turns same told = λ o. ap listed same ∙ told (turns.lasts.was_open o) ∙ ap (λ (d : Desk). register_of d.images) (sym (turns.ok o).holds.is)
brought_listed g a b register (Err fault) turns same told = tt

-- ---- the register that the rows of a listing tell

module _ (table : List Row) (marks : FinMap nat_cmp (List ℕ)) (marked : List ℕ) (one : (n : ℕ) → is_one_of marked (Int (pos n)) ≡ is_some (get marks n)) where
  abbrev images : Images
  images = map_of image_spelling table

  one_entry : (e : ℕ × ImageRow) → as_row e.1 ≡ e.1 → entry_in marked (image_columns e) ≡ entry_for (e.0, with_marks (get marks e.0) e.1)
  one_entry e back = λ i. (
    e.0,
    record {
      kind = (ap₂ kind_with (one e.0) (ap (λ (image : ImageRow). image.kind) back) ∙ sym (kind_marked (get marks e.0) e.1)) i;
      deed = deed_marked (get marks e.0) e.1 i;
      digest = digest_marked (get marks e.0) e.1 i;
    },
  )

  all_entries : (es : Entries) → ((e : ℕ × ImageRow) → Has es e → as_row e.1 ≡ e.1) → map (entry_in marked) (map image_columns es) ≡ map entry_for (map (λ e. (e.0, with_marks (get marks e.0) e.1)) es)
  all_entries [] back = refl
  all_entries (e ∷ es) back = ap₂ (λ r rs. r ∷ rs) (one_entry e (back e (inl refl))) (all_entries es (λ other there. back other (inr there)))

  pub entries_told : map (entry_in marked) (map image_columns (entries images)) ≡ register_of (joined images marks)
  entries_told = all_entries (entries images) (λ e here. row_back table e.0 e.1 (entry_got nat_cmp number_order images e.0 e.1 here)) ∙ ap (map entry_for) (sym (entries_joined images marks))

-- the accessions with error bytes, where these are the keys of their table
pub one_marked : (marks : FinMap nat_cmp (List ℕ)) (marked : List ℕ) → AreKeys marks marked → (n : ℕ) → is_one_of marked (Int (pos n)) ≡ is_some (get marks n)
one_marked marks marked are n = same_truth _ _ (λ is. (are n).0 (one_of_spelled marked (Int (pos n)) is).1) (λ some. one_of_shown marked n ((are n).1 some))

-- and where there is none
pub none_marked : (n : ℕ) → is_one_of [] (Int (pos n)) ≡ is_some (get (map_of marks_spelling []) n)
none_marked n = sym (ap (λ (o : Option (List ℕ)). is_some o) (get-from_entries number_order.total [] n))
