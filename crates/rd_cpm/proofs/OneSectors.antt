-- The sectors of a sound file are one list.
use Rattle.std.proofs.Common.{◌≡◌, ◌≢◌, ◌∙◌, inl, inr, ◌+◌, ◌-◌, ◌*◌, ◌/◌, ◌%◌, ◌<◌, ◌≤◌, ℕ, suc, List, [], ◌∷◌, AllPairs, Contains, slice_index, slice_index_or, length, sum_by, take, drop, arith, refl, sym, ap, ext_get_or}
use Rattle.std.specs.List.{remove}
use Rattle.std.proofs.lemmas.Bool.{cases_eq, cases_order}
use Rattle.std.proofs.lemmas.List.{get_or_default, get_or-drop, get_or-take, length-drop, length-take}
use Rattle.std.proofs.lemmas.List.Elements.{Contains-append_left, Contains-append_right}
use Rattle.std.proofs.lemmas.List.Sums.{sum_by-cons, sum_by-remove}
use Rattle.rd_cpm.specs.Entries.{rc_of, pointer_of}
use Rattle.rd_cpm.specs.Files.{Directory}
use Rattle.rd_cpm.specs.Faults.{HasDuplicate, IsSound}
use Rattle.rd_cpm.specs.Contents.{IsRecord, AreSectors}

-- a number stays when another is removed
still_there : (xs : List ℕ) (i y : ℕ) → slice_index_or xs i y ≢ y → Contains xs y → Contains (remove xs i) y
still_there xs i y other there = elim (cases_order there.0 i) [
  | inl same ↦ absurd (other (ap (λ k. slice_index_or xs k y) (sym same) ∙ there.2))
  | inr apart ↦ elim apart [
    | inl before ↦ Contains-append_left (take i xs) (drop (suc i) xs) y (
      there.0,
      (let inside : there.0 < length xs = there.1 in simp length-take (omega arith)),
      get_or-take i xs there.0 y before ∙ there.2,
    )
    | inr after ↦ Contains-append_right (take i xs) (drop (suc i) xs) y (
      there.0 - suc i,
      (let inside : there.0 < length xs = there.1 in simp length-drop (omega arith)),
      get_or-drop (suc i) xs (there.0 - suc i) y ∙ ap (λ k. slice_index_or xs k y) (let at : suc i + (there.0 - suc i) ≡ there.0 = omega arith in at) ∙ there.2,
    )
  ]
]

-- different numbers that are all among others weigh no more together
no_more : (weight : ℕ → ℕ) (xs ys : List ℕ) → AllPairs (λ a b. a ≢ b) xs → ((x : ℕ) → Contains xs x → Contains ys x) → sum_by weight xs ≤ sum_by weight ys
no_more weight [] ys once among = omega arith
no_more weight (x ∷ xs) ys once among =
    let own : Contains ys x = among x (0, omega arith, refl) in
    let is : slice_index_or ys own.0 x ≡ x = own.2 in
    let rest : sum_by weight xs ≤ sum_by weight (remove ys own.0) =
    no_more weight xs (remove ys own.0) (λ i j d before inside. once (suc i) (suc j) d (omega arith) (omega arith))
    (λ y there. still_there ys own.0 y
    (λ same. once 0 (suc there.0) y (omega arith) (let low : there.0 < length xs = there.1 in omega arith)
    (sym is ∙ get_or_default ys own.0 x y own.1 ∙ same ∙ sym there.2))
    (among y (suc there.0, (let low : there.0 < length xs = there.1 in omega arith), there.2))) in
    let whole : sum_by weight (remove ys own.0) + weight (slice_index_or ys own.0 x) ≡ sum_by weight ys = sum_by-remove weight ys own.0 x own.1 in
    let value : weight (slice_index_or ys own.0 x) ≡ weight x = ap weight is in
    omega (arith, sum_by-cons weight x xs)

-- a record of a file without duplicate extents is in one sector
one_record : (d : Directory) (k r u v : ℕ) → ¬ HasDuplicate d k → IsRecord d k r u → IsRecord d k r v → u ≡ v
one_record d k r u v none one other = elim (cases_eq one.entry other.entry) [
  | inl same ↦ one.sector ∙ ap (λ e. 8 * pointer_of (d e) (r % 128 / 8) + r % 8) same ∙ sym other.sector
  | inr two ↦ absurd (none (record {
    one = one.entry;
    other = other.entry;
    one_of_file = one.of_file;
    other_of_file = other.of_file;
    two = two;
    same = one.extent ∙ sym other.extent;
  }))
]

not_more : (d : Directory) (k : ℕ) (xs ys : List ℕ) → AreSectors d k xs → AreSectors d k ys → length xs ≤ length ys
not_more d k xs ys one other =
    let sums = no_more (λ j. rc_of (d j)) one.entries other.entries one.of_file.once
    (λ j there. (other.of_file.each j).1 ((one.of_file.each j).0 there)) in
    let one_count : length xs ≡ sum_by (λ j. rc_of (d j)) one.entries = one.count in
    let other_count : length ys ≡ sum_by (λ j. rc_of (d j)) other.entries = other.count in
    omega arith

-- the sectors of a sound file are one list
pub one_sectors : (d : Directory) (k : ℕ) (xs ys : List ℕ) → IsSound d k → AreSectors d k xs → AreSectors d k ys → xs ≡ ys
one_sectors d k xs ys sound one other =
    let low : length xs ≤ length ys = not_more d k xs ys one other in
    let high : length ys ≤ length xs = not_more d k ys xs other one in
    ext_get_or 0 xs ys (omega arith) (λ r inside.
    one_record d k r (slice_index xs r) (slice_index ys r) sound.no_duplicate (one.each r inside) (other.each r (omega arith)))
