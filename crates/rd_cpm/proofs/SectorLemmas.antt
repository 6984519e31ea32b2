-- The sectors of a sound file, extent by extent.
use Rattle.std.proofs.Common.{◌≡◌, ◌≢◌, ◌∙◌, inl, inr, ◌+◌, ◌-◌, ◌*◌, ◌/◌, ◌%◌, ◌<◌, ◌≤◌, ℕ, zero, suc, cond, ltb, eqb, List, [], ◌∷◌, length, take, slice_index, slice_index_or, sum_by, Contains, arith, refl, sym, ap, subst}
use Rattle.std.proofs.lemmas.Bool.{cases_lt, cases_order}
use Rattle.std.proofs.lemmas.Bool.Decides.{nat_tests}
use Rattle.std.proofs.lemmas.List.{get_or_default, get_or-take}
use Rattle.std.proofs.lemmas.List.Sums.{sum_by-cons}
use Rattle.std.proofs.Math.ListN.{get_or-eq_default}
use Rattle.rd_geometry.specs.Places.{CPM_UNITS}
use Rattle.rd_cpm.specs.Entries.{rc_of, extent_number_of, pointers_of, pointer_of}
use Rattle.rd_cpm.specs.Gathered.{HasExtent, IsOffDiskIn}
use Rattle.rd_cpm.specs.EntryTests.{AreInOrder, IsRecordIn, AreRecords}
use Rattle.rd_cpm.proofs.TestLemmas.{not_above}

-- the record count of an entry whose extent number is below n, or is n
pub part : ℕ → List ℕ → ℕ
part n entry = cond (ltb (extent_number_of entry) n) (rc_of entry) 0

at : ℕ → List ℕ → ℕ
at n entry = cond (eqb (extent_number_of entry) n) (rc_of entry) 0

part-next : (n : ℕ) (entry : List ℕ) → part (n + 1) entry ≡ part n entry + at n entry
unfolding part at
part-next n entry = grind (arith, nat_tests)

part-below : (n : ℕ) (entry : List ℕ) → extent_number_of entry < n → part n entry ≡ rc_of entry
unfolding part
part-below n entry low = grind (arith, nat_tests)

part-zero : (entry : List ℕ) → part 0 entry ≡ 0
unfolding part
part-zero entry = grind (arith, nat_tests)

at-other : (n : ℕ) (entry : List ℕ) → extent_number_of entry ≢ n → at n entry ≡ 0
unfolding at
at-other n entry other = grind (arith, nat_tests)

at-same : (n : ℕ) (entry : List ℕ) → extent_number_of entry ≡ n → at n entry ≡ rc_of entry
unfolding at
at-same n entry same = grind (arith, nat_tests)

sum-part-zero : (entries : List (List ℕ)) → sum_by (part 0) entries ≡ 0
sum-part-zero [] = refl
sum-part-zero (entry ∷ entries) = let none : part 0 entry ≡ 0 = part-zero entry in let rest : sum_by (part 0) entries ≡ 0 = sum-part-zero entries in
    omega (arith, sum_by-cons (part 0) entry entries)

sum-part-next : (n : ℕ) (entries : List (List ℕ)) → sum_by (part (n + 1)) entries ≡ sum_by (part n) entries + sum_by (at n) entries
sum-part-next n [] = refl
sum-part-next n (entry ∷ entries) =
    let own : part (n + 1) entry ≡ part n entry + at n entry = part-next n entry in
    let rest : sum_by (part (n + 1)) entries ≡ sum_by (part n) entries + sum_by (at n) entries = sum-part-next n entries in
    omega (arith, sum_by-cons (part (n + 1)) entry entries, sum_by-cons (part n) entry entries, sum_by-cons (at n) entry entries)

sum-part-all : (n : ℕ) (entries : List (List ℕ)) → ((j : ℕ) → j < length entries → extent_number_of (slice_index_or entries j []) < n) → sum_by (part n) entries ≡ sum_by rc_of entries
sum-part-all n [] low = refl
sum-part-all n (entry ∷ entries) low =
    let own : part n entry ≡ rc_of entry = part-below n entry (low 0 (omega arith)) in
    let rest : sum_by (part n) entries ≡ sum_by rc_of entries = sum-part-all n entries (λ j inside. low (suc j) (omega arith)) in
    omega (arith, sum_by-cons (part n) entry entries, sum_by-cons rc_of entry entries)

sum-at-none : (n : ℕ) (entries : List (List ℕ)) → ((j : ℕ) → j < length entries → extent_number_of (slice_index_or entries j []) ≢ n) → sum_by (at n) entries ≡ 0
sum-at-none n [] none = refl
sum-at-none n (entry ∷ entries) none =
    let own : at n entry ≡ 0 = at-other n entry (none 0 (omega arith)) in
    let rest : sum_by (at n) entries ≡ 0 = sum-at-none n entries (λ j inside. none (suc j) (omega arith)) in
    omega (arith, sum_by-cons (at n) entry entries)

-- where one entry alone has the number, the sum is its record count
sum-at-one : (n : ℕ) (entries : List (List ℕ)) (i : ℕ) → i < length entries → extent_number_of (slice_index_or entries i []) ≡ n
    → ((j : ℕ) → j < length entries → extent_number_of (slice_index_or entries j []) ≡ n → j ≡ i) → sum_by (at n) entries ≡ rc_of (slice_index_or entries i [])
sum-at-one n [] i inside same one = absurd (let low : i < 0 = inside in omega arith)
sum-at-one n (entry ∷ entries) zero inside same one =
    let own : at n entry ≡ rc_of entry = at-same n entry same in
    let rest : sum_by (at n) entries ≡ 0 = sum-at-none n entries (λ j low is. let wrong : suc j ≡ 0 = one (suc j) (omega arith) is in omega arith) in
    omega (arith, sum_by-cons (at n) entry entries)
sum-at-one n (entry ∷ entries) (suc i) inside same one =
    let own : at n entry ≡ 0 = at-other n entry (λ is. let wrong : 0 ≡ suc i = one 0 (omega arith) is in omega arith) in
    let rest : sum_by (at n) entries ≡ rc_of (slice_index_or entries i []) =
    sum-at-one n entries i (omega arith) same (λ j low is. let e : suc j ≡ suc i = one (suc j) (omega arith) is in omega arith) in
    omega (arith, sum_by-cons (at n) entry entries)

-- The sectors are the records of the entries whose extent numbers are below n.
pub record AreRecordsBelow (entries : List (List ℕ)) (n : ℕ) (sectors : List ℕ) : Type 0 where
  pub counted : length sectors ≡ sum_by (part n) entries
  pub full : HasExtent entries n → length sectors ≡ 128 * n
  pub each : (r : ℕ) → r < length sectors → IsRecordIn entries r (slice_index sectors r)
  pub on_disk : (r : ℕ) → r < length sectors → slice_index sectors r < CPM_UNITS

pub records_none : (entries : List (List ℕ)) → AreRecordsBelow entries 0 []
records_none entries = record {
  counted = sym (sum-part-zero entries);
  full = λ _. refl;
  each = λ r inside. absurd (let low : r < 0 = inside in omega arith);
  on_disk = λ r inside. absurd (let low : r < 0 = inside in omega arith);
}

-- a block of an entry of the list is on the disk
block_on_disk : (entries : List (List ℕ)) (own : List ℕ) (i : ℕ) → AreInOrder entries → Contains entries own → pointer_of own i ≤ 242
unfolding IsOffDiskIn
block_on_disk entries own i ordered there = not_above (pointer_of own i) 242 (λ beyond. elim (cases_lt i (length (pointers_of own))) [
  | inl inside ↦ ordered.on_disk (
    there.0,
    own,
    there.1,
    there.2,
    (i, pointer_of own i, inside, get_or_default (pointers_of own) i (pointer_of own i) 0 inside, beyond),
  )
  | inr past ↦ (let none : pointer_of own i ≡ 0 = get_or-eq_default (pointers_of own) 0 past in omega arith)
])

-- an entry of the list has no more records than an extent
pub records_fit : (entries : List (List ℕ)) (own : List ℕ) → AreInOrder entries → Contains entries own → rc_of own ≤ 128
records_fit entries own ordered there = not_above (rc_of own) 128 (λ many. ordered.counts (there.0, own, there.1, there.2, many))

-- an entry with a later one has as many records as an extent
records_full : (entries : List (List ℕ)) (own : List ℕ) → AreInOrder entries → Contains entries own → HasExtent entries (extent_number_of own + 1) → 128 ≤ rc_of own
records_full entries own ordered there next = not_above 128 (rc_of own) (λ few. ordered.full (
  there.0,
  own,
  there.1,
  there.2,
  record {
    few = few;
    later = (next.0, next.1, next.2, next.3, let is : extent_number_of next.1 ≡ extent_number_of own + 1 = next.4 in omega arith);
  },
))

-- one entry alone has its number
one_of_number : (entries : List (List ℕ)) (i j : ℕ) → AreInOrder entries → i < length entries → j < length entries
    → extent_number_of (slice_index_or entries j []) ≡ extent_number_of (slice_index_or entries i []) → j ≡ i
one_of_number entries i j ordered low_i low_j same = elim (cases_order j i) [
  | inl is ↦ is
  | inr apart ↦ elim apart [
    | inl before ↦ absurd (ordered.once (record { one = j; other = i; first = before; inside = low_i; same = same }))
    | inr after ↦ absurd (ordered.once (record { one = i; other = j; first = after; inside = low_j; same = sym same }))
  ]
]

-- record r of the entries, where the entry of its extent was added behind the first ones
new_record : (entries : List (List ℕ)) (n r t start : ℕ) (own new : List ℕ) → Contains entries own → extent_number_of own ≡ n → start ≡ 128 * n → r ≡ start + t → t < 128
    → slice_index new (start + t) ≡ 8 * pointer_of own (t / 8) + t % 8 → IsRecordIn entries r (slice_index new r)
new_record entries n r t start own new there extent at_start place low is = record {
  entry = own;
  there = there;
  extent = omega arith;
  sector =
      let in_extent : r % 128 ≡ t = omega arith in
      let in_block : r % 8 ≡ t % 8 = omega arith in
      rw (in_extent, in_block, place) is;
}

-- extent n has more records
pub records_more : (entries : List (List ℕ)) (n : ℕ) (own : List ℕ) (old new : List ℕ) → AreInOrder entries → AreRecordsBelow entries n old
    → Contains entries own → extent_number_of own ≡ n → take (length old) new ≡ old → length new ≡ length old + rc_of own
    → ((t : ℕ) → t < rc_of own → slice_index new (length old + t) ≡ 8 * pointer_of own (t / 8) + t % 8)
    → AreRecordsBelow entries (n + 1) new
records_more entries n own old new ordered are there extent before count each =
    let i : ℕ = there.0 in
    let own_at : slice_index_or entries i [] ≡ own = get_or_default entries i [] own there.1 ∙ there.2 in
    let number : extent_number_of (slice_index_or entries i []) ≡ n = ap extent_number_of own_at ∙ extent in
    let stands : HasExtent entries n = (i, own, there.1, there.2, extent) in
    let start : length old ≡ 128 * n = are.full stands in
    let fit : rc_of own ≤ 128 = records_fit entries own ordered there in
    let kept : (r : ℕ) → r < length old → slice_index old r ≡ slice_index new r =
    λ r low. ap (λ l. slice_index l r) (sym before) ∙ get_or-take (length old) new r 0 low in
    record {
      counted =
          let was : length old ≡ sum_by (part n) entries = are.counted in
          let same : rc_of (slice_index_or entries i []) ≡ rc_of own = ap rc_of own_at in
          omega (arith, sum-part-next n entries, sum-at-one n entries i there.1 number (λ j low is. one_of_number entries i j ordered there.1 low (is ∙ sym number)));
      full = λ next.
          let whole : 128 ≤ rc_of own = records_full entries own ordered there (subst (λ m. HasExtent entries (m + 1)) (sym extent) next) in omega arith;
      each = λ r inside. elim (cases_lt r (length old)) [
        | inl low ↦ subst (IsRecordIn entries r) (kept r low) (are.each r low)
        | inr high ↦ new_record entries n r (r - length old) (length old) own new there extent start (omega arith) (omega arith) (each (r - length old) (omega arith))
      ];
      on_disk = λ r inside. elim (cases_lt r (length old)) [
        | inl low ↦ subst (λ u. u < CPM_UNITS) (kept r low) (are.on_disk r low)
        | inr high ↦ (
            let t : ℕ = r - length old in
            let block : pointer_of own (t / 8) ≤ 242 = block_on_disk entries own (t / 8) ordered there in
            let place : length old + t ≡ r = omega arith in
            let is : slice_index new r ≡ 8 * pointer_of own (t / 8) + t % 8 = subst (λ k. slice_index new k ≡ 8 * pointer_of own (t / 8) + t % 8) place (each t (omega arith)) in
            omega arith)
      ];
    }

-- no extent from a missing one on is there
none_after : (entries : List (List ℕ)) (n : ℕ) → AreInOrder entries → ¬ HasExtent entries n → (m : ℕ) → ¬ HasExtent entries (n + m)
none_after entries n ordered none zero found = none (let same : n + 0 ≡ n = omega arith in subst (HasExtent entries) same found)
none_after entries n ordered none (suc m) found = ordered.dense (
  found.0,
  found.1,
  found.2,
  found.3,
  record {
    later = let is : extent_number_of found.1 ≡ n + suc m = found.4 in omega arith;
    alone = λ number next has. none_after entries n ordered none m
        (let is : extent_number_of found.1 ≡ n + suc m = found.4 in let same : number ≡ n + m = omega arith in subst (HasExtent entries) same has);
  },
)

-- where extent n is missing the sectors are all
pub records_all : (entries : List (List ℕ)) (n : ℕ) (sectors : List ℕ) → AreInOrder entries → AreRecordsBelow entries n sectors → ¬ HasExtent entries n
    → AreRecords entries sectors
records_all entries n sectors ordered are none = record {
  count = are.counted ∙ sum-part-all n entries below;
  each = are.each;
  on_disk = λ k x inside. subst (λ u. u < CPM_UNITS) (get_or_default sectors k 0 x inside) (are.on_disk k inside);
}
  where
    below : (j : ℕ) → j < length entries → extent_number_of (slice_index_or entries j []) < n
    below j low = elim (cases_lt (extent_number_of (slice_index_or entries j [])) n) [
      | inl less ↦ less
      | inr more ↦ absurd (none_after entries n ordered none (extent_number_of (slice_index_or entries j []) - n)
          (j, slice_index_or entries j [], low, get_or_default entries j (slice_index_or entries j []) [] low, let sum : extent_number_of (slice_index_or entries j []) ≡ n + (extent_number_of (slice_index_or entries j []) - n) = omega arith in sum))
    ]

-- no extent number is as high as 2,048
pub none_at_last : (entries : List (List ℕ)) → ¬ HasExtent entries 2048
none_at_last entries found = let is : extent_number_of found.1 ≡ 2048 = found.4 in omega arith
