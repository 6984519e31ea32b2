-- How many slots have a property: as many as the files that pass a test of it.
use Rattle.std.proofs.Common.{◌≡◌, ◌∙◌, inl, inr, ◌<◌, ◌≤◌, ℕ, zero, suc, List, [], ◌∷◌, All, AllPairs, Bool, Contains, ap, sym, arith, cond, count_by, eqb, false, filter, get_or, length, map, refl, slice_index_or, subst, true}
use Rattle.std.specs.Cmp.{nat_eq_equiv}
use Rattle.std.proofs.lemmas.Bool.{cases_Bool, eq-eqb}
use Rattle.std.proofs.lemmas.Bool.Decides.{Decides-eqb}
use Rattle.std.proofs.lemmas.List.{length-map}
use Rattle.std.proofs.lemmas.List.Elements.{All-contains, Contains-get_or, All-filter, All-head, All-map, All-tail, filter_passes}
use Rattle.std.proofs.lemmas.List.Folds.{list_any_at}
use Rattle.std.proofs.lemmas.List.Sums.{count_by-le-length, length-filter}
use Rattle.std.proofs.lemmas.Map.Made.{IsDistinct-from_AllPairs, length-le_from_is_member}
use Rattle.rd_cbm.specs.Counts.{IsCount}
use Rattle.rd_volume.proofs.ListLemmas.{found_number, numbers_ascend}

-- ascending items after the first, and before them
pairs_tail : {X : Type 0} (R : X → X → Type 0) (x : X) (xs : List X) → AllPairs R (x ∷ xs) → AllPairs R xs
pairs_tail R x xs all i j d before inside = all (suc i) (suc j) d (omega arith) (omega arith)

pairs_head : {X : Type 0} (R : X → X → Type 0) (x : X) (xs : List X) → AllPairs R (x ∷ xs) → All (R x) xs
pairs_head R x xs all i d inside = all zero (suc i) d (omega arith) (omega arith)

pairs_cons : {X : Type 0} (R : X → X → Type 0) (x : X) (xs : List X) → All (R x) xs → AllPairs R xs → AllPairs R (x ∷ xs)
pairs_cons R x xs first rest i zero d before inside = absurd (omega arith)
pairs_cons R x xs first rest zero (suc j) d before inside = first j d (omega arith)
pairs_cons R x xs first rest (suc i) (suc j) d before inside = rest i j d (omega arith) (omega arith)

pairs_filter : {X : Type 0} (R : X → X → Type 0) (test : X → Bool) (xs : List X) → AllPairs R xs → AllPairs R (filter test xs)
pairs_filter R test [] all = all
pairs_filter R test (x ∷ xs) all =
    elim (test x) as (λ b. AllPairs R (cond b (x ∷ filter test xs) (filter test xs))) [
      | true ↦ pairs_cons R x (filter test xs) (All-filter test (R x) xs (pairs_head R x xs all)) (pairs_filter R test xs (pairs_tail R x xs all))
      | false ↦ pairs_filter R test xs (pairs_tail R x xs all)
    ]

here : (n m : ℕ) (ns : List ℕ) → m ≡ n → Contains (m ∷ ns) n
here n m ns is = (zero, omega arith, is)

later : (n m : ℕ) (ns : List ℕ) → Contains ns n → Contains (m ∷ ns) n
later n m ns there = (suc there.0, let inside : there.0 < length ns = there.1 in omega arith, there.2)

-- a number that stands first, or later
first_or_later : {Q : Type 0} (n m : ℕ) (ns : List ℕ) (k : ℕ) → k < length (m ∷ ns) → slice_index_or (m ∷ ns) k n ≡ n → (m ≡ n → Q) → (Contains ns n → Q) → Q
first_or_later n m ns zero inside is first rest = first is
first_or_later n m ns (suc k) inside is first rest = rest (k, omega arith, is)

-- an item with a number that has the property passes the test
kept : {X : Type 0} (number : X → ℕ) (test : X → Bool) (P : ℕ → Type 0) (xs : List X) (n : ℕ) → All (λ x. P (number x) → test x ≡ true) xs
    → P n → Contains (map number xs) n → Contains (map number (filter test xs)) n
kept number test P [] n all has there = there
kept number test P (x ∷ xs) n all has there =
    elim (cases_Bool (test x)) [
      | inl passed ↦ rw passed (first_or_later n (number x) (map number xs) there.0 there.1 there.2
          (λ is. here n (number x) (map number (filter test xs)) is)
          (λ rest. later n (number x) (map number (filter test xs)) (kept number test P xs n (All-tail (λ x. P (number x) → test x ≡ true) x xs all) has rest)))
      | inr failed ↦ rw failed (first_or_later n (number x) (map number xs) there.0 there.1 there.2
          (λ is. absurd (let passed : test x ≡ true = All-head (λ x. P (number x) → test x ≡ true) x xs all (subst P (sym is) has) in let wrong : true ≡ false = sym passed ∙ failed in cc))
          (λ rest. kept number test P xs n (All-tail (λ x. P (number x) → test x ≡ true) x xs all) has rest))
    ]

-- As many slots have a property as items pass a test of it.
pub counted : {X : Type 0} (number : X → ℕ) (test : X → Bool) (P : ℕ → Type 0) (xs : List X) → AllPairs (λ x y. number x < number y) xs
    → All (λ x. test x ≡ true → P (number x)) xs → All (λ x. P (number x) → test x ≡ true) xs → ((n : ℕ) → P n → Contains (map number xs) n)
    → IsCount P (count_by test xs)
counted number test P xs ascend passes needs among = record {
  numbers = map number (filter test xs);
  each = λ n. (
    λ there. All-contains P (map number (filter test xs)) n (All-map P number (filter test xs) (λ i d inside.
        All-filter test (λ x. test x ≡ true → P (number x)) xs passes i d inside (filter_passes test xs i d inside))) there,
    λ has. kept number test P xs n needs has (among n has),
  );
  once = λ i j d before inside same.
      let ascending = numbers_ascend number (filter test xs) (pairs_filter (λ x y. number x < number y) test xs ascend) i j d before inside in
      absurd (omega arith);
  many = length-map (filter test xs) number ∙ length-filter test xs;
}

-- all items are as many as there are slots
pub counted_all : {X : Type 0} (number : X → ℕ) (P : ℕ → Type 0) (xs : List X) → AllPairs (λ x y. number x < number y) xs
    → All (λ x. P (number x)) xs → ((n : ℕ) → P n → Contains (map number xs) n) → IsCount P (length xs)
counted_all number P xs ascend all among = record {
  numbers = map number xs;
  each = λ n. (λ there. All-contains P (map number xs) n (All-map P number xs all) there, among n);
  once = λ i j d before inside same. let ascending = numbers_ascend number xs ascend i j d before inside in absurd (omega arith);
  many = length-map xs number;
}

-- nothing has a property that nothing can have
pub counted_none : (P : ℕ → Type 0) → ((n : ℕ) → P n → ⊥) → IsCount P 0
counted_none P none = record {
  numbers = [];
  each = λ n. (λ there. absurd (let inside : there.0 < 0 = there.1 in omega arith), λ has. absurd (none n has));
  once = λ i j d before inside same. absurd (let within : j < 0 = inside in omega arith);
  many = refl;
}

not_more : (P : ℕ → Type 0) (m n : ℕ) → IsCount P m → IsCount P n → m ≤ n
not_more P m n of_m of_n =
    let fewer : length of_m.numbers ≤ length of_n.numbers =
    length-le_from_is_member nat_eq_equiv of_m.numbers of_n.numbers (IsDistinct-from_AllPairs Decides-eqb of_m.numbers of_m.once) (λ q there.
    let has : P q = found_number P of_m.numbers q (λ i d inside. (of_m.each (slice_index_or of_m.numbers i d)).0 (Contains-get_or of_m.numbers i d inside)) there in
    let other : Contains of_n.numbers q = (of_n.each q).1 has in
    list_any_at (eqb q) of_n.numbers other.0 q other.1 (eq-eqb q (get_or of_n.numbers other.0 q) (sym other.2))) in
    let first : length of_m.numbers ≡ m = of_m.many in
    let second : length of_n.numbers ≡ n = of_n.many in
    omega arith

-- a property has one count
pub one_count : (P : ℕ → Type 0) (m n : ℕ) → IsCount P m → IsCount P n → m ≡ n
one_count P m n of_m of_n =
    let low = not_more P m n of_m of_n in
    let high = not_more P n m of_n of_m in
    omega arith

-- a count of the files that pass a test, as the code has it
pub counted_as : {X : Type 0} (P : ℕ → Type 0) (test : X → Bool) (files shown : List X) (count : ℕ) → shown ≡ files → count ≡ count_by test shown
    → IsCount P (count_by test files) → IsCount P count
counted_as P test files shown count same is of_files = subst (IsCount P) (sym (is ∙ ap (count_by test) same)) of_files

pub small_count : {X : Type 0} (test : X → Bool) (files shown : List X) (count most : ℕ) → shown ≡ files → count ≡ count_by test shown → length files ≤ most
    → count ≤ most
small_count test files shown count most same is few =
    let size : length shown ≡ length files = ap length same in
    let part : count_by test shown ≤ length shown = count_by-le-length test shown in
    omega arith
