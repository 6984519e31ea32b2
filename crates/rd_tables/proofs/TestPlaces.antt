-- Where a test turns in a list in order, and what lies between two such places.
use Rattle.rd_tables.proofs.Common.{◌≡◌, inl, inr, ℕ, zero, suc, ◌<◌, ◌≤◌, List, [], ◌∷◌, ◌&&◌, map, filter, take, drop, length, get_or, Bool, true, false, not, cond, T, sym, ap, refl, ◌∙◌, arith, is_lt, Ordering, IsPartitionedBy, IsPartitionPoint, below_all, is_sorted, cases_order, length-map}
use Rattle.rd_tables.proofs.ListLemmas.{halves, holds_true, wholes}
use Rattle.std.proofs.lemmas.List.{get_or-map}

-- ---- entries by their keys

module _ {K X : Type 0} (cmp : K → K → Ordering) where
  above : (key : K) (es : List (K × X)) → T (below_all cmp key es) → (j : ℕ) (d : K × X) → j < length es → is_lt (cmp key (get_or es j d).0) ≡ true
  above key [] below j d within = absurd (omega (arith, within))
  above key (e ∷ es) below zero d within = holds_true _ (halves (is_lt (cmp key e.0)) (below_all cmp key es) below).0
  above key (e ∷ es) below (suc j) d within = above key es (halves (is_lt (cmp key e.0)) (below_all cmp key es) below).1 j d (omega (arith, within))

  -- each key is below each later one
  pub pairs_rise : (es : List (K × X)) → T (is_sorted cmp es) → (i j : ℕ) (d : K × X) → i < j → j < length es → is_lt (cmp (get_or es i d).0 (get_or es j d).0) ≡ true
  pairs_rise [] sorted i j d before within = absurd (omega (arith, within))
  pairs_rise (e ∷ es) sorted i zero d before within = absurd (omega (arith, before))
  pairs_rise (e ∷ es) sorted zero (suc j) d before within = above e.0 es (halves (below_all cmp e.0 es) (is_sorted cmp es) sorted).0 j d (omega (arith, within))
  pairs_rise (e ∷ es) sorted (suc i) (suc j) d before within = pairs_rise es (halves (below_all cmp e.0 es) (is_sorted cmp es) sorted).1 i j d (omega (arith, before)) (omega (arith, within))

  -- a test that holds of each key below one of which it holds turns once
  pub parted : (test : K → Bool) → ((a b : K) → is_lt (cmp a b) ≡ true → test b ≡ true → test a ≡ true) → (es : List (K × X)) → T (is_sorted cmp es) → IsPartitionedBy (λ (e : K × X). test e.0) es
  parted test lower es sorted i j d low within holds = elim (cases_order i j) [
    | inl same ↦ ap (λ k. test (get_or es k d).0) same ∙ holds
    | inr differ ↦ elim differ [
      | inl before ↦ lower _ _ (pairs_rise es sorted i j d before within) holds
      | inr after ↦ absurd (omega (arith, low, after))
    ]
  ]

  -- what follows a place, and what comes before one, is in order too
  pub sorted_after : (n : ℕ) (es : List (K × X)) → T (is_sorted cmp es) → T (is_sorted cmp (drop n es))
  sorted_after zero es sorted = sorted
  sorted_after (suc n) [] sorted = tt
  sorted_after (suc n) (e ∷ es) sorted = sorted_after n es (halves (below_all cmp e.0 es) (is_sorted cmp es) sorted).1

  below_front : (key : K) (n : ℕ) (es : List (K × X)) → T (below_all cmp key es) → T (below_all cmp key (take n es))
  below_front key zero es below = tt
  below_front key (suc n) [] below = tt
  below_front key (suc n) (e ∷ es) below =
      let parts = halves (is_lt (cmp key e.0)) (below_all cmp key es) below in
      wholes (is_lt (cmp key e.0)) (below_all cmp key (take n es)) parts.0 (below_front key n es parts.1)

  pub sorted_before : (n : ℕ) (es : List (K × X)) → T (is_sorted cmp es) → T (is_sorted cmp (take n es))
  sorted_before zero es sorted = tt
  sorted_before (suc n) [] sorted = tt
  sorted_before (suc n) (e ∷ es) sorted =
      let parts = halves (below_all cmp e.0 es) (is_sorted cmp es) sorted in
      wholes (below_all cmp e.0 (take n es)) (is_sorted cmp (take n es)) (below_front e.0 n es parts.0) (sorted_before n es parts.1)

-- what is made of each turns where that does
pub parted_map : {A B : Type 0} (test : B → Bool) (f : A → B) (xs : List A) → IsPartitionedBy (λ x. test (f x)) xs → IsPartitionedBy test (map f xs)
parted_map test f [] parts i j d low within holds = absurd (omega (arith, within))
parted_map test f (x ∷ xs) parts i j d low within holds =
    let inside : j < length (x ∷ xs) = omega (arith, within, length-map (x ∷ xs) f) in
    ap test (get_or-map f (x ∷ xs) i x d (omega (arith, low, inside)))
    ∙ parts i j x low inside (sym (ap test (get_or-map f (x ∷ xs) j x d inside)) ∙ holds)

-- ---- between two places

-- the test holds of all before the place, and of none from it on
abbrev pub Turns : {A : Type 0} → (A → Bool) → List A → ℕ → Type 0
Turns p xs at = IsPartitionPoint (λ x. p x ≡ true) (λ x. p x ≡ false) xs at

later : {A : Type 0} (p : A → Bool) (x : A) (xs : List A) (at : ℕ) → Turns p (x ∷ xs) (suc at) → Turns p xs at
later p x xs at turns = (
  λ k d low high. turns.0 (suc k) d (omega arith) (omega (arith, high)),
  λ k d low high. turns.1 (suc k) d (omega (arith, low)) (omega (arith, high)),
)

from_first : {A : Type 0} (p : A → Bool) (x : A) (xs : List A) → Turns p (x ∷ xs) 0 → Turns p xs 0
from_first p x xs turns = (λ k d low high. absurd (omega (arith, high)), λ k d low high. turns.1 (suc k) d (omega arith) (omega (arith, high)))

module _ {A : Type 0} (below upto : A → Bool) where
  abbrev is_between : A → Bool
  is_between x = not (below x) && upto x

  skipped : (x : A) (xs : List A) → is_between x ≡ false → filter is_between (x ∷ xs) ≡ filter is_between xs
  skipped x xs out = ap (λ b. cond b (x ∷ filter is_between xs) (filter is_between xs)) out

  kept : (x : A) (xs : List A) → is_between x ≡ true → filter is_between (x ∷ xs) ≡ x ∷ filter is_between xs
  kept x xs is = ap (λ b. cond b (x ∷ filter is_between xs) (filter is_between xs)) is

  -- where none is below, what comes before the place where the other turns
  front : (xs : List A) (to : ℕ) → Turns below xs 0 → Turns upto xs to → to ≤ length xs → take to xs ≡ filter is_between xs
  front [] zero first second high = refl
  front [] (suc to) first second high = absurd (omega (arith, high))
  front (x ∷ xs) zero first second high =
      let misses : below x ≡ false = first.1 0 x (omega arith) (omega arith) in
      let fails : upto x ≡ false = second.1 0 x (omega arith) (omega arith) in
      front xs zero (from_first below x xs first) (from_first upto x xs second) (omega arith) ∙ sym (skipped x xs (ap (λ b. not b && upto x) misses ∙ fails))
  front (x ∷ xs) (suc to) first second high =
      let misses : below x ≡ false = first.1 0 x (omega arith) (omega arith) in
      let holds : upto x ≡ true = second.0 0 x (omega arith) (omega arith) in
      ap (λ more. x ∷ more) (front xs to (from_first below x xs first) (later upto x xs to second) (omega (arith, high))) ∙ sym (kept x xs (ap (λ b. not b && upto x) misses ∙ holds))

  -- what comes from the place where one turns up to that where the other does
  pub between : (xs : List A) (from to : ℕ) → Turns below xs from → Turns upto (drop from xs) to → from ≤ length xs → to ≤ length (drop from xs) → take to (drop from xs) ≡ filter is_between xs
  between xs zero to first second low high = front xs to first second high
  between [] (suc from) to first second low high = absurd (omega (arith, low))
  between (x ∷ xs) (suc from) to first second low high =
      let holds : below x ≡ true = first.0 0 x (omega arith) (omega arith) in
      between xs from to (later below x xs from first) second (omega (arith, low)) high ∙ sym (skipped x xs (ap (λ b. not b && upto x) holds))
