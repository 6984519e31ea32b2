-- Facts of which it can be found out whether they hold.
use Rattle.std.proofs.Common.{◌≡◌, ◌≢◌, ◌⊎◌, inl, inr, ◌<◌, ◌≤◌, ◌↔◌, ℕ, zero, suc, Bool, true, false, IsTrue, List, [], ◌∷◌, ◌++◌, All, AllPairs, Contains, arith, length, map, refl, slice_index_or, subst, sym, ap₂}
use Rattle.std.proofs.lemmas.Bool.{cases_eq, cases_lt}
use Rattle.std.proofs.lemmas.List.{map-append}
use Rattle.std.proofs.lemmas.List.Elements.{All-append, All-nil, Contains-append_left, Contains-append_right, Contains-get_or, Contains-push, Contains-push_cases}
use Rattle.std.proofs.lemmas.List.Quantifiers.{all_pairs_push}

pub data Decided (P : Type 0) : Type 0 where
  holds : P → Decided P
  fails : (P → ⊥) → Decided P

-- ---- facts of other facts

pub decided_as : {P Q : Type 0} → Decided P → (P → Q) → (Q → P) → Decided Q
decided_as (holds p) to from = holds (to p)
decided_as (fails none) to from = fails (λ q. none (from q))

pub decided_both : {P Q : Type 0} → Decided P → Decided Q → Decided (P × Q)
decided_both (holds p) (holds q) = holds (p, q)
decided_both (holds p) (fails none) = fails (λ both. none both.1)
decided_both (fails none) q = fails (λ both. none both.0)

pub decided_either : {P Q : Type 0} → Decided P → Decided Q → Decided (P ⊎ Q)
decided_either (holds p) q = holds (inl p)
decided_either (fails none) (holds q) = holds (inr q)
decided_either (fails none) (fails neither) = fails (λ either. elim either [ inl p ↦ none p | inr q ↦ neither q ])

pub decided_not : {P : Type 0} → Decided P → Decided (P → ⊥)
decided_not (holds p) = fails (λ none. none p)
decided_not (fails none) = holds none

pub decided_if : {P Q : Type 0} → Decided P → Decided Q → Decided (P → Q)
decided_if p (holds q) = holds (λ _. q)
decided_if (holds p) (fails none) = fails (λ f. none (f p))
decided_if (fails neither) (fails none) = holds (λ p. absurd (neither p))

-- ---- numbers, flags and texts

pub decided_same : (m n : ℕ) → Decided (m ≡ n)
decided_same m n = elim (cases_eq m n) [ inl same ↦ holds same | inr other ↦ fails other ]

pub decided_less : (m n : ℕ) → Decided (m < n)
decided_less m n = elim (cases_lt m n) [ inl low ↦ holds low | inr high ↦ fails (λ low. absurd (omega (arith, low, high))) ]

pub decided_at_most : (m n : ℕ) → Decided (m ≤ n)
decided_at_most m n = elim (cases_lt n m) [ inl low ↦ fails (λ high. absurd (omega (arith, low, high))) | inr high ↦ holds high ]

pub decided_true : (b : Bool) → Decided (IsTrue b)
decided_true true = holds refl
decided_true false = fails (λ wrong. let impossible : false ≡ true = wrong in cc)

pub decided_text : (xs ys : List ℕ) → Decided (xs ≡ ys)
decided_text [] [] = holds refl
decided_text [] (y ∷ ys) = fails (λ same. cc)
decided_text (x ∷ xs) [] = fails (λ same. cc)
decided_text (x ∷ xs) (y ∷ ys) = decided_cons (decided_same x y) (decided_text xs ys)
  where
    decided_cons : Decided (x ≡ y) → Decided (xs ≡ ys) → Decided ((x ∷ xs) ≡ (y ∷ ys))
    decided_cons (holds first) (holds rest) = holds (ap₂ (λ n ns. n ∷ ns) first rest)
    decided_cons (holds first) (fails none) = fails (λ same. none (cc))
    decided_cons (fails none) rest = fails (λ same. none (cc))

-- a flag that tells whether a fact holds
pub flag : {P : Type 0} → Decided P → Bool
flag (holds p) = true
flag (fails none) = false

pub flag_is : {P : Type 0} (test : Decided P) → IsTrue (flag test) ↔ P
unfolding flag
flag_is (holds p) = (λ _. p, λ _. refl)
flag_is (fails none) = (λ wrong. absurd (let impossible : false ≡ true = wrong in cc), λ p. absurd (none p))

-- ---- numbers below one

module _ (P : ℕ → Type 0) where
  some_next : (n : ℕ) → Decided (P n) → Decided ((k : ℕ) × (k < n) × P k) → Decided ((k : ℕ) × (k < suc n) × P k)
  some_next n (holds p) rest = holds (n, omega arith, p)
  some_next n (fails none) (holds found) = holds (found.0, (let low : found.0 < n = found.1 in omega (arith, low)), found.2)
  some_next n (fails none) (fails neither) = fails (λ found. elim (cases_eq found.0 n) [
    | inl same ↦ none (subst P same found.2)
    | inr other ↦ neither (found.0, (let low : found.0 < suc n = found.1 in omega (arith, low, other)), found.2)
  ])

  pub some_below : ((k : ℕ) → Decided (P k)) → (n : ℕ) → Decided ((k : ℕ) × (k < n) × P k)
  some_below test zero = fails (λ found. absurd (let low : found.0 < 0 = found.1 in omega (arith, low)))
  some_below test (suc n) = some_next n (test n) (some_below test n)

-- each number below one
pub each_below : (P : ℕ → Type 0) → ((k : ℕ) → Decided (P k)) → (n : ℕ) → Decided ((k : ℕ) → k < n → P k)
each_below P test n = turned (some_below (λ k. P k → ⊥) (λ k. decided_not (test k)) n)
  where
    by_test : (k : ℕ) → ((P k → ⊥) → ⊥) → Decided (P k) → P k
    by_test k not_none (holds p) = p
    by_test k not_none (fails none) = absurd (not_none none)

    turned : Decided ((k : ℕ) × (k < n) × (P k → ⊥)) → Decided ((k : ℕ) → k < n → P k)
    turned (holds found) = fails (λ all. found.2 (all found.0 found.1))
    turned (fails none) = holds (λ k low. by_test k (λ without. none (k, low, without)) (test k))

-- ---- members of a list

pub decided_member : (xs : List ℕ) (n : ℕ) → Decided (Contains xs n)
decided_member xs n = some_below (λ k. slice_index_or xs k n ≡ n) (λ k. decided_same (slice_index_or xs k n) n) (length xs)

pub some_member : {X : Type 0} (P : X → Type 0) → ((x : X) → Decided (P x)) → (xs : List X) → Decided ((x : X) × Contains xs x × P x)
some_member P test [] = fails (λ found. absurd (let low : found.1.0 < 0 = found.1.1 in omega (arith, low)))
some_member {X = X} P test (x ∷ xs) = first_or_rest (test x) (some_member P test xs)
  where
    of_rest : (y : X) → (P x → ⊥) → P y → Contains (x ∷ xs) y → Contains xs y
    of_rest y none p (zero, inside, is) = absurd (none (subst P (sym is) p))
    of_rest y none p (suc k, inside, is) = (k, omega (arith, inside), is)

    first_or_rest : Decided (P x) → Decided ((y : X) × Contains xs y × P y) → Decided ((y : X) × Contains (x ∷ xs) y × P y)
    first_or_rest (holds p) rest = holds (x, (0, omega arith, refl), p)
    first_or_rest (fails none) (holds found) =
        holds (found.0, (suc found.1.0, (let low : found.1.0 < length xs = found.1.1 in omega (arith, low)), found.1.2), found.2)
    first_or_rest (fails none) (fails neither) = fails (λ found. neither (found.0, of_rest found.0 none found.2 found.1, found.2))

-- ---- lists of all that have a property

-- All numbers below n that have a property, ascending.
pub record AreThose (P : ℕ → Type 0) (n : ℕ) (xs : List ℕ) : Type 0 where
  pub each : (k : ℕ) → Contains xs k ↔ ((k < n) × P k)
  pub ascending : AllPairs (λ a b. a < b) xs

none_below : (P : ℕ → Type 0) → AreThose P 0 []
none_below P = record {
  each = λ k. (λ there. absurd (let low : there.0 < 0 = there.1 in omega (arith, low)), λ both. absurd (let low : k < 0 = both.0 in omega (arith, low)));
  ascending = λ i j d before inside. absurd (let low : j < 0 = inside in omega (arith, low));
}

those_without : (P : ℕ → Type 0) (n : ℕ) (xs : List ℕ) → (P n → ⊥) → AreThose P n xs → AreThose P (suc n) xs
those_without P n xs none are = record {
  each = λ k. (
    λ there. let both = (are.each k).0 there in (let low : k < n = both.0 in omega (arith, low), both.1),
    λ both. elim (cases_eq k n) [
      | inl same ↦ absurd (none (subst P same both.1))
      | inr other ↦ (are.each k).1 (let low : k < suc n = both.0 in omega (arith, low, other), both.1)
    ],
  );
  ascending = are.ascending;
}

those_with : (P : ℕ → Type 0) (n : ℕ) (xs : List ℕ) → P n → AreThose P n xs → AreThose P (suc n) (xs ++ n ∷ [])
those_with P n xs p are = record {
  each = λ k. (
    λ there. elim (Contains-push_cases xs n k there) [
      | inl before ↦ (let both = (are.each k).0 before in (let low : k < n = both.0 in omega (arith, low), both.1))
      | inr last ↦ (omega (arith, last), subst P last p)
    ],
    λ both. elim (cases_eq k n) [
      | inl same ↦ subst (Contains (xs ++ n ∷ [])) (sym same) (Contains-push xs n)
      | inr other ↦ Contains-append_left xs (n ∷ []) k ((are.each k).1 (let low : k < suc n = both.0 in omega (arith, low, other), both.1))
    ],
  );
  ascending = all_pairs_push (λ a b. a < b) xs n are.ascending
      (λ k d inside. ((are.each (slice_index_or xs k d)).0 (Contains-get_or xs k d inside)).0);
}

pub those : (P : ℕ → Type 0) → ((k : ℕ) → Decided (P k)) → (n : ℕ) → (xs : List ℕ) × AreThose P n xs
those P test zero = ([], none_below P)
those P test (suc n) = one_more (test n) (those P test n)
  where
    one_more : Decided (P n) → (xs : List ℕ) × AreThose P n xs → (xs : List ℕ) × AreThose P (suc n) xs
    one_more (holds p) (xs, are) = (xs ++ n ∷ [], those_with P n xs p are)
    one_more (fails none) (xs, are) = (xs, those_without P n xs none are)

-- ascending numbers differ
pub apart : (xs : List ℕ) → AllPairs (λ a b. a < b) xs → AllPairs (λ a b. a ≢ b) xs
apart xs ascending i j d before inside same = let low : slice_index_or xs i d < slice_index_or xs j d = ascending i j d before inside in absurd (omega (arith, low, same))

-- The items with the numbers below n that have a property, ascending: each is as it should be, and none is missing.
pub record AreItems {X : Type 0} (number : X → ℕ) (P : ℕ → Type 0) (Q : X → Type 0) (n : ℕ) (items : List X) : Type 0 where
  pub each : All Q items
  pub below : All (λ x. number x < n) items
  pub ascending : AllPairs (λ x y. number x < number y) items
  pub complete : (k : ℕ) → k < n → P k → Contains (map number items) k

module _ {X : Type 0} (number : X → ℕ) (P : ℕ → Type 0) (Q : X → Type 0) where
  no_items : AreItems number P Q 0 []
  no_items = record {
    each = All-nil Q;
    below = All-nil (λ x. number x < 0);
    ascending = λ i j d before inside. absurd (let low : j < 0 = inside in omega (arith, low));
    complete = λ k low p. absurd (omega (arith, low));
  }

  items_without : (n : ℕ) (items : List X) → (P n → ⊥) → AreItems number P Q n items → AreItems number P Q (suc n) items
  items_without n items none are = record {
    each = are.each;
    below = λ k d inside. let low = are.below k d inside in omega (arith, low);
    ascending = are.ascending;
    complete = λ k low p. elim (cases_eq k n) [
      | inl same ↦ absurd (none (subst P same p))
      | inr other ↦ are.complete k (omega (arith, low, other)) p
    ];
  }

  one_item : (R : X → Type 0) (x : X) → R x → All R (x ∷ [])
  one_item R x r k d inside = let first : 0 ≡ k = omega (arith, inside) in subst (λ k. R (slice_index_or (x ∷ []) k d)) first r

  items_with : (n : ℕ) (items : List X) (x : X) → Q x → number x ≡ n → AreItems number P Q n items → AreItems number P Q (suc n) (items ++ x ∷ [])
  items_with n items x q at are = record {
    each = All-append Q items (x ∷ []) are.each (one_item Q x q);
    below = All-append (λ y. number y < suc n) items (x ∷ []) (λ k d inside. let low = are.below k d inside in omega (arith, low))
        (one_item (λ y. number y < suc n) x (omega (arith, at)));
    ascending = all_pairs_push (λ y z. number y < number z) items x are.ascending (λ k d inside. let low = are.below k d inside in omega (arith, low, at));
    complete = λ k low p. elim (cases_eq k n) [
      | inl same ↦ subst (λ ns. Contains ns k) (sym (map-append number items (x ∷ [])))
          (Contains-append_right (map number items) (number x ∷ []) k (0, omega arith, (let is : number x ≡ k = omega (arith, at, same) in is)))
      | inr other ↦ subst (λ ns. Contains ns k) (sym (map-append number items (x ∷ [])))
          (Contains-append_left (map number items) (number x ∷ []) k (are.complete k (omega (arith, low, other)) p))
    ];
  }

  pub items_below : ((k : ℕ) → Decided (P k)) → ((k : ℕ) → P k → (x : X) × Q x × (number x ≡ k)) → (n : ℕ) → (items : List X) × AreItems number P Q n items
  items_below test make zero = ([], no_items)
  items_below test make (suc n) = one_more (test n) (items_below test make n)
    where
      one_more : Decided (P n) → (items : List X) × AreItems number P Q n items → (items : List X) × AreItems number P Q (suc n) items
      one_more (holds p) (items, are) = let made = make n p in (items ++ made.0 ∷ [], items_with n items made.0 made.1 made.2 are)
      one_more (fails none) (items, are) = (items, items_without n items none are)
