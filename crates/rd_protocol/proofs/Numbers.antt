-- The keys of a map from numbers: they ascend, and each number that has a value is among them.
use Rattle.std.proofs.Common.{◌≡◌, ◌<◌, ◌&&◌, ℕ, zero, suc, Bool, true, false, cond, List, [], ◌∷◌, All, AllPairs, Contains, Some, T, map, length, get_or, subst, ap, arith, refl, sym, ◌∙◌}
use Rattle.std.specs.FinMap.{FinMap, entries, entries_sorted, get, get-entries, keys}
use Rattle.std.specs.FinMap.Entries.{below_all, find, is_sorted}
use Rattle.std.specs.Ordering.{eq_by_cmp, is_lt, nat_cmp}
use Rattle.std.proofs.lemmas.Bool.Decides.{nat_tests}
use Rattle.std.proofs.lemmas.List.{get_or-map, length-map}
use Rattle.std.proofs.lemmas.List.Elements.{All-cons}
use Rattle.std.proofs.lemmas.List.Kept.{AllPairs-cons}

halves : (a b : Bool) → T (a && b) → T a × T b
halves true b h = (tt, h)
halves false b h = absurd h

is_true : (b : Bool) → T b → b ≡ true
is_true true h = refl
is_true false h = absurd h

lower : (m n : ℕ) → is_lt (nat_cmp m n) ≡ true → m < n
lower m n is = grind (arith, nat_tests)

tied : (m n : ℕ) → eq_by_cmp nat_cmp m n ≡ true → n ≡ m
tied m n is = grind (arith, nat_tests)

apart : (m n : ℕ) → m < n → eq_by_cmp nat_cmp n m ≡ false
apart m n low = grind (arith, nat_tests)

itself : (n : ℕ) → eq_by_cmp nat_cmp n n ≡ true
itself n = grind (arith, nat_tests)

module _ {X : Type 0} where
  above : (k : ℕ) (es : List (ℕ × X)) → T (below_all nat_cmp k es) → All (λ n. k < n) (map (λ e. e.0) es)
  above k [] below = λ i d within. absurd (omega (arith, within))
  above k (e ∷ es) below =
      let parts = halves (is_lt (nat_cmp k e.0)) (below_all nat_cmp k es) below in
      All-cons (λ n. k < n) e.0 (map (λ f. f.0) es) (lower k e.0 (is_true _ parts.0)) (above k es parts.1)

  ascend : (es : List (ℕ × X)) → T (is_sorted nat_cmp es) → AllPairs (λ m n. m < n) (map (λ e. e.0) es)
  ascend [] sorted = λ i j d before within. absurd (omega (arith, within))
  ascend (e ∷ es) sorted =
      let parts = halves (below_all nat_cmp e.0 es) (is_sorted nat_cmp es) sorted in
      AllPairs-cons (λ m n. m < n) e.0 (map (λ f. f.0) es) (above e.0 es parts.0) (ascend es parts.1)

  among : (k : ℕ) (v : X) (es : List (ℕ × X)) → find nat_cmp k es ≡ Some v → Contains (map (λ e. e.0) es) k
  among k v [] is = absurd (cc)
  among k v (e ∷ es) is = by_test (eq_by_cmp nat_cmp k e.0) refl (λ found. among k v es found) is
    where
      by_test : (b : Bool) → eq_by_cmp nat_cmp k e.0 ≡ b → (find nat_cmp k es ≡ Some v → Contains (map (λ f. f.0) es) k) → cond b (Some e.1) (find nat_cmp k es) ≡ Some v
          → Contains (e.0 ∷ map (λ f. f.0) es) k
      by_test true same later found = (zero, omega arith, tied k e.0 same)
      by_test false other later found = let it = later found in (suc it.0, (let low : it.0 < length (map (λ f. f.0) es) = it.1 in omega (arith, low)), it.2)

  pub keys_ascend : (m : FinMap nat_cmp X) → AllPairs (λ a b. a < b) (keys m)
  keys_ascend m = ascend (entries m) (entries_sorted m)

  pub among_keys : (m : FinMap nat_cmp X) (k : ℕ) (v : X) → get m k ≡ Some v → Contains (keys m) k
  among_keys m k v is = among k v (entries m) (sym (get-entries m k) ∙ is)

  -- each entry is found by its number
  pub each_found : (es : List (ℕ × X)) → T (is_sorted nat_cmp es) → All (λ e. find nat_cmp e.0 es ≡ Some e.1) es
  each_found [] sorted = λ i d within. absurd (omega (arith, within))
  each_found (e ∷ es) sorted =
      let parts = halves (below_all nat_cmp e.0 es) (is_sorted nat_cmp es) sorted in
      let low : All (λ n. e.0 < n) (map (λ f. f.0) es) = above e.0 es parts.0 in
      All-cons (λ f. find nat_cmp f.0 (e ∷ es) ≡ Some f.1) e es
      (ap (λ b. cond b (Some e.1) (find nat_cmp e.0 es)) (itself e.0))
      (λ k f within.
      let later : e.0 < (get_or es k f).0 = subst (λ n. e.0 < n) (get_or-map (λ (g : ℕ × X). g.0) es k f f.0 within) (low k f.0 (subst (λ n. k < n) (sym (length-map es (λ (g : ℕ × X). g.0))) within)) in
      ap (λ b. cond b (Some e.1) (find nat_cmp (get_or es k f).0 es)) (apart e.0 (get_or es k f).0 later) ∙ each_found es parts.1 k f within)
