-- Lists, filters and their order.
use Rattle.rd_tables.proofs.Common.{T, ◌==◌, Option, Some, None, IsSome, arith, ◌≡◌, inl, inr, ℕ, List, [], ◌∷◌, map, filter, length, get_or, set, Bool, true, false, not, cond, ◌&&◌, ◌||◌, refl, sym, ap, subst, ◌∙◌, true≢false, AllByRecursion, swap, IsPermutation, SwapsInRange, apply_swaps, cases_Bool, length-map, map-set, get_or-map, IsDistinct-head, IsDistinct-tail, Has}
use Rattle.std.specs.List.{IsDistinct}

pub map_map : {A B C : Type 0} (f : B → C) (g : A → B) (xs : List A) → map f (map g xs) ≡ map (λ x. f (g x)) xs
map_map f g [] = refl
map_map f g (x ∷ xs) = ap (λ more. f (g x) ∷ more) (map_map f g xs)

pub filter_true : {A : Type 0} (xs : List A) → filter (λ _. true) xs ≡ xs
filter_true [] = refl
filter_true (x ∷ xs) = ap (λ more. x ∷ more) (filter_true xs)

pub filter_filter : {A : Type 0} (p q : A → Bool) (xs : List A) → filter p (filter q xs) ≡ filter (λ x. q x && p x) xs
filter_filter p q [] = refl
filter_filter p q (x ∷ xs) = elim (cases_Bool (q x)) [
  | inl pass ↦ rw (pass, filter_filter p q xs) refl
  | inr miss ↦ rw (miss, filter_filter p q xs) refl
]

-- the tests agree on what is in the list
pub filter_same : {A : Type 0} (p q : A → Bool) (xs : List A) → ((x : A) → Has xs x → p x ≡ q x) → filter p xs ≡ filter q xs
filter_same p q [] same = refl
filter_same p q (x ∷ xs) same = rw (same x (inl refl), filter_same p q xs (λ y there. same y (inr there))) refl

pub all_filtered : {A : Type 0} (P : A → Type 0) (p : A → Bool) (xs : List A) → AllByRecursion P xs → AllByRecursion P (filter p xs)
all_filtered P p [] all = tt
all_filtered P p (x ∷ xs) all = elim (p x) as (λ b. AllByRecursion P (cond b (x ∷ filter p xs) (filter p xs))) [
  | true ↦ (all.0, all_filtered P p xs all.1)
  | false ↦ all_filtered P p xs all.1
]

pub all_map : {A B : Type 0} (P : B → Type 0) (f : A → B) (xs : List A) → AllByRecursion (λ x. P (f x)) xs → AllByRecursion P (map f xs)
all_map P f [] all = tt
all_map P f (x ∷ xs) all = (all.0, all_map P f xs all.1)

pub all_weaker : {A : Type 0} (P Q : A → Type 0) (xs : List A) → ((x : A) → P x → Q x) → AllByRecursion P xs → AllByRecursion Q xs
all_weaker P Q [] weaker all = tt
all_weaker P Q (x ∷ xs) weaker all = (weaker x all.0, all_weaker P Q xs weaker all.1)

pub in_map : {A B : Type 0} (f : A → B) (xs : List A) (x : A) → Has xs x → Has (map f xs) (f x)
in_map f [] x none = absurd none
in_map f (y ∷ xs) x (inl is) = inl (ap f is)
in_map f (y ∷ xs) x (inr there) = inr (in_map f xs x there)

pub from_map : {A B : Type 0} (f : A → B) (xs : List A) (y : B) → Has (map f xs) y → (x : A) × Has xs x × (y ≡ f x)
from_map f [] y none = absurd none
from_map f (x ∷ xs) y (inl is) = (x, inl refl, is)
from_map f (x ∷ xs) y (inr there) = let it = from_map f xs y there in (it.0, inr it.1, it.2)

pub empty_by_length : {A : Type 0} (xs : List A) → length xs ≡ 0 → xs ≡ []
empty_by_length [] e = refl
empty_by_length (x ∷ xs) e = absurd (omega arith)

-- ---- truth values

pub and_true : (b : Bool) → (b && true) ≡ b
and_true true = refl
and_true false = refl

pub or_false : (b : Bool) → (b || false) ≡ b
or_false true = refl
or_false false = refl

pub neither : (a b : Bool) → (a || b) ≡ false → (a ≡ false) × (b ≡ false)
neither true b e = absurd (true≢false e)
neither false b e = (refl, e)

pub both : (a b : Bool) → (a && b) ≡ true → (a ≡ true) × (b ≡ true)
both true b e = (refl, e)
both false b e = absurd (true≢false (sym e))

pub halves : (a b : Bool) → T (a && b) → T a × T b
halves true b h = (tt, h)
halves false b h = absurd h

pub wholes : (a b : Bool) → T a → T b → T (a && b)
wholes true b p q = q
wholes false b p q = absurd p

pub holds_true : (b : Bool) → T b → b ≡ true
holds_true true h = refl
holds_true false h = absurd h

pub or_true : (a b : Bool) → b ≡ true → (a || b) ≡ true
or_true true b is = refl
or_true false b is = is

pub negated : (b : Bool) → not b ≡ true → b ≡ false
negated true h = absurd (true≢false (sym h))
negated false h = refl

pub equals_itself : (n : ℕ) → (n == n) ≡ true
equals_itself n = grind arith

pub some_got : {X : Type 0} (o : Option X) → IsSome o → (x : X) × (o ≡ Some x)
some_got None some = absurd cc
some_got (Some x) some = (x, refl)

pub not_or : (a b : Bool) → (not a && not b) ≡ not (a || b)
not_or true b = refl
not_or false b = refl

-- each holds where the other does
pub same_truth : (a b : Bool) → (a ≡ true → b ≡ true) → (b ≡ true → a ≡ true) → a ≡ b
same_truth true b to from = sym (to refl)
same_truth false true to from = from refl
same_truth false false to from = refl

-- ---- orders of a list

swap_map : {A B : Type 0} (f : A → B) (xs : List A) (i j : ℕ) → map f (swap xs i j) ≡ swap (map f xs) i j
swap_map f [] i j = refl
swap_map f (d ∷ more) i j =
    let xs = d ∷ more in
    map-set f (set xs i (get_or xs j d)) j (get_or xs i d)
    ∙ ap (λ l. set l j (f (get_or xs i d))) (map-set f xs i (get_or xs j d) ∙ ap (set (map f xs) i) (sym (get_or-map f xs j d)))
    ∙ ap (set (set (map f xs) i (get_or (map f xs) j (f d))) j) (sym (get_or-map f xs i d))

swaps_map : {A B : Type 0} (f : A → B) (xs : List A) (moves : List (ℕ × ℕ)) → map f (apply_swaps xs moves) ≡ apply_swaps (map f xs) moves
swaps_map f xs [] = refl
swaps_map f xs (move ∷ moves) = swap_map f (apply_swaps xs moves) move.0 move.1 ∙ ap (λ l. swap l move.0 move.1) (swaps_map f xs moves)

-- images in another order are the images of the list in another order
pub permuted_images : {A B : Type 0} (f : A → B) (xs : List A) (ys : List B) → IsPermutation (map f xs) ys → (zs : List A) × IsPermutation xs zs × (ys ≡ map f zs)
permuted_images f xs ys h = (
  apply_swaps xs h.moves,
  record { moves = h.moves; below = subst (λ n. SwapsInRange n h.moves) (length-map xs f) h.below; is = refl },
  h.is ∙ sym (swaps_map f xs h.moves),
)

-- ---- items of a list whose keys are apart

module _ {A K : Type 0} (same : K → K → Bool) (symm : (a b : K) → same a b ≡ same b a) (key : A → K) where
  other_key : (k : K) (xs : List A) (y : A) → AllByRecursion (λ j. same k j ≡ false) (map key xs) → Has xs y → same k (key y) ≡ false
  other_key k [] y all there = absurd there
  other_key k (x ∷ xs) y all (inl is) = ap (λ (z : A). same k (key z)) is ∙ all.0
  other_key k (x ∷ xs) y all (inr there) = other_key k xs y all.1 there

  -- no two items have one key
  pub one_row : (xs : List A) → IsDistinct same (map key xs) → (x y : A) → Has xs x → Has xs y → same (key x) (key y) ≡ true → x ≡ y
  one_row [] apart x y here there e = absurd here
  one_row (z ∷ xs) apart x y (inl h) (inl k) e = h ∙ sym k
  one_row (z ∷ xs) apart x y (inl h) (inr k) e = absurd (true≢false (sym e ∙ ap (λ (w : A). same (key w) (key y)) h ∙ other_key (key z) xs y (IsDistinct-head same (key z) (map key xs) apart) k))
  one_row (z ∷ xs) apart x y (inr h) (inl k) e = absurd (true≢false (sym e ∙ symm (key x) (key y) ∙ ap (λ (w : A). same (key w) (key x)) k ∙ other_key (key z) xs x (IsDistinct-head same (key z) (map key xs) apart) h))
  one_row (z ∷ xs) apart x y (inr h) (inr k) e = one_row xs (IsDistinct-tail same (key z) (map key xs) apart) x y h k e
