-- A list, by an ascending number, of all that have a property.
use Rattle.std.proofs.Common.{◌≡◌, ℕ, zero, suc, ◌<◌, List, [], ◌∷◌, All, AllPairs, Contains, length, arith, ap, ap₂, refl, subst, sym}

module _ {A : Type 0} (key : A → ℕ) where
  abbrev Ascends : List A → Type 0
  Ascends xs = AllPairs (λ x y. key x < key y) xs

  abbrev Within : List A → List A → Type 0
  Within xs ys = (x : A) → Contains xs x → Contains ys x

  -- the number of a later element is above the first's
  above_first : (x y : A) (xs : List A) → Ascends (x ∷ xs) → Contains xs y → key x < key y
  above_first x y xs ascends (k, inside, is) = subst (λ z. key x < key z) is (ascends 0 (suc k) y (omega arith) (omega arith))

  same_first : (x y : A) (xs ys : List A) → Ascends (x ∷ xs) → Ascends (y ∷ ys) → Contains (y ∷ ys) x → Contains (x ∷ xs) y → x ≡ y
  same_first x y xs ys one other (zero, inside, is) there = sym is
  same_first x y xs ys one other (suc k, inside, is) (zero, below, at) = at
  same_first x y xs ys one other (suc k, inside, is) (suc j, below, at) =
      let up : key x < key y = above_first x y xs one (j, omega arith, at) in
      let down : key y < key x = above_first y x ys other (k, omega arith, is) in
      absurd (omega arith)

  rest_within : (x y : A) (xs ys : List A) → x ≡ y → Ascends (x ∷ xs) → Within (x ∷ xs) (y ∷ ys) → Within xs ys
  rest_within x y xs ys same ascends to z there =
      after (to z (suc there.0, (let inside : there.0 < length xs = there.1 in omega arith), there.2)) (subst (λ first. key first < key z) same (above_first x z xs ascends there))
    where
      after : Contains (y ∷ ys) z → key y < key z → Contains ys z
      after (zero, inside, is) above = absurd (let equal : key y ≡ key z = ap key is in omega arith)
      after (suc k, inside, is) above = (k, omega arith, is)

  rest_ascends : (x : A) (xs : List A) → Ascends (x ∷ xs) → Ascends xs
  rest_ascends x xs ascends i j d before inside = ascends (suc i) (suc j) d (omega arith) (omega arith)

  none_within : {B : Type 0} (x : A) (xs : List A) → Within (x ∷ xs) [] → B
  none_within x xs to = absurd (let there = to x (0, omega arith, refl) in let inside : there.0 < 0 = there.1 in omega arith)

  -- ascending lists with the same elements are one
  same_elements : (xs ys : List A) → Ascends xs → Ascends ys → Within xs ys → Within ys xs → xs ≡ ys
  same_elements [] [] one other to from = refl
  same_elements [] (y ∷ ys) one other to from = none_within y ys from
  same_elements (x ∷ xs) [] one other to from = none_within x xs to
  same_elements (x ∷ xs) (y ∷ ys) one other to from =
      let first : x ≡ y = same_first x y xs ys one other (to x (0, omega arith, refl)) (from y (0, omega arith, refl)) in
      ap₂ (λ z zs. z ∷ zs) first (same_elements xs ys (rest_ascends x xs one) (rest_ascends y ys other)
      (rest_within x y xs ys first one to) (rest_within y x ys xs (sym first) other from))

  -- so is a list of all that have a property
  pub one_list : (P : A → Type 0) (xs ys : List A) → All P xs → All P ys → Ascends xs → Ascends ys
      → ((x : A) → P x → Contains xs x) → ((x : A) → P x → Contains ys x) → xs ≡ ys
  one_list P xs ys of_xs of_ys one other all_xs all_ys =
      same_elements xs ys one other (λ x there. all_ys x (has xs of_xs x there)) (λ x there. all_xs x (has ys of_ys x there))
    where
      has : (zs : List A) → All P zs → (x : A) → Contains zs x → P x
      has zs of_zs x there = subst P there.2 (of_zs there.0 x there.1)
