-- Lists whose items are described one by one.
use Rattle.std.proofs.Common.{◌≡◌, ◌≢◌, inl, inr, ◌<◌, ◌≤◌, ℕ, List, [], ◌∷◌, ◌++◌, All, AllPairs, ap₂, sym, arith, eqb, false, length, map, refl, subst, true}
use Rattle.std.specs.List.{AllZip, list_any}
use Rattle.std.proofs.lemmas.Bool.{eqb-true, or_cases}
use Rattle.std.proofs.lemmas.Bool.Decides.{Decides-eqb}
use Rattle.std.proofs.lemmas.List.{get_or-map, length-map}
use Rattle.std.proofs.lemmas.List.Elements.{All-cons, All-head, All-map, All-nil, All-tail}
use Rattle.std.proofs.lemmas.Map.Made.{IsDistinct-from_AllPairs}
use Rattle.std.proofs.lemmas.Map.Steps.{length-le_from_distinct_below}

-- one more item told
pub told_more : {X Y : Type 0} (R : X → Y → Type 0) (xs : List X) (ys : List Y) (x : X) (y : Y) → AllZip R xs ys → R x y
    → AllZip R (xs ++ x ∷ []) (ys ++ y ∷ [])
told_more R [] [] x y described one = (one, tt)
told_more R [] (b ∷ ys) x y described one = absurd described
told_more R (a ∷ xs) [] x y described one = absurd described
told_more R (a ∷ xs) (b ∷ ys) x y described one = (described.0, told_more R xs ys x y described.1 one)

among : {X : Type 0} (P : X → Type 0) (before after : List X) (x : X) → All P (before ++ (x ∷ after)) → P x
among P [] after x holds = All-head P x after holds
among P (y ∷ before) after x holds = among P before after x (All-tail P y (before ++ (x ∷ after)) holds)

-- what holds of each item holds of one that comes between others
pub middle : {X : Type 0} (P : X → Type 0) (before after all : List X) (x : X) → before ++ (x ∷ after) ≡ all → All P all → P x
middle P before after all x is holds = among P before after x (subst (All P) (sym is) holds)

-- what follows of each item by what is told of it
pub each_told : {X Y : Type 0} (R : X → Y → Type 0) (P : X → Type 0) (Q : Y → Type 0) → ((x : X) (y : Y) → R x y → P x → Q y)
    → (xs : List X) (ys : List Y) → AllZip R xs ys → All P xs → All Q ys
each_told R P Q step [] [] described holds = All-nil Q
each_told R P Q step [] (y ∷ ys) described holds = absurd described
each_told R P Q step (x ∷ xs) [] described holds = absurd described
each_told R P Q step (x ∷ xs) (y ∷ ys) described holds =
    All-cons Q y ys (step x y described.0 (All-head P x xs holds)) (each_told R P Q step xs ys described.1 (All-tail P x xs holds))

-- the numbers of items are those of what is told of them
pub same_numbers : {X Y : Type 0} (R : X → Y → Type 0) (of_x : X → ℕ) (of_y : Y → ℕ) → ((x : X) (y : Y) → R x y → of_y y ≡ of_x x)
    → (xs : List X) (ys : List Y) → AllZip R xs ys → map of_y ys ≡ map of_x xs
same_numbers R of_x of_y step [] [] described = refl
same_numbers R of_x of_y step [] (y ∷ ys) described = absurd described
same_numbers R of_x of_y step (x ∷ xs) [] described = absurd described
same_numbers R of_x of_y step (x ∷ xs) (y ∷ ys) described = ap₂ (λ n ns. n ∷ ns) (step x y described.0) (same_numbers R of_x of_y step xs ys described.1)

-- items whose numbers ascend, and the list of the numbers
pub numbers_ascend : {X : Type 0} (number : X → ℕ) (xs : List X) → AllPairs (λ x y. number x < number y) xs → AllPairs (λ m n. m < n) (map number xs)
numbers_ascend number [] ascend i j d before inside = absurd (omega arith)
numbers_ascend number (x ∷ xs) ascend i j d before inside =
    let within : j < length (x ∷ xs) = simp length-map at inside in
    let early : i < length (x ∷ xs) = omega arith in
    rw (get_or-map number (x ∷ xs) i x d early, get_or-map number (x ∷ xs) j x d within) (ascend i j x before within)

pub items_ascend : {X : Type 0} (number : X → ℕ) (xs : List X) → AllPairs (λ m n. m < n) (map number xs) → AllPairs (λ x y. number x < number y) xs
items_ascend number xs ascend i j d before inside =
    let within : j < length (map number xs) = simp length-map inside in
    let early : i < length xs = omega arith in
    let numbers = ascend i j 0 before within in
    rw (get_or-map number xs i d 0 early, get_or-map number xs j d 0 inside) at numbers

-- what holds of each number holds of one that a test finds
pub found_number : (P : ℕ → Type 0) (xs : List ℕ) (q : ℕ) → All P xs → list_any (eqb q) xs ≡ true → P q
found_number P [] q holds is = absurd (let wrong : false ≡ true = is in cc)
found_number P (x ∷ xs) q holds is = elim (or_cases (eqb q x) (list_any (eqb q) xs) is) [
  | inl here ↦ subst P (sym (eqb-true q x here)) (All-head P x xs holds)
  | inr later ↦ found_number P xs q (All-tail P x xs holds) later
]

-- different numbers below n are at most n
pub few_below : (xs : List ℕ) (n : ℕ) → All (λ x. x < n) xs → AllPairs (λ x y. x ≢ y) xs → length xs ≤ n
few_below xs n below once =
    length-le_from_distinct_below xs n (IsDistinct-from_AllPairs Decides-eqb xs once) (λ q there. found_number (λ x. x < n) xs q below there)

-- items with ascending numbers below n are at most n
pub few_items : {X : Type 0} (number : X → ℕ) (xs : List X) (n : ℕ) → AllPairs (λ x y. number x < number y) xs → All (λ x. number x < n) xs → length xs ≤ n
few_items number xs n ascend below =
    let size : length (map number xs) ≡ length xs = length-map xs number in
    let few : length (map number xs) ≤ n = few_below (map number xs) n (All-map (λ m. m < n) number xs below)
    (λ i j d before inside same. let up = numbers_ascend number xs ascend i j d before inside in absurd (omega arith)) in
    omega arith
