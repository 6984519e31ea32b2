-- The files of an image are one list.
use Rattle.std.proofs.Common.{◌≡◌, ◌∙◌, ◌⊎◌, inl, inr, ◌<◌, ℕ, zero, suc, List, [], ◌∷◌, All, AllPairs, Contains, arith, ap₂, length, map, refl, slice_index_or, subst, sym}
use Rattle.std.proofs.lemmas.List.{get_or-map, length-map}
use Rattle.std.proofs.lemmas.List.Elements.{All-head, All-tail}
use Rattle.rd_geometry.specs.declared.kind.Kind.{Kind}
use Rattle.rd_volume.specs.Volumes.{AreFounds, IsFound, IsSlotOfFile}
use Rattle.rd_volume.specs.declared.found.Found.{Found}
use Rattle.rd_volume.proofs.OneFound.{one_found}
use Rattle.rd_volume.proofs.FoundFile.{described_slot}
use Rattle.rd_volume.proofs.ListLemmas.{numbers_ascend}

-- a member of ascending numbers is the first, or above it
first_or_later : (x n : ℕ) (xs : List ℕ) → AllPairs (λ a b. a < b) (x ∷ xs) → Contains (x ∷ xs) n → (x ≡ n) ⊎ (x < n)
first_or_later x n xs ascend (zero, inside, is) = inl is
first_or_later x n xs ascend (suc k, inside, is) = inr (subst (λ m. x < m) is (ascend 0 (suc k) n (omega arith) inside))

later_member : (x n : ℕ) (xs : List ℕ) → Contains (x ∷ xs) n → (x ≡ n → ⊥) → Contains xs n
later_member x n xs (zero, inside, is) other = absurd (other is)
later_member x n xs (suc k, inside, is) other = (k, omega arith, is)

rest_members : (x y : ℕ) (xs ys : List ℕ) → x ≡ y → AllPairs (λ a b. a < b) (x ∷ xs) → ((n : ℕ) → Contains (x ∷ xs) n → Contains (y ∷ ys) n)
    → (n : ℕ) → Contains xs n → Contains ys n
rest_members x y xs ys first ascend to n there =
    let above : x < n = subst (λ m. x < m) there.2 (ascend 0 (suc there.0) n (omega arith) (let inside : there.0 < length xs = there.1 in omega arith)) in
    later_member y n ys (to n (suc there.0, (let inside : there.0 < length xs = there.1 in omega arith), there.2)) (λ same. omega arith)

-- ascending numbers with the same members are one list
ascending_same : (xs ys : List ℕ) → AllPairs (λ m n. m < n) xs → AllPairs (λ m n. m < n) ys → ((n : ℕ) → Contains xs n → Contains ys n)
    → ((n : ℕ) → Contains ys n → Contains xs n) → xs ≡ ys
ascending_same [] [] one other to from = refl
ascending_same [] (y ∷ ys) one other to from = absurd (let there : Contains [] y = from y (0, omega arith, refl) in let low : there.0 < 0 = there.1 in omega arith)
ascending_same (x ∷ xs) [] one other to from = absurd (let there : Contains [] x = to x (0, omega arith, refl) in let low : there.0 < 0 = there.1 in omega arith)
ascending_same (x ∷ xs) (y ∷ ys) one other to from =
    let first : x ≡ y = same_first (first_or_later y x ys other (to x (0, omega arith, refl))) (first_or_later x y xs one (from y (0, omega arith, refl))) in
    ap₂ (λ n ns. n ∷ ns) first
    (ascending_same xs ys (λ i j d before inside. one (suc i) (suc j) d (omega arith) (omega arith)) (λ i j d before inside. other (suc i) (suc j) d (omega arith) (omega arith))
    (rest_members x y xs ys first one to) (rest_members y x ys xs (sym first) other from))
  where
    same_first : (y ≡ x) ⊎ (y < x) → (x ≡ y) ⊎ (x < y) → x ≡ y
    same_first (inl is) later = sym is
    same_first (inr below) (inl is) = is
    same_first (inr below) (inr above) = absurd (omega arith)

-- files of which each is told by its slot are one list where their slots are
files_same : (P : Found → Type 0) → ((f g : Found) → P f → P g → f.slot ≡ g.slot → f ≡ g) → (fs gs : List Found) → All P fs → All P gs
    → map (λ f. f.slot) fs ≡ map (λ f. f.slot) gs → fs ≡ gs
files_same P one [] [] of_fs of_gs slots = refl
files_same P one [] (g ∷ gs) of_fs of_gs slots = absurd (cc)
files_same P one (f ∷ fs) [] of_fs of_gs slots = absurd (cc)
files_same P one (f ∷ fs) (g ∷ gs) of_fs of_gs slots =
    let first : f.slot ≡ g.slot = cc in
    let rest : map (λ (f : Found). f.slot) fs ≡ map (λ (f : Found). f.slot) gs = cc in
    ap₂ (λ x xs. x ∷ xs) (one f g (All-head P f fs of_fs) (All-head P g gs of_gs) first)
    (files_same P one fs gs (All-tail P f fs of_fs) (All-tail P g gs of_gs) rest)

-- the slots of the files that are told are slots of files
slots_told : (kind : Kind) (image : List ℕ) (founds : List Found) → AreFounds kind image founds → (k : ℕ) → Contains (map (λ f. f.slot) founds) k → IsSlotOfFile kind image k
slots_told kind image [] are k there = absurd (let low : there.0 < 0 = there.1 in omega arith)
slots_told kind image (f ∷ fs) are k there =
    let inside : there.0 < length (f ∷ fs) = simp length-map at there.1 in
    let is : (slice_index_or (f ∷ fs) there.0 f).slot ≡ k = sym (get_or-map (λ (f : Found). f.slot) (f ∷ fs) there.0 f k inside) ∙ there.2 in
    subst (IsSlotOfFile kind image) is (described_slot kind image (slice_index_or (f ∷ fs) there.0 f) (are.each there.0 f inside))

-- the files of an image are one list
pub one_survey : (kind : Kind) (image : List ℕ) (fs gs : List Found) → AreFounds kind image fs → AreFounds kind image gs → fs ≡ gs
one_survey kind image fs gs one other =
    files_same (IsFound kind image) (one_found kind image) fs gs one.each other.each
    (ascending_same (map (λ f. f.slot) fs) (map (λ f. f.slot) gs) (numbers_ascend (λ f. f.slot) fs one.ascending) (numbers_ascend (λ f. f.slot) gs other.ascending)
    (λ k there. other.complete k (slots_told kind image fs one k there)) (λ k there. one.complete k (slots_told kind image gs other k there)))
