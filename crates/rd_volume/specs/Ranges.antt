-- Proofs: the items of ranges of lists, and when two lists have the same.
use Rattle.std.proofs.Common.{◌≡◌, ◌∙◌, inl, inr, ◌+◌, ◌-◌, ◌<◌, ◌≤◌, ℕ, List, ap, arith, drop, ext_get_or, length, refl, slice_index, slice_index_or, slice_range, subst, sym, take}
use Rattle.std.proofs.lemmas.Bool.{cases_lt}
use Rattle.std.proofs.lemmas.List.{get_or-drop, get_or-take, get_or_default, get_or_past, length-drop, length-take, take-take}
use Rattle.std.proofs.Math.ListN.{get_or-eq_default}

-- an item that is the same in two lists of one length, where 0 stands for an item past the end, is the same
-- where another number stands for it
pub same_or : (xs ys : List ℕ) (index past : ℕ) → length xs ≡ length ys → slice_index xs index ≡ slice_index ys index
    → slice_index_or xs index past ≡ slice_index_or ys index past
same_or xs ys index past size same = elim (cases_lt index (length xs)) [
  | inl inside ↦ get_or_default xs index past 0 inside ∙ same ∙ get_or_default ys index 0 past (omega arith)
  | inr beyond ↦ get_or_past xs index past beyond ∙ sym (get_or_past ys index past (omega arith))
]

-- an item of a range is one of the list
pub item_of_range : (xs : List ℕ) (start stop index : ℕ) → start + index < stop → slice_index (slice_range xs start stop) index ≡ slice_index xs (start + index)
item_of_range xs start stop index inside = get_or-take (stop - start) (drop start xs) index 0 (omega arith) ∙ get_or-drop start xs index 0

-- past the end of a range there is no item
no_item : (xs : List ℕ) (start stop index : ℕ) → stop ≤ start + index → slice_index (slice_range xs start stop) index ≡ 0
no_item xs start stop index past = get_or-eq_default (slice_range xs start stop) 0 (let most : length (slice_range xs start stop) ≤ stop - start = simp length-take (omega arith) in omega arith)

-- where two lists agree at place start + index, or that is past the range, their ranges have the same item at index
pub same_item : (xs ys : List ℕ) (start stop index : ℕ) → (start + index < stop → slice_index xs (start + index) ≡ slice_index ys (start + index))
    → slice_index (slice_range xs start stop) index ≡ slice_index (slice_range ys start stop) index
same_item xs ys start stop index same = elim (cases_lt (start + index) stop) [
  | inl inside ↦ item_of_range xs start stop index inside ∙ same inside ∙ sym (item_of_range ys start stop index inside)
  | inr past ↦ no_item xs start stop index past ∙ sym (no_item ys start stop index past)
]

-- the same for a range of a range, which begins at place `from` of the lists: where they agree at from + index, it
-- has the same item at index
pub same_inner_item : (xs ys : List ℕ) (start stop inner_start inner_stop from index : ℕ) → from ≡ start + inner_start → (inner_start + index < inner_stop → slice_index xs (from + index) ≡ slice_index ys (from + index))
    → slice_index (slice_range (slice_range xs start stop) inner_start inner_stop) index ≡ slice_index (slice_range (slice_range ys start stop) inner_start inner_stop) index
same_inner_item xs ys start stop inner_start inner_stop from index begins same =
    same_item (slice_range xs start stop) (slice_range ys start stop) inner_start inner_stop index (λ inner. same_item xs ys start stop (inner_start + index)
    (λ _. subst (λ k. slice_index xs k ≡ slice_index ys k) (let at : from + index ≡ start + (inner_start + index) = omega arith in at) (same inner)))

-- a range is as long in a list as in another that is as long
pub same_length : (xs ys : List ℕ) (start stop : ℕ) → length xs ≡ length ys → length (slice_range xs start stop) ≡ length (slice_range ys start stop)
same_length xs ys start stop size = simp (length-take, length-drop) (rw size refl)

-- a range is the same in two lists of one length where its items are
pub same_range : (xs ys : List ℕ) (start stop : ℕ) → length xs ≡ length ys → ((index : ℕ) → start + index < stop → slice_index xs (start + index) ≡ slice_index ys (start + index))
    → slice_range xs start stop ≡ slice_range ys start stop
same_range xs ys start stop size same =
    ext_get_or 0 (slice_range xs start stop) (slice_range ys start stop) (same_length xs ys start stop size) (λ index inside. same_item xs ys start stop index (same index))

-- the front of a range is the same in two lists of one length where its items are
pub same_front : (xs ys : List ℕ) (start stop n : ℕ) → length xs ≡ length ys → ((index : ℕ) → start + index < stop → index < n → slice_index xs (start + index) ≡ slice_index ys (start + index))
    → take n (slice_range xs start stop) ≡ take n (slice_range ys start stop)
same_front xs ys start stop n size same =
    ext_get_or 0 (take n (slice_range xs start stop)) (take n (slice_range ys start stop)) (simp (length-take, length-drop) (rw size refl)) (λ index inside.
    let low : index < n = let most : length (take n (slice_range xs start stop)) ≤ n = simp length-take (omega arith) in omega arith in
    get_or-take n (slice_range xs start stop) index 0 low ∙ same_item xs ys start stop index (λ inner. same index inner low) ∙ sym (get_or-take n (slice_range ys start stop) index 0 low))

-- the front of a range is a range
pub front_of_range : (xs : List ℕ) (start m n : ℕ) → n ≤ m → take n (slice_range xs start (start + m)) ≡ slice_range xs start (start + n)
front_of_range xs start m n low =
    take-take n (start + m - start) (drop start xs) (omega arith) ∙ ap (λ k. take k (drop start xs)) (let same : n ≡ start + n - start = omega arith in same)
