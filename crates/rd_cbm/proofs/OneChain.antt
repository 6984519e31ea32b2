-- A start has one chain of blocks, and one last byte.
use Rattle.std.proofs.Common.{◌≡◌, ◌∙◌, ◌<◌, ℕ, List, Option, Some, arith, ext_get_or, length, slice_index, sym}
use Rattle.std.proofs.lemmas.List.{get_or_default}
use Rattle.rd_cbm.specs.declared.chains.End.TheVariants as end
use Rattle.rd_cbm.specs.Walks.{Ends, IsChain, Links}
use Rattle.rd_cbm.proofs.WalkLaws.{one_way}

same_some : (m n : ℕ) → Some m ≡ Some n → m ≡ n
same_some m n is = cc

not_longer : (link : Links) (s : Option ℕ) (xs ys : List ℕ) → IsChain link s xs → IsChain link s ys → length xs < length ys → ⊥
not_longer link s xs ys of_xs of_ys longer =
    let next : ℕ = slice_index ys (length xs) in
    let there = of_xs.all next (record { place = length xs; there = of_ys.in_order (length xs) longer }) in
    let early : there.0 < length ys = omega (arith, there.1) in
    let first : slice_index xs there.0 ≡ slice_index ys there.0 =
    same_some _ _ (sym (of_xs.in_order there.0 there.1) ∙ of_ys.in_order there.0 early) in
    let found : slice_index xs there.0 ≡ next = get_or_default xs there.0 0 next there.1 ∙ there.2 in
    of_ys.once there.0 (length xs) 0 there.1 longer (sym first ∙ found)

same_size : (m n : ℕ) → (m < n → ⊥) → (n < m → ⊥) → m ≡ n
same_size m n below above = omega arith

same_place : (i m n : ℕ) → (n < m → ⊥) → i < m → i < n
same_place i m n above inside = omega arith

-- two chains of one start are the same
pub one_chain : (link : Links) (s : Option ℕ) (xs ys : List ℕ) → IsChain link s xs → IsChain link s ys → xs ≡ ys
one_chain link s xs ys of_xs of_ys =
    let below = not_longer link s xs ys of_xs of_ys in
    let above = not_longer link s ys xs of_ys of_xs in
    ext_get_or 0 xs ys (same_size (length xs) (length ys) below above)
    (λ i inside. same_some _ _ (sym (of_xs.in_order i inside) ∙ of_ys.in_order i (same_place i (length xs) (length ys) above inside)))

-- a walk that ends at a last block ends with one last byte
pub one_last : (link : Links) (s : Option ℕ) (d e : ℕ) → Ends link s d → Ends link s e → d ≡ e
one_last link s d e ends too = let same : end.Last d ≡ end.Last e = one_way link s (end.Last d) (end.Last e) ends too in cc
