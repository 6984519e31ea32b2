-- Walks from one start on two disks. Where one disk has the links of the other at all blocks that the
-- other's walk comes to, both walks are the same.
use Rattle.std.proofs.Common.{◌≡◌, ◌∙◌, inl, inr, ℕ, zero, suc, List, Option, None, Some, ap, refl, sym}
use Rattle.rd_cbm.specs.Walks.{Links, next_of, at, Reaches, Ends, GoesOff, Loops, IsChain}
use Rattle.rd_cbm.proofs.WalkLaws.{at-zero, at-suc, step}

-- One disk has the links of another at the blocks that the other's walk from s comes to.
pub record HasLinksAlong (link other : Links) (s : Option ℕ) : Type 0 where
  pub same : (n : ℕ) → Reaches other s n → link n ≡ other n

step_alike : (link other : Links) (place : Option ℕ) → ((n : ℕ) → place ≡ Some n → link n ≡ other n) → step link place ≡ step other place
step_alike link other None same = refl
step_alike link other (Some n) same = ap next_of (same n refl)

-- the walks are at the same block at each place
pub walk_alike : {link other : Links} {s : Option ℕ} → HasLinksAlong link other s → (i : ℕ) → at link s i ≡ at other s i
walk_alike along zero = at-zero _ _ ∙ sym (at-zero _ _)
walk_alike along (suc i) =
    at-suc _ _ i ∙ ap (step _) (walk_alike along i)
    ∙ step_alike _ _ (at _ _ i) (λ n there. along.same n (record { place = i; there = there })) ∙ sym (at-suc _ _ i)

-- what one walk comes to, the other comes to
pub reaches_alike : {link other : Links} {s : Option ℕ} → HasLinksAlong link other s → (n : ℕ) → Reaches other s n → Reaches link s n
reaches_alike along n reached = record { place = reached.place; there = walk_alike along reached.place ∙ reached.there }

-- the other disk has the links of the first in turn
pub along_turned : {link other : Links} {s : Option ℕ} → HasLinksAlong link other s → HasLinksAlong other link s
along_turned along = record {
  same = λ n reached. sym (along.same n (record { place = reached.place; there = sym (walk_alike along reached.place) ∙ reached.there }));
}

-- so their chains are the same, and they end in the same ways
pub chain_alike : {link other : Links} {s : Option ℕ} → HasLinksAlong link other s → (blocks : List ℕ) → IsChain other s blocks → IsChain link s blocks
chain_alike along blocks chain = record {
  in_order = λ i inside. walk_alike along i ∙ chain.in_order i inside;
  once = chain.once;
  all = λ n reached. chain.all n (reaches_alike (along_turned along) n reached);
}

pub last_alike : {link other : Links} {s : Option ℕ} → HasLinksAlong link other s → (e : ℕ) → Ends other s e → Ends link s e
last_alike along e ends = record {
  block = ends.block;
  reached = reaches_alike along ends.block ends.reached;
  last = along.same ends.block ends.reached ∙ ends.last;
}

pub off_alike : {link other : Links} {s : Option ℕ} → HasLinksAlong link other s → GoesOff other s → GoesOff link s
off_alike along (inl none) = inl none
off_alike along (inr leaves) = inr (record {
  block = leaves.block;
  reached = reaches_alike along leaves.block leaves.reached;
  off = along.same leaves.block leaves.reached ∙ leaves.off;
})

pub loop_alike : {link other : Links} {s : Option ℕ} → HasLinksAlong link other s → Loops other s → Loops link s
loop_alike along loop = record {
  first = loop.first;
  second = loop.second;
  block = loop.block;
  later = loop.later;
  reached = walk_alike along loop.first ∙ loop.reached;
  again = walk_alike along loop.second ∙ loop.again;
}
