-- Each walk ends in some way, and it is over at place 683 unless it loops. A walk is followed with a mark
-- for each block, of which there are 683.
use Rattle.std.proofs.Common.{◌≡◌, ◌<◌, ◌≤◌, ◌+◌, ◌∙◌, ◌⊎◌, inl, inr, ℕ, zero, suc, Bool, true, false, List, [], ◌∷◌, ◌++◌, Option, Some, None, IfSome, length, slice_index_or, replicate, arith, refl, ap, subst, lit<}
use Rattle.std.proofs.Math.ListN.{set}
use Rattle.rd_geometry.specs.Blocks.{CBM_BLOCKS}
use Rattle.rd_cbm.specs.declared.chains.Link.{Link}
use Rattle.rd_cbm.specs.declared.chains.Link.TheVariants.{Last, Next, Off}
use Rattle.rd_cbm.specs.declared.chains.End.{End}
use Rattle.rd_cbm.specs.declared.chains.End.TheVariants as end
use Rattle.rd_cbm.specs.Walks.{Links, next_of, at, EndsBy, Loops, EndsOnce, IsChain}
use Rattle.rd_cbm.proofs.MarkLemmas.{IsAt, Leads, unmarked}
use Rattle.rd_cbm.proofs.WalkLaws.{at-zero, over_later, one_way}
use Rattle.rd_cbm.proofs.WalkSteps.{noted_more, noted_reached, walk_on, loops, first_block, one_fewer, chain_none, chain_stopped, chain_looped}

-- The chain of a walk, how the walk ends, and that it is over at place 683 unless it loops.
pub record HasEnd (link : Links) (s : Option ℕ) : Type 0 where
  pub blocks : List ℕ
  pub chain : IsChain link s blocks
  pub ending : End
  pub holds : EndsBy link s ending
  pub over : (at link s CBM_BLOCKS ≡ None) ⊎ (ending ≡ end.Loop)

-- links lead to blocks of the disk
unfoldable pub StaysInside : Links → Type 0
StaysInside link = (m n : ℕ) → link m ≡ Next n → n < CBM_BLOCKS

over_at_end : (link : Links) (s : Option ℕ) (block : ℕ) (blocks : List ℕ) (marks : List Bool) (l : Link)
    → Leads link s block blocks marks → link block ≡ l → next_of l ≡ None → at link s CBM_BLOCKS ≡ None
over_at_end link s block blocks marks l w is stop =
    let few : length blocks ≤ CBM_BLOCKS = omega (arith, w.noted.counted) in
    over_later link s (length blocks) CBM_BLOCKS few (w.there ∙ ap next_of is ∙ stop)

-- at a block just noted the walk ends or goes on, by its link
by_link : (link : Links) (s : Option ℕ) → StaysInside link → (block : ℕ) (blocks : List ℕ) (marks : List Bool) → Leads link s block blocks marks
    → ((next : ℕ) → IsAt link s next blocks marks → HasEnd link s) → (l : Link) → link block ≡ l → HasEnd link s
unfolding StaysInside
by_link link s stays block blocks marks w go_on (Last e) is = record {
  blocks = blocks;
  chain = chain_stopped link s block blocks marks (Last e) w is refl;
  ending = end.Last e;
  holds = record { block = block; reached = noted_reached link s blocks marks block w.noted w.reached; last = is };
  over = inl (over_at_end link s block blocks marks (Last e) w is refl);
}
by_link link s stays block blocks marks w go_on Off is = record {
  blocks = blocks;
  chain = chain_stopped link s block blocks marks Off w is refl;
  ending = end.Off;
  holds = inr (record { block = block; reached = noted_reached link s blocks marks block w.noted w.reached; off = is });
  over = inl (over_at_end link s block blocks marks Off w is refl);
}
by_link link s stays block blocks marks w go_on (Next next) is = go_on next (walk_on link s block next blocks marks w is (stays block next is))

set_or_clear : (b : Bool) → (b ≡ true) ⊎ (b ≡ false)
set_or_clear true = inl refl
set_or_clear false = inr refl

-- with fewer blocks left than fuel the walk from a block has a chain and an end
end_from : (link : Links) (s : Option ℕ) → StaysInside link → (fuel block : ℕ) (blocks : List ℕ) (marks : List Bool)
    → IsAt link s block blocks marks → unmarked marks < fuel → HasEnd link s
end_from link s stays zero block blocks marks w less = absurd (omega arith)
end_from link s stays (suc fuel) block blocks marks w less =
    elim (set_or_clear (slice_index_or marks block false)) [
      | inl mark ↦ record {
        blocks = blocks;
        chain = chain_looped link s block blocks marks w mark;
        ending = end.Loop;
        holds = loops link s block blocks marks w mark;
        over = inr refl;
      }
      | inr new ↦
          let low : block < length marks = omega (arith, w.on_disk, w.noted.whole) in
          let fewer : unmarked (set marks block true) + 1 ≡ unmarked marks = one_fewer marks block low new in
          by_link link s stays block (blocks ++ block ∷ []) (set marks block true) (noted_more link s block blocks marks w new)
          (λ next v. end_from link s stays fuel next (blocks ++ block ∷ []) (set marks block true) v (omega arith))
          (link block) refl
    ]

-- each walk has a chain and an end
pub has_end : (link : Links) (s : Option ℕ) → StaysInside link → IfSome s (λ n. n < CBM_BLOCKS) → HasEnd link s
has_end link None stays low = record {
  blocks = [];
  chain = chain_none link None refl;
  ending = end.Off;
  holds = inl refl;
  over = inl (over_later link None 0 CBM_BLOCKS (omega arith) (at-zero link None));
}
has_end link (Some n) stays low = end_from link (Some n) stays 684 n [] (replicate CBM_BLOCKS false) (first_block link (Some n) n refl low) (lit< tt)

pub ends_once : (link : Links) (s : Option ℕ) → StaysInside link → IfSome s (λ n. n < CBM_BLOCKS) → EndsOnce link s
ends_once link s stays low =
    let e = has_end link s stays low in record { ending = e.ending; holds = e.holds; only = λ other holds. one_way link s other e.ending holds e.holds }

pub long_walk_loops : (link : Links) (s : Option ℕ) → StaysInside link → IfSome s (λ n. n < CBM_BLOCKS) → (n : ℕ) → at link s CBM_BLOCKS ≡ Some n → Loops link s
long_walk_loops link s stays low n there =
    let e = has_end link s stays low in
    elim e.over [
      | inl over ↦ absurd (let gone : at link s CBM_BLOCKS ≡ None = over in cc)
      | inr loop ↦ subst (EndsBy link s) loop e.holds
    ]
