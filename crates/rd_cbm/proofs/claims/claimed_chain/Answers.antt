use Rattle.std.proofs.Common.{◌≡◌, ◌∙◌, ◌<◌, ◌≤◌, ℕ, List, Bool, true, All, IfOk, Result, Ok, Err, Option, length, refl}
use Rattle.rd_geometry.specs.Blocks.{CBM_BLOCKS}
use Rattle.rd_cbm.specs.declared.chains.Chain.{Chain}
use Rattle.rd_cbm.specs.Links.{link_of}
use Rattle.rd_cbm.specs.Walks.{IsChain, EndsBy}
use Rattle.rd_cbm.specs.Marked.{IsClaimChain}
use Rattle.rd_cbm.proofs.ClaimLemmas.{chain_claimed, chain_unclaimed}
use Rattle.rd_cbm.proofs.claims.claimed_chain.Goals as goal

-- what the walk tells of its chain, where memory sufficed
claimed_ok : {E : Type 0} (image : List ℕ) (start : Option ℕ) (t : Bool) (r : Result Chain E) → t ≡ true → IfOk r (λ chain. IsChain (link_of image) start chain.blocks)
    → IfOk r (λ chain. EndsBy (link_of image) start chain.end) → IfOk r (λ chain. All (λ b. b < CBM_BLOCKS) chain.blocks)
    → IfOk r (λ chain. length chain.blocks ≤ CBM_BLOCKS)
    → IfOk r (IsClaimChain image start (t ≡ true))
claimed_ok image start t (Ok chain) set blocks ends inside few = chain_claimed image start t chain set blocks ends inside few
claimed_ok image start t (Err e) set blocks ends inside few = tt

pub returns-then-claims : goal.returns-then-claims
returns-then-claims c = claimed_ok _ _ _ _ c.if-claims.true c.chain.ensures.blocks c.chain.ensures.end c.chain.ensures.inside c.chain.ensures.count

pub returns : goal.returns
returns c = chain_unclaimed _ _ _ _ c.if-claims.false (c.of.ensures ∙ c.new.ensures.items) refl
