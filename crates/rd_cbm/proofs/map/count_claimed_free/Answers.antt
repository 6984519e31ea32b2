use Rattle.std.proofs.Common.{◌≡◌, ◌<◌, IsTrue, false, slice_index_or, arith, refl, subst}
use Rattle.std.proofs.lemmas.Grind.{common_steps}
use Rattle.rd_geometry.specs.Blocks.{CBM_BLOCKS}
use Rattle.rd_geometry.specs.CbmDisks.{cbm_bytes}
use Rattle.rd_cbm.specs.BlockMap.{IsFreeBlock}
use Rattle.rd_cbm.specs.Counts.{IsCount}
use Rattle.rd_cbm.proofs.CountLemmas.{count_skip, count_more}
use Rattle.rd_cbm.proofs.TestLemmas.{refuted}
use Rattle.rd_cbm.proofs.map.count_claimed_free.Goals as goal

pub loop-block-preserved-then-not-uses-block : goal.loop-block-preserved-then-not-uses-block
loop-block-preserved-then-not-uses-block c = count_skip _ _ _ c.loop-block.invariant (λ both. let set = both.0 in let unset = c.if-not-uses-block.true in first_of (cc, grind (arith, common_steps)))

pub loop-block-preserved-then-not-is_free_block : goal.loop-block-preserved-then-not-is_free_block
loop-block-preserved-then-not-is_free_block c = count_skip _ _ _ c.loop-block.invariant (λ both. refuted c.if-not-is_free_block.ensures both.1)

pub loop-block-preserved : goal.loop-block-preserved
loop-block-preserved c =
    let set : IsTrue (slice_index_or c.args.uses.now.used c.loop-block.block false) = (let used = c.if-not-uses-block.false in first_of (cc, grind (arith, common_steps))) in
    count_more _ _ _ c.loop-block.invariant (set, c.if-not-is_free_block.ensures.0 refl)

pub returns : goal.returns
returns c =
    let whole : c.loop-block.block ≡ CBM_BLOCKS = omega arith in
    subst (λ k. IsCount (λ b. (b < k) × (IsTrue (slice_index_or c.args.uses.now.used b false) × IsFreeBlock (cbm_bytes c.args.disk.now) b)) c.loop-block.count) whole
    c.loop-block.invariant.counted
