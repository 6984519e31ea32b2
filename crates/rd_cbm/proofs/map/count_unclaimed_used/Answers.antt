use Rattle.std.proofs.Common.{◌≡◌, ◌<◌, IsTrue, false, slice_index_or, arith, refl, subst}
use Rattle.std.proofs.lemmas.Grind.{common_steps}
use Rattle.rd_geometry.specs.Blocks.{CBM_BLOCKS}
use Rattle.rd_geometry.specs.CbmDisks.{cbm_bytes}
use Rattle.rd_cbm.specs.BlockMap.{IsFreeBlock}
use Rattle.rd_cbm.specs.Counts.{IsCount}
use Rattle.rd_cbm.proofs.CountLemmas.{count_skip, count_more}
use Rattle.rd_cbm.proofs.TestLemmas.{refuted}
use Rattle.rd_cbm.proofs.map.count_unclaimed_used.Goals as goal

pub loop-block-preserved-then-uses-block : goal.loop-block-preserved-then-uses-block
loop-block-preserved-then-uses-block c = count_skip _ _ _ c.loop-block.invariant (λ both. both.0 c.if-uses-block.true)

pub loop-block-preserved-then-is_free_block : goal.loop-block-preserved-then-is_free_block
loop-block-preserved-then-is_free_block c = count_skip _ _ _ c.loop-block.invariant (λ both. both.1 (c.if-is_free_block.ensures.0 refl))

pub loop-block-preserved : goal.loop-block-preserved
loop-block-preserved c =
    count_more _ _ _ c.loop-block.invariant ((λ set. let unset = c.if-uses-block.false in first_of (cc, grind (arith, common_steps))), λ free. refuted c.if-is_free_block.ensures free)

pub returns : goal.returns
returns c =
    let whole : c.loop-block.block ≡ CBM_BLOCKS = omega arith in
    subst (λ k. IsCount (λ b. (b < k) × ((¬ IsTrue (slice_index_or c.args.uses.now.used b false)) × (¬ IsFreeBlock (cbm_bytes c.args.disk.now) b))) c.loop-block.count) whole
    c.loop-block.invariant.counted
