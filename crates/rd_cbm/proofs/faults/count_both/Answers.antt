use Rattle.std.proofs.Common.{◌<◌, ℕ, IsTrue, false, slice_index, slice_index_or, arith, rules}
use Rattle.std.proofs.lemmas.Grind.{common_steps}
use Rattle.rd_geometry.specs.Blocks.{CBM_BLOCKS}
use Rattle.rd_cbm.proofs.ClaimLemmas.{used_by_one}
use Rattle.rd_cbm.proofs.TwoChains.{all_passed, none_passed, passed_more, passed_skip}
use Rattle.rd_cbm.proofs.UseLemmas.{not_among}
use Rattle.rd_cbm.proofs.faults.count_both.Goals as goal

pub loop-block-init : goal.loop-block-init
loop-block-init c = none_passed c.args.contents.now c.args.sides.now c.requires.contents_once

pub loop-block-preserved-then-own-block : goal.loop-block-preserved-then-own-block
loop-block-preserved-then-own-block c =
    let block : ℕ = slice_index c.args.sides.now c.loop-block.block-index in
    let low : block < CBM_BLOCKS = search rules in
    passed_skip _ _ _ _ c.loop-block.invariant
    ((used_by_one c.args.contents.now _ _ _ _ c.none-own.ensures.used c.add_all.ensures block low).0 (let set = c.if-own-block.true in first_of (cc, grind (arith, common_steps))))

pub loop-block-preserved : goal.loop-block-preserved
loop-block-preserved c =
    let block : ℕ = slice_index c.args.sides.now c.loop-block.block-index in
    let low : block < CBM_BLOCKS = search rules in
    passed_more _ _ _ _ c.loop-block.invariant
    (λ there.
    let set : IsTrue (slice_index_or c.add_all.new.self.used block false) = (used_by_one c.args.contents.now _ _ _ _ c.none-own.ensures.used c.add_all.ensures block low).1 there in
    let unset = c.if-own-block.false in first_of (cc, grind (arith, common_steps)))
    (not_among _ _ c.requires.sides_once (search rules))

pub returns : goal.returns
returns c = all_passed _ _ _ _ (omega arith) c.loop-block.invariant
