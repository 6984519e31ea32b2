use Rattle.std.proofs.Common.{rules, arith, refl}
use Rattle.rd_cbm.proofs.UseLemmas.{added_none, added_more, added_all, not_among}
use Rattle.rd_cbm.proofs.claims.Uses.add_all.Goals as goal

pub loop-block-init : goal.loop-block-init
loop-block-init c = added_none _ _ _ (search rules) (search rules)

pub loop-block-preserved : goal.loop-block-preserved
loop-block-preserved c = rw (c.add.ensures.used, c.add.ensures.shared)
    (added_more _ _ _ _ _ _ _ c.loop-block.invariant refl (search rules) (not_among _ _ c.requires.once (search rules)))

pub returns : goal.returns
returns c = added_all _ _ _ _ _ _ (omega arith) c.loop-block.invariant
