use Rattle.std.proofs.Common.{rules, sym, refl}
use Rattle.rd_cbm.proofs.WalkSteps.{noted_more, walk_on, chain_none, chain_stopped, chain_looped, loops, first_block}
use Rattle.rd_cbm.proofs.walk.walk.Goals as goal

pub returns-in_default-clause-blocks : goal.returns-in_default-clause-blocks
returns-in_default-clause-blocks c = rw c.requires.none (chain_none _ _ (search rules))

pub loop-marks-init : goal.loop-marks-init
loop-marks-init c = rw c.requires.none (first_block _ _ _ (search rules) (search rules))

pub returns-in-Last-clause-blocks : goal.returns-in-Last-clause-blocks
returns-in-Last-clause-blocks c = rw c.in_ok-push.ensures.items (chain_stopped _ _ _ _ _ _ (noted_more _ _ _ _ _ c.loop-marks.invariant (search rules)) (sym c.in-Last.ensures.link) refl)

pub returns-in-Off-clause-blocks : goal.returns-in-Off-clause-blocks
returns-in-Off-clause-blocks c = rw c.in_ok-push.ensures.items (chain_stopped _ _ _ _ _ _ (noted_more _ _ _ _ _ c.loop-marks.invariant (search rules)) (sym c.in-Off.ensures.link) refl)

pub loop-marks-preserved : goal.loop-marks-preserved
loop-marks-preserved c = rw c.in_ok-push.ensures.items (walk_on _ _ _ _ _ _ (noted_more _ _ _ _ _ c.loop-marks.invariant (search rules)) (sym c.in-Next.ensures.link) (c.in-Next.ensures.inside _ refl))

pub returns-clause-end : goal.returns-clause-end
returns-clause-end c = loops _ _ _ _ _ c.loop-marks.invariant (search rules)

pub returns-clause-blocks : goal.returns-clause-blocks
returns-clause-blocks c = chain_looped _ _ _ _ _ c.loop-marks.invariant (search rules)
