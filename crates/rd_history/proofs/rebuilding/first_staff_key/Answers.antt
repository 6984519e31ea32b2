use Rattle.std.proofs.Common.{arith, subst, take_all}
use Rattle.std.proofs.lemmas.List.Elements.{All-more}
use Rattle.rd_history.specs.Rebuilt.{GiveNoStaffKey, IsStaffKey}
use Rattle.rd_history.specs.declared.entry.Change.{Change}
use Rattle.rd_history.proofs.rebuilding.first_staff_key.Goals as goal

pub loop-change-preserved : goal.loop-change-preserved
loop-change-preserved c =
    All-more (λ (change : Change). ¬ IsStaffKey change) c.args.changes.now c.loop-change.change-index c.change-item.result c.loop-change-test.true c.loop-change.invariant (subst (λ (change : Change). ¬ IsStaffKey change) c.change-item.is c.in-None.ensures)

pub returns : goal.returns
returns c = subst GiveNoStaffKey (take_all c.loop-change.change-index c.args.changes.now (omega (arith, c.loop-change-test.false))) c.loop-change.invariant
