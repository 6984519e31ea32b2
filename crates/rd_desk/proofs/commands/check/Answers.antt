use Rattle.std.proofs.Common.{◌∙◌, ap, sym, w32}
use Rattle.std.proofs.lemmas.Int.{to_z-of_z}
use Rattle.std.specs.FinMap.{get}
use Rattle.rd_store.specs.Held.{desk}
use Rattle.rd_holdings.specs.State.{Desk}
use Rattle.rd_desk.proofs.OneChange.{change_last, changes_as, check_recorded, reads_alone}
use Rattle.rd_desk.proofs.commands.check.Goals as goal

pub returns-in_err-image-clause-one_change : goal.returns-in_err-image-clause-one_change
returns-in_err-image-clause-one_change g c = reads_alone g.S.Store c.args.day _ _ c.args.store.now c.image.new.self c.image.ensures.reads.keeps

pub returns-in_default-clause-one_change : goal.returns-in_default-clause-one_change
returns-in_default-clause-one_change g c = reads_alone g.S.Store c.args.day _ _ c.args.store.now c.image.new.self c.image.ensures.reads.keeps

pub returns-in-Ok-clause-one_change : goal.returns-in-Ok-clause-one_change
returns-in-Ok-clause-one_change g c =
    let middle = desk g.S.Store c.image.new.self in
    let day = to_z-of_z w32 c.args.day c.ranges.day in
    change_last g.S.Store c.args.day _ _ c.args.store.now c.image.new.self c.put_check.new.self c.image.ensures.reads.keeps tt
    (record {
      result = c.put_check.result;
      changes = changes_as g.S.Store c.image.new.self c.put_check.new.self _ _ c.put_check.result
          (λ o. check_recorded middle c.args.acc c.args.day c.in_ok-image.field-0 c.in-Some.image c.check_row-outcome.result
          (c.in_ok-image.ensures.reads.answer o ∙ ap (λ (d : Desk). get d.images c.args.acc) (sym (c.image.ensures.reads.keeps.same o))) c.in-Some.is (rw c.as_slice.ensures at c.check_row-outcome.ensures.outcome))
          (rw day at c.put_check.ensures.changes);
      returned = rw c.in-Ok.is tt;
    })

pub returns-clause-one_change : goal.returns-clause-one_change
returns-clause-one_change g c =
    let middle = desk g.S.Store c.image.new.self in
    let day = to_z-of_z w32 c.args.day c.ranges.day in
    change_last g.S.Store c.args.day _ _ c.args.store.now c.image.new.self c.put_check.new.self c.image.ensures.reads.keeps tt
    (record {
      result = c.put_check.result;
      changes = changes_as g.S.Store c.image.new.self c.put_check.new.self _ _ c.put_check.result
          (λ o. check_recorded middle c.args.acc c.args.day c.in_ok-image.field-0 c.in-Some.image c.check_row-outcome.result
          (c.in_ok-image.ensures.reads.answer o ∙ ap (λ (d : Desk). get d.images c.args.acc) (sym (c.image.ensures.reads.keeps.same o))) c.in-Some.is (rw c.as_slice.ensures at c.check_row-outcome.ensures.outcome))
          (rw day at c.put_check.ensures.changes);
      returned = rw c.in-Err.is tt;
    })
