use Rattle.std.proofs.Common.{refl, subst, sym}
use Rattle.rd_commands.specs.RefusalLines.{whole}
use Rattle.rd_program.specs.Does.{DoesCopy}
use Rattle.rd_program.proofs.LeftStores.{on_ended_always}
use Rattle.rd_program.proofs.Moments.{is_err}
use Rattle.rd_program.specs.Copying.{RefusesCopy}
use Rattle.rd_program.proofs.CopyLemmas.{copy_done, device_leaves, not_copied}
use Rattle.rd_program.proofs.ImportLemmas.{err_whole, ok_whole}
use Rattle.rd_program.proofs.InitLemmas.{of_device, on_ok}
use Rattle.rd_program.proofs.ShowLemmas.{passed_on}
use Rattle.rd_program.proofs.StaffKeyLemmas.{at_err_all, device_opens}
use Rattle.rd_program.proofs.copy.copy.Goals as goal

pub returns-in_err-copy_store-clause-refused : goal.returns-in_err-copy_store-clause-refused
returns-in_err-copy_store-clause-refused g c =
    passed_on c.from_residual.result c.in_err-copy_store.field-0.0 _ c.from_residual.ensures.1
    (not_copied c.in_err-copy_store.field-0.0 (g.W.Write.contents c.args.output.now) c.in_err-copy_store.ensures.refused)

pub returns-clause-does : goal.returns-clause-does
returns-clause-does g c =
    let before = g.M.Machine.seen c.args.machine.now in
    let after = g.M.Machine.seen c.copy_store.new.machine in
    let out = g.W.Write.contents c.args.output.now in
    let written = g.W.Write.contents c.write_whole.new.output in
    let r = c.write_whole.result in
    record {
      frame = c.copy_store.ensures.frame;
      asked = c.copy_store.ensures.asked;
      there = on_ended_always (whole r) _ c.in_ok-copy_store.ensures.there;
      leaves = c.copy_store.ensures.leaves;
      copies = record {
        done = ok_whole _ r (whole r) refl (copy_done r _ _ _ (on_ok r _ c.in_ok-copy_store.ensures.copied) c.write_whole.ensures.done);
        due = err_whole _ r (whole r) refl (at_err_all r _ _ _ (of_device r (λ refusal. RefusesCopy refusal out written) c.write_whole.ensures.device c.write_whole.ensures.cut)
            (device_leaves r g.M.Disk.Store (before.stands c.args.ask.store.now) after.left before.made (before.fresh c.args.ask.target.now) after.made c.write_whole.ensures.device c.in_ok-copy_store.ensures.copied.1)
            (device_opens r g.M.Disk.Store (before.stands c.args.ask.store.now) after.left c.write_whole.ensures.device));
        back = c.copy_store.ensures.back_new;
      };
    }

pub returns-in_err-copy_store-clause-does : goal.returns-in_err-copy_store-clause-does
returns-in_err-copy_store-clause-does g c =
    let before = g.M.Machine.seen c.args.machine.now in
    let after = g.M.Machine.seen c.copy_store.new.machine in
    let out = g.W.Write.contents c.args.output.now in
    let refusal = c.in_err-copy_store.field-0.0 in
    subst (λ r. DoesCopy g.M.Disk.Store before after out out c.args.ask (whole r)) (sym (is_err c.from_residual.result refusal c.from_residual.ensures.1)) (record {
      frame = c.copy_store.ensures.frame;
      asked = c.copy_store.ensures.asked;
      there = c.in_err-copy_store.ensures.there;
      leaves = c.copy_store.ensures.leaves;
      copies = record {
        done = tt;
        due = (not_copied refusal out c.in_err-copy_store.ensures.refused, c.in_err-copy_store.ensures.not_copied, c.in_err-copy_store.ensures.opens);
        back = c.copy_store.ensures.back_new;
      };
    })
