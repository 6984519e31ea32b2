use Rattle.std.proofs.Common.{refl, subst, sym}
use Rattle.rd_commands.specs.RefusalLines.{whole}
use Rattle.rd_program.specs.Does.{DoesStaffKey}
use Rattle.rd_program.proofs.LeftStores.{on_ended_always}
use Rattle.rd_program.proofs.Moments.{is_err}
use Rattle.rd_program.proofs.PerformLemmas.{at_both}
use Rattle.sha2.specs.Sha256.{sha256}
use Rattle.rd_program.specs.StaffKeys.{LeavesStaffKey, RefusesStaffKey}
use Rattle.rd_program.proofs.ImportLemmas.{on_err}
use Rattle.rd_program.proofs.InitLemmas.{of_device, on_both, on_ok}
use Rattle.rd_program.proofs.ShowLemmas.{passed_on}
use Rattle.rd_program.proofs.StaffKeyLemmas.{at_err_all, device_opens, not_put}
use Rattle.rd_program.proofs.staff_key.staff_key.Goals as goal

pub returns-in_err-put_in_store-clause-refused : goal.returns-in_err-put_in_store-clause-refused
returns-in_err-put_in_store-clause-refused g c =
    passed_on c.from_residual.result c.in_err-put_in_store.field-0.0 _ c.from_residual.ensures.1
    (not_put c.in_err-put_in_store.field-0.0 (g.W.Write.contents c.args.output.now) c.in_err-put_in_store.ensures.refused)

pub returns-clause-does : goal.returns-clause-does
returns-clause-does g c =
    let before = g.M.Machine.seen c.args.machine.now in
    let after = g.M.Machine.seen c.put_in_store.new.machine in
    let out = g.W.Write.contents c.args.output.now in
    let written = g.W.Write.contents c.write_whole.new.output in
    let r = c.write_whole.result in
    record {
      frame = c.put_in_store.ensures.frame;
      store = record { asked = c.put_in_store.ensures.asked; there = on_ended_always (whole r) _ c.in_ok-put_in_store.ensures.there };
      so = at_both r (whole r) _ _ refl (on_both r _ _ (on_ok r _ c.in_ok-put_in_store.ensures.put) c.write_whole.ensures.done)
          (at_err_all r _ _ _ (of_device r (λ refusal. RefusesStaffKey refusal out written) c.write_whole.ensures.device c.write_whole.ensures.cut)
          (of_device r (LeavesStaffKey g.M.Disk.Store before.left (before.stands c.args.ask.store.now) after.left (sha256 c.args.ask.key.now)) c.write_whole.ensures.device
          (on_err r _ c.in_ok-put_in_store.ensures.put))
          (device_opens r g.M.Disk.Store (before.stands c.args.ask.store.now) after.left c.write_whole.ensures.device));
    }

pub returns-in_err-put_in_store-clause-does : goal.returns-in_err-put_in_store-clause-does
returns-in_err-put_in_store-clause-does g c =
    let before = g.M.Machine.seen c.args.machine.now in
    let after = g.M.Machine.seen c.put_in_store.new.machine in
    let out = g.W.Write.contents c.args.output.now in
    let refusal = c.in_err-put_in_store.field-0.0 in
    subst (λ r. DoesStaffKey g.M.Disk.Store before after out out c.args.ask (whole r)) (sym (is_err c.from_residual.result refusal c.from_residual.ensures.1)) (record {
      frame = c.put_in_store.ensures.frame;
      store = record { asked = c.put_in_store.ensures.asked; there = c.in_err-put_in_store.ensures.there };
      so = (not_put refusal out c.in_err-put_in_store.ensures.refused, c.in_err-put_in_store.ensures.left, c.in_err-put_in_store.ensures.opens);
    })
