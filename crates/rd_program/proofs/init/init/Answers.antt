use Rattle.std.proofs.Common.{refl, subst, sym}
use Rattle.rd_commands.specs.RefusalLines.{whole}
use Rattle.rd_program.specs.Does.{DoesInit}
use Rattle.rd_program.proofs.LeftStores.{on_ended_always}
use Rattle.rd_program.proofs.Moments.{is_err}
use Rattle.rd_program.proofs.PerformLemmas.{at_both}
use Rattle.sha2.specs.Sha256.{sha256}
use Rattle.rd_program.specs.Inits.{LeavesInit, RefusesInit}
use Rattle.rd_program.proofs.ImportLemmas.{on_err}
use Rattle.rd_program.proofs.InitLemmas.{at_err_both, not_inited, of_device, on_both, on_ok}
use Rattle.rd_program.proofs.init.init.Goals as goal

pub returns-clause-does : goal.returns-clause-does
returns-clause-does g c =
    let before = g.M.Machine.seen c.args.machine.now in
    let after = g.M.Machine.seen c.make_desk.new.machine in
    let out = g.W.Write.contents c.args.output.now in
    let written = g.W.Write.contents c.write_whole.new.output in
    let r = c.write_whole.result in
    record {
      frame = c.make_desk.ensures.frame;
      store = record { asked = c.make_desk.ensures.asked; there = on_ended_always (whole r) _ c.in_ok-make_desk.ensures.there };
      so = at_both r (whole r) _ _ refl (on_both r _ _ (on_ok r _ c.in_ok-make_desk.ensures.made) c.write_whole.ensures.done)
          (at_err_both r _ _ (of_device r (λ refusal. RefusesInit refusal out written) c.write_whole.ensures.device c.write_whole.ensures.cut)
          (of_device r (LeavesInit g.M.Disk.Store before.left (before.stands c.args.ask.store.now) after.left (sha256 c.args.ask.key.now)) c.write_whole.ensures.device
          (on_err r _ c.in_ok-make_desk.ensures.made)));
    }

pub returns-in_err-make_desk-clause-does : goal.returns-in_err-make_desk-clause-does
returns-in_err-make_desk-clause-does g c =
    let before = g.M.Machine.seen c.args.machine.now in
    let after = g.M.Machine.seen c.make_desk.new.machine in
    let out = g.W.Write.contents c.args.output.now in
    let refusal = c.in_err-make_desk.field-0.0 in
    subst (λ r. DoesInit g.M.Disk.Store before after out out c.args.ask (whole r)) (sym (is_err c.from_residual.result refusal c.from_residual.ensures.1)) (record {
      frame = c.make_desk.ensures.frame;
      store = record { asked = c.make_desk.ensures.asked; there = c.in_err-make_desk.ensures.there };
      so = (not_inited refusal out c.in_err-make_desk.ensures.refused, c.in_err-make_desk.ensures.left);
    })
