use Rattle.std.proofs.Common.{ap, ◌∙◌, Err, IsTrue, inl, option_map, subst, sym, refl}
use Rattle.std.proofs.KnownBytes.{Keeps-refl}
use Rattle.sha2.specs.Sha256.{sha256}
use Rattle.rd_commands.specs.declared.done.Done.{Done}
use Rattle.rd_program.specs.Leaves.{IsDayAt, LeavesDesk, StepsOf, moment_of}
use Rattle.rd_program.proofs.ShowLemmas.{answers_once, not_opened_once}
use Rattle.rd_store.specs.Held.{desk}
use Rattle.rd_program.proofs.Named.{asked_then}
use Rattle.rd_program.proofs.LeftStores.{desk_left, gives_back, has_both, on_ended_always, opened_names, opening_fails, unopened_left, unopened_names}
use Rattle.rd_program.specs.OnTime.{is_dated}
use Rattle.rd_program.specs.World.{World}
use Rattle.rd_program.proofs.Frames.{opened_clock, store_back}
use Rattle.rd_program.proofs.Moments.{asked_at, is_err, unopened_at}
use Rattle.rd_program.specs.Does.{DoesQuestion}
use Rattle.rd_program.proofs.export_check.ask_once.Goals as goal

pub returns-clause-back : goal.returns-clause-back
returns-clause-back g c =
    gives_back (g.M.Machine.seen c.args.machine.now).shows (g.M.Machine.seen c.args.machine.now).left (g.M.Machine.seen c.release.new.self).left _
    (λ shows. c.release.ensures.back (subst (λ b. IsTrue b) (sym ((ap (λ (w : World _ _). w.shows) c.tell_asked-ended.ensures.frame) ∙ (ap (λ (w : World _ _). w.shows) c.open_desk.ensures.frame))) shows))

pub returns-clause-does : goal.returns-clause-does
returns-clause-does g c = record {
  frame = store_back (g.M.Machine.seen c.args.machine.now) (g.M.Machine.seen c.tell_asked-ended.new.machine) (g.M.Machine.seen c.release.new.self)
      (opened_clock (g.M.Machine.seen c.args.machine.now) (g.M.Machine.seen c.open_desk.new.machine) (g.M.Machine.seen c.tell_asked-ended.new.machine) c.open_desk.ensures.frame c.tell_asked-ended.ensures.frame) c.release.ensures.frame;
  store = record {
    asked = asked_then (g.M.Machine.seen c.args.machine.now).wanted (g.M.Machine.seen c.open_desk.new.machine).wanted (g.M.Machine.seen c.release.new.self).wanted c.args.ask.store.now c.open_desk.ensures.asked
        ((ap (λ (w : World _ _). w.wanted) c.release.ensures.frame) ∙ (ap (λ (w : World _ _). w.wanted) c.tell_asked-ended.ensures.frame));
    there = on_ended_always c.tell_asked-ended.result _ (has_both (g.M.Machine.seen c.args.machine.now).shows ((g.M.Machine.seen c.args.machine.now).stands c.args.ask.store.now) (g.M.Machine.seen c.release.new.self).left _
        c.in_ok-desk.ensures.there (λ shows. c.release.ensures.back (subst (λ b. IsTrue b) (sym ((ap (λ (w : World _ _). w.shows) c.tell_asked-ended.ensures.frame) ∙ (ap (λ (w : World _ _). w.shows) c.open_desk.ensures.frame))) shows)));
  };
  leaves = let opened = c.in_ok-desk.desk.store in
      let last = c.tell_asked-ended.new.desk.store in
      let badge = option_map sha256 (option_map (λ key. key.now) c.args.ask.key) in
      let told = c.args.ask.when.seconds in
      let clock = (g.M.Machine.seen c.args.machine.now).clock in
      let later = subst (λ m. LeavesDesk g.M.Disk.Store (StepsOf badge (IsDayAt (moment_of told m) c.in_ok-desk.desk.zone) c.args.ask.question) opened last) (ap (λ (w : World _ _). w.clock) c.open_desk.ensures.frame) c.tell_asked-ended.ensures.steps in
      let steps = subst (λ z. LeavesDesk g.M.Disk.Store (StepsOf badge (IsDayAt (moment_of told clock) z) c.args.ask.question) opened last) c.in_ok-desk.ensures.zone later in
      desk_left g.M.Disk.Store (g.M.Machine.seen c.args.machine.now).left ((g.M.Machine.seen c.args.machine.now).stands c.args.ask.store.now) (g.M.Machine.seen c.release.new.self).left
      (StepsOf badge (IsDayAt (moment_of told clock) c.args.ask.when.zone) c.args.ask.question) opened last c.into_connection.result
      c.in_ok-desk.ensures.opened steps (c.into_connection.ensures.same ∙ c.into_store.ensures) c.release.ensures.left;
  moment = asked_at g.M.Disk.Store (g.M.Machine.seen c.args.machine.now) (g.M.Machine.seen c.open_desk.new.machine) (g.M.Machine.seen c.release.new.self) c.args.ask.store.now c.args.ask.when (is_dated c.args.ask.question) c.tell_asked-ended.result
      c.in_ok-desk.desk.store c.tell_asked-ended.new.desk.store c.into_connection.result c.in_ok-desk.desk.zone c.open_desk.ensures.frame c.in_ok-desk.ensures.zone c.in_ok-desk.ensures.opened
      c.tell_asked-ended.ensures.steps.lasts (c.into_connection.ensures.same ∙ c.into_store.ensures) c.release.ensures.left c.tell_asked-ended.ensures.moment;
  answers = answers_once g.M.Disk.Store c.args.ask c.tell_asked-ended.result ((g.M.Machine.seen c.args.machine.now).stands c.args.ask.store.now) (g.M.Machine.seen c.release.new.self).left
      c.in_ok-desk.desk.store c.tell_asked-ended.new.desk.store c.into_connection.result (g.M.Machine.seen c.args.machine.now).clock (g.M.Machine.seen c.open_desk.new.machine).clock
      c.in_ok-desk.desk.zone (g.W.Write.contents c.args.output.now) (g.W.Write.contents c.tell_asked-ended.new.output)
      c.in_ok-desk.ensures.opened c.tell_asked-ended.ensures.steps.lasts (c.into_connection.ensures.same ∙ c.into_store.ensures) c.release.ensures.left
      (ap (λ (w : World _ _). w.clock) c.open_desk.ensures.frame) c.in_ok-desk.ensures.zone c.tell_asked-ended.ensures.shown c.tell_asked-ended.ensures.not_shown
      c.tell_asked-ended.ensures.found c.tell_asked-ended.ensures.due c.tell_asked-ended.ensures.steps;
  tells = c.tell_asked-ended.ensures.written;
  refused = c.tell_asked-ended.ensures.refused;
  opening = opened_names g.M.Disk.Store c.tell_asked-ended.result ((g.M.Machine.seen c.args.machine.now).stands c.args.ask.store.now) (g.M.Machine.seen c.release.new.self).left c.tell_asked-ended.ensures.moment.opened_first;
}

pub returns-in_err-desk-clause-does : goal.returns-in_err-desk-clause-does
returns-in_err-desk-clause-does g c =
    let before = g.M.Machine.seen c.args.machine.now in
    let after = g.M.Machine.seen c.open_desk.new.machine in
    let out = g.W.Write.contents c.args.output.now in
    let refusal = c.in_err-desk.field-0.0 in
    let opening = c.in_err-desk.ensures.refused in
    let left = c.in_err-desk.ensures.left in
    subst (DoesQuestion g.M.Disk.Store before after out out c.args.ask) (sym (is_err c.from_residual.result refusal c.from_residual.ensures.1)) (record {
      frame = opened_clock before after after c.open_desk.ensures.frame refl;
      store = record { asked = c.open_desk.ensures.asked; there = opening_fails {T = Done} (Err refusal) refusal _ refl opening };
      leaves = unopened_left g.M.Disk.Store before.left (before.stands c.args.ask.store.now) after.left
          (StepsOf (option_map sha256 (option_map (λ key. key.now) c.args.ask.key)) (IsDayAt (moment_of c.args.ask.when.seconds before.clock) c.args.ask.when.zone) c.args.ask.question) refusal opening left;
      moment = unopened_at g.M.Disk.Store before after after c.args.ask.store.now c.args.ask.when (is_dated c.args.ask.question) (Err refusal) refusal refl opening;
      answers = not_opened_once g.M.Disk.Store before.clock (before.stands c.args.ask.store.now) after.left out c.args.ask (Err refusal) refusal refl opening;
      tells = λ acc is. tt;
      refused = inl (inl opening, Keeps-refl out);
      opening = unopened_names g.M.Disk.Store before.left (before.stands c.args.ask.store.now) after.left refusal left;
    })
