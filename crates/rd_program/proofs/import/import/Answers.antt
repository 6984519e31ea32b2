use Rattle.std.proofs.Common.{◌∙◌, Err, IsTrue, ap, inl, inr, subst, sym, true, refl}
use Rattle.sha2.specs.Sha256.{sha256}
use Rattle.rd_commands.specs.declared.done.Done.{Done}
use Rattle.rd_program.specs.Leaves.{IsDayAt, IsSame, LeavesDesk, TakesUnlessDry, moment_of}
use Rattle.rd_program.proofs.RowLemmas.{opening_no_sheet, shown_before}
use Rattle.rd_program.proofs.ImportedRows.{import_ended, stop_ended}
use Rattle.std.proofs.KnownBytes.{Keeps-refl}
use Rattle.rd_program.specs.Does.{DoesImport}
use Rattle.rd_program.proofs.PerformLemmas.{match_both}
use Rattle.rd_store.specs.Held.{desk}
use Rattle.rd_program.proofs.Named.{asked_then}
use Rattle.rd_program.proofs.LeftStores.{desk_left, gives_back, has_both, on_ended_always, opened_names, opening_fails, unopened_left, unopened_names}
use Rattle.rd_program.specs.World.{World}
use Rattle.rd_program.proofs.Frames.{opened_clock, store_back}
use Rattle.rd_program.proofs.Moments.{asked_at, is_err, unopened_at}
use Rattle.rd_program.proofs.import.import.Goals as goal

pub returns-clause-back : goal.returns-clause-back
returns-clause-back g c =
    gives_back (g.M.Machine.seen c.args.machine.now).shows (g.M.Machine.seen c.args.machine.now).left (g.M.Machine.seen c.release.new.self).left _
    (λ shows. c.release.ensures.back (subst (λ b. IsTrue b) (sym ((ap (λ (w : World _ _). w.shows) c.import_sheet-imported.ensures.frame) ∙ (ap (λ (w : World _ _). w.shows) c.open_desk.ensures.frame))) shows))

pub returns-clause-does : goal.returns-clause-does
returns-clause-does g c = record {
  frame = store_back (g.M.Machine.seen c.args.machine.now) (g.M.Machine.seen c.import_sheet-imported.new.machine) (g.M.Machine.seen c.release.new.self)
      (opened_clock (g.M.Machine.seen c.args.machine.now) (g.M.Machine.seen c.open_desk.new.machine) (g.M.Machine.seen c.import_sheet-imported.new.machine) c.open_desk.ensures.frame c.import_sheet-imported.ensures.frame) c.release.ensures.frame;
  store = record {
    asked = asked_then (g.M.Machine.seen c.args.machine.now).wanted (g.M.Machine.seen c.open_desk.new.machine).wanted (g.M.Machine.seen c.release.new.self).wanted c.args.ask.store.now c.open_desk.ensures.asked
        ((ap (λ (w : World _ _). w.wanted) c.release.ensures.frame) ∙ (ap (λ (w : World _ _). w.wanted) c.import_sheet-imported.ensures.frame));
    there = on_ended_always c.import_sheet-imported.result _ (has_both (g.M.Machine.seen c.args.machine.now).shows ((g.M.Machine.seen c.args.machine.now).stands c.args.ask.store.now) (g.M.Machine.seen c.release.new.self).left _
        c.in_ok-desk.ensures.there (λ shows. c.release.ensures.back (subst (λ b. IsTrue b) (sym ((ap (λ (w : World _ _). w.shows) c.import_sheet-imported.ensures.frame) ∙ (ap (λ (w : World _ _). w.shows) c.open_desk.ensures.frame))) shows)));
  };
  leaves = let opened = c.in_ok-desk.desk.store in
      let last = c.import_sheet-imported.new.desk.store in
      let badge = sha256 c.args.ask.key.now in
      let told = c.args.ask.when.seconds in
      let clock = (g.M.Machine.seen c.args.machine.now).clock in
      let later = subst (λ m. LeavesDesk g.M.Disk.Store (TakesUnlessDry c.args.flags.dry_run badge (IsDayAt (moment_of told m) c.in_ok-desk.desk.zone)) opened last) (ap (λ (w : World _ _). w.clock) c.open_desk.ensures.frame) c.import_sheet-imported.ensures.takes in
      let takes = subst (λ z. LeavesDesk g.M.Disk.Store (TakesUnlessDry c.args.flags.dry_run badge (IsDayAt (moment_of told clock) z)) opened last) c.in_ok-desk.ensures.zone later in
      desk_left g.M.Disk.Store (g.M.Machine.seen c.args.machine.now).left ((g.M.Machine.seen c.args.machine.now).stands c.args.ask.store.now) (g.M.Machine.seen c.release.new.self).left
      (TakesUnlessDry c.args.flags.dry_run badge (IsDayAt (moment_of told clock) c.args.ask.when.zone)) opened last c.into_connection.result
      c.in_ok-desk.ensures.opened takes (c.into_connection.ensures.same ∙ c.into_store.ensures) c.release.ensures.left;
  moment = asked_at g.M.Disk.Store (g.M.Machine.seen c.args.machine.now) (g.M.Machine.seen c.open_desk.new.machine) (g.M.Machine.seen c.release.new.self) c.args.ask.store.now c.args.ask.when true c.import_sheet-imported.result
      c.in_ok-desk.desk.store c.import_sheet-imported.new.desk.store c.into_connection.result c.in_ok-desk.desk.zone c.open_desk.ensures.frame c.in_ok-desk.ensures.zone c.in_ok-desk.ensures.opened
      c.import_sheet-imported.ensures.takes.lasts (c.into_connection.ensures.same ∙ c.into_store.ensures) c.release.ensures.left c.import_sheet-imported.ensures.moment;
  rows = let told = c.args.ask.when.seconds in
      let before = c.args.machine.now in
      let opened = c.open_desk.new.machine in
      import_ended g.M.Disk.Store (g.M.Machine.seen before).files (g.M.Machine.seen opened).files c.args.flags
      (IsDayAt (moment_of told (g.M.Machine.seen before).clock) c.args.ask.when.zone) ((g.M.Machine.seen before).sheets c.args.ask.sheet.now)
      (g.W.Write.contents c.args.output.now) (g.W.Write.contents c.import_sheet-imported.new.output) c.import_sheet-imported.result (sha256 c.args.ask.key.now)
      (IsDayAt (moment_of told (g.M.Machine.seen opened).clock) c.in_ok-desk.desk.zone) ((g.M.Machine.seen opened).sheets c.args.ask.sheet.now)
      ((g.M.Machine.seen before).stands c.args.ask.store.now) (g.M.Machine.seen c.release.new.self).left
      c.in_ok-desk.desk.store c.import_sheet-imported.new.desk.store c.into_connection.result (ap (λ (w : World _ _). w.files) c.open_desk.ensures.frame) (ap (λ (w : World _ _). w.sheets c.args.ask.sheet.now) c.open_desk.ensures.frame)
      (λ day at. subst (λ m. IsDayAt (moment_of told m) c.args.ask.when.zone day) (ap (λ (w : World _ _). w.clock) c.open_desk.ensures.frame) (subst (λ z. IsDayAt (moment_of told (g.M.Machine.seen opened).clock) z day) c.in_ok-desk.ensures.zone at))
      c.in_ok-desk.ensures.opened c.import_sheet-imported.ensures.takes.lasts (c.into_connection.ensures.same ∙ c.into_store.ensures) c.release.ensures.left c.import_sheet-imported.ensures.rows;
  stopped = let told = c.args.ask.when.seconds in
      let before = c.args.machine.now in
      let opened = c.open_desk.new.machine in
      stop_ended g.M.Disk.Store (g.M.Machine.seen before).files (g.M.Machine.seen opened).files c.args.flags
      (IsDayAt (moment_of told (g.M.Machine.seen before).clock) c.args.ask.when.zone) ((g.M.Machine.seen before).sheets c.args.ask.sheet.now)
      (g.W.Write.contents c.args.output.now) (g.W.Write.contents c.import_sheet-imported.new.output) c.import_sheet-imported.result (sha256 c.args.ask.key.now)
      (IsDayAt (moment_of told (g.M.Machine.seen opened).clock) c.in_ok-desk.desk.zone) ((g.M.Machine.seen opened).sheets c.args.ask.sheet.now)
      (g.M.Machine.seen before).left ((g.M.Machine.seen before).stands c.args.ask.store.now) (g.M.Machine.seen c.release.new.self).left
      c.in_ok-desk.desk.store c.import_sheet-imported.new.desk.store c.into_connection.result (ap (λ (w : World _ _). w.files) c.open_desk.ensures.frame) (ap (λ (w : World _ _). w.sheets c.args.ask.sheet.now) c.open_desk.ensures.frame)
      (λ day at. subst (λ m. IsDayAt (moment_of told m) c.args.ask.when.zone day) (ap (λ (w : World _ _). w.clock) c.open_desk.ensures.frame) (subst (λ z. IsDayAt (moment_of told (g.M.Machine.seen opened).clock) z day) c.in_ok-desk.ensures.zone at))
      c.in_ok-desk.ensures.opened c.import_sheet-imported.ensures.takes.lasts (c.into_connection.ensures.same ∙ c.into_store.ensures) c.release.ensures.left c.import_sheet-imported.ensures.stopped;
  tells = match_both c.import_sheet-imported.result _ _ c.import_sheet-imported.ensures.written c.import_sheet-imported.ensures.refused;
  opening = opened_names g.M.Disk.Store c.import_sheet-imported.result ((g.M.Machine.seen c.args.machine.now).stands c.args.ask.store.now) (g.M.Machine.seen c.release.new.self).left c.import_sheet-imported.ensures.moment.opened_first;
  bad_sheet = shown_before c.import_sheet-imported.result ((g.M.Machine.seen c.open_desk.new.machine).sheets c.args.ask.sheet.now) ((g.M.Machine.seen c.args.machine.now).sheets c.args.ask.sheet.now)
      (ap (λ (w : World _ _). w.sheets c.args.ask.sheet.now) c.open_desk.ensures.frame) c.import_sheet-imported.ensures.bad_sheet;
}

pub returns-in_err-desk-clause-does : goal.returns-in_err-desk-clause-does
returns-in_err-desk-clause-does g c =
    let before = g.M.Machine.seen c.args.machine.now in
    let after = g.M.Machine.seen c.open_desk.new.machine in
    let out = g.W.Write.contents c.args.output.now in
    let refusal = c.in_err-desk.field-0.0 in
    let opening = c.in_err-desk.ensures.refused in
    let left = c.in_err-desk.ensures.left in
    subst (DoesImport g.M.Disk.Store before after out out c.args.ask c.args.flags) (sym (is_err c.from_residual.result refusal c.from_residual.ensures.1)) (record {
      frame = opened_clock before after after c.open_desk.ensures.frame refl;
      store = record { asked = c.open_desk.ensures.asked; there = opening_fails {T = Done} (Err refusal) refusal _ refl opening };
      leaves = unopened_left g.M.Disk.Store before.left (before.stands c.args.ask.store.now) after.left
          (TakesUnlessDry c.args.flags.dry_run (sha256 c.args.ask.key.now) (IsDayAt (moment_of c.args.ask.when.seconds before.clock) c.args.ask.when.zone)) refusal opening left;
      moment = unopened_at g.M.Disk.Store before after after c.args.ask.store.now c.args.ask.when true (Err refusal) refusal refl opening;
      rows = tt;
      stopped = inl (Keeps-refl out, unopened_left g.M.Disk.Store before.left (before.stands c.args.ask.store.now) after.left IsSame refusal opening left);
      tells = inr (inl opening, Keeps-refl out);
      opening = unopened_names g.M.Disk.Store before.left (before.stands c.args.ask.store.now) after.left refusal left;
      bad_sheet = opening_no_sheet (before.sheets c.args.ask.sheet.now) refusal opening;
    })
