use Rattle.std.proofs.Common.{◌≡◌, ◌∙◌, Err, FitsSigned, IfSome, ap, inl, inr, rules, subst, sym, true, w32}
use Rattle.std.proofs.KnownBytes.{Keeps-refl}
use Rattle.std.proofs.lemmas.Int.{to_z-of_z}
use Rattle.std.proofs.lemmas.Result.{IfErr-weaker, IfOk-weaker}
use Rattle.sha2.specs.Sha256.{sha256}
use Rattle.rd_program.specs.Leaves.{IsDayAt, moment_of}
use Rattle.rd_store.proofs.Laws.{lasts_still}
use Rattle.rd_program.proofs.ImportLemmas.{day_failed, front_kept, machine_failed, on_err, rows_of, rows_why, sheet_failed}
use Rattle.rd_program.proofs.LeftStores.{still_same}
use Rattle.rd_program.proofs.ShowLemmas.{passed_on}
use Rattle.rd_program.proofs.ImportedRows.{imported_on, imports_from, still_imports, stops_on, whole_front}
use Rattle.rd_program.proofs.Moments.{asks_none, asks_then, row_never, row_opened}
use Rattle.rd_program.specs.World.{World}
use Rattle.rd_program.specs.Importing.{TellsRows}
use Rattle.rd_program.specs.Rows.{IsBadSheetDue}
use Rattle.rd_program.proofs.RowLemmas.{always_due, due_shown, row_no_sheet}
use Rattle.rd_program.proofs.import.import_sheet.Goals as goal

pub returns-in_err-day-clause-takes : goal.returns-in_err-day-clause-takes
returns-in_err-day-clause-takes g c =
    still_imports g.M.Disk.Store c.args.flags.dry_run c.args.desk.now.store c.day_on_time.new.desk.store (sha256 c.args.ask.key.now)
    (IsDayAt (moment_of c.args.ask.when.seconds (g.M.Machine.seen c.args.machine.now).clock) c.args.desk.now.zone)
    (still_same g.M.Disk.Store c.args.desk.now.store c.day_on_time.new.desk.store c.day_on_time.ensures.reads)

pub returns-in-Err-clause-takes : goal.returns-in-Err-clause-takes
returns-in-Err-clause-takes g c =
    still_imports g.M.Disk.Store c.args.flags.dry_run c.args.desk.now.store c.day_on_time.new.desk.store (sha256 c.args.ask.key.now)
    (IsDayAt (moment_of c.args.ask.when.seconds (g.M.Machine.seen c.args.machine.now).clock) c.args.desk.now.zone)
    (still_same g.M.Disk.Store c.args.desk.now.store c.day_on_time.new.desk.store c.day_on_time.ensures.reads)

pub returns-in_err-import_rows-clause-takes : goal.returns-in_err-import_rows-clause-takes
returns-in_err-import_rows-clause-takes g c =
    let fits : FitsSigned w32 c.in_ok-day.day = search rules in
    imports_from g.M.Disk.Store c.args.flags.dry_run c.args.desk.now.store c.day_on_time.new.desk.store c.import_rows.new.desk.store _ (sha256 c.args.ask.key.now) _
    (IsDayAt (moment_of c.args.ask.when.seconds (g.M.Machine.seen c.args.machine.now).clock) c.args.desk.now.zone)
    (still_same g.M.Disk.Store c.args.desk.now.store c.day_on_time.new.desk.store c.day_on_time.ensures.reads)
    (subst (IsDayAt (moment_of c.args.ask.when.seconds (g.M.Machine.seen c.args.machine.now).clock) c.args.desk.now.zone) (sym (to_z-of_z w32 c.in_ok-day.day fits)) c.in_ok-day.ensures.day)
    c.digest-badge.ensures c.import_rows.ensures.takes

pub returns-clause-takes : goal.returns-clause-takes
returns-clause-takes g c =
    let fits : FitsSigned w32 c.in_ok-day.day = search rules in
    imports_from g.M.Disk.Store c.args.flags.dry_run c.args.desk.now.store c.day_on_time.new.desk.store c.import_rows.new.desk.store _ (sha256 c.args.ask.key.now) _
    (IsDayAt (moment_of c.args.ask.when.seconds (g.M.Machine.seen c.args.machine.now).clock) c.args.desk.now.zone)
    (still_same g.M.Disk.Store c.args.desk.now.store c.day_on_time.new.desk.store c.day_on_time.ensures.reads)
    (subst (IsDayAt (moment_of c.args.ask.when.seconds (g.M.Machine.seen c.args.machine.now).clock) c.args.desk.now.zone) (sym (to_z-of_z w32 c.in_ok-day.day fits)) c.in_ok-day.ensures.day)
    c.digest-badge.ensures c.import_rows.ensures.takes

pub returns-clause-rows : goal.returns-clause-rows
returns-clause-rows g c =
    let fits : FitsSigned w32 c.in_ok-day.day = search rules in
    let opened = c.day_on_time.new.machine in
    let path = c.args.ask.sheet.now in
    let read = subst (λ b. IfSome ((g.M.Machine.seen opened).sheets path) (λ sheet. b ≡ sheet)) (sym c.as_slice.ensures.value) c.in-Ok.ensures.bytes in
    imported_on g.M.Disk.Store (g.M.Machine.seen c.args.machine.now).files (g.M.Machine.seen c.sheet_at.new.machine).files c.args.flags
    (IsDayAt (moment_of c.args.ask.when.seconds (g.M.Machine.seen c.args.machine.now).clock) c.args.desk.now.zone)
    ((g.M.Machine.seen c.args.machine.now).sheets path) (g.W.Write.contents c.args.output.now) (g.W.Write.contents c.import_rows.new.output) c.ended_by.result
    c.digest-badge.result (sha256 c.args.ask.key.now) c.as_slice.result.now _ c.args.desk.now.store c.day_on_time.new.desk.store
    c.import_rows.new.desk.store c.in_ok-import_rows.field-0 (ap (λ m. (g.M.Machine.seen m).files) c.sheet_at.ensures.same ∙ ap (λ (w : World _ _). w.files) c.day_on_time.ensures.frame)
    (still_same g.M.Disk.Store c.args.desk.now.store c.day_on_time.new.desk.store c.day_on_time.ensures.reads) (λ o. c.import_rows.ensures.takes.lasts.was_open o)
    (subst (IsDayAt (moment_of c.args.ask.when.seconds (g.M.Machine.seen c.args.machine.now).clock) c.args.desk.now.zone) (sym (to_z-of_z w32 c.in_ok-day.day fits)) c.in_ok-day.ensures.day)
    c.digest-badge.ensures
    (subst (λ shown. IfSome shown (λ sheet. c.as_slice.result.now ≡ sheet)) (ap (λ (w : World _ _). w.sheets path) c.day_on_time.ensures.frame) read)
    c.in_ok-import_rows.ensures.rows c.ended_by.ensures.ended

pub returns-in_err-day-clause-moment : goal.returns-in_err-day-clause-moment
returns-in_err-day-clause-moment g c =
    asks_none g.M.Disk.Store true c.args.ask.when (g.M.Machine.seen c.args.machine.now).clock c.args.desk.now.zone c.args.desk.now.store c.day_on_time.new.desk.store c.from_residual.result
    c.in_err-day.field-0.0 c.from_residual.ensures.1 c.in_err-day.ensures.dayless c.in_err-day.ensures.clock c.in_err-day.ensures.late c.in_err-day.ensures.refused

pub returns-in-Err-clause-moment : goal.returns-in-Err-clause-moment
returns-in-Err-clause-moment g c =
    let row = machine_failed c.in-Err.fault c.or.result c.or.ensures in
    asks_then g.M.Disk.Store true c.args.ask.when (g.M.Machine.seen c.args.machine.now).clock c.args.desk.now.zone c.args.desk.now.store c.day_on_time.new.desk.store c.day_on_time.new.desk.store (Err c.or.result)
    c.in_ok-day.day (lasts_still g.M.Disk.Store c.day_on_time.new.desk.store) c.in_ok-day.ensures.day c.in_ok-day.ensures.dayless (λ dates. c.in_ok-day.ensures.on_time)
    (row_never c.or.result (inr row)) (row_opened c.or.result (inr row))

pub returns-in_err-import_rows-clause-moment : goal.returns-in_err-import_rows-clause-moment
returns-in_err-import_rows-clause-moment g c =
    asks_then g.M.Disk.Store true c.args.ask.when (g.M.Machine.seen c.args.machine.now).clock c.args.desk.now.zone c.args.desk.now.store c.day_on_time.new.desk.store c.import_rows.new.desk.store c.from_residual-in_err-import_rows.result
    c.in_ok-day.day c.import_rows.ensures.takes.lasts c.in_ok-day.ensures.day c.in_ok-day.ensures.dayless (λ dates. c.in_ok-day.ensures.on_time)
    (passed_on c.from_residual-in_err-import_rows.result c.in_err-import_rows.field-0.0 _ c.from_residual-in_err-import_rows.ensures.1 (row_never c.in_err-import_rows.field-0.0 (rows_why c.in_err-import_rows.field-0.0 _ _ c.in_err-import_rows.ensures.refused)))
    (passed_on c.from_residual-in_err-import_rows.result c.in_err-import_rows.field-0.0 _ c.from_residual-in_err-import_rows.ensures.1 (row_opened c.in_err-import_rows.field-0.0 (rows_why c.in_err-import_rows.field-0.0 _ _ c.in_err-import_rows.ensures.refused)))

pub returns-clause-moment : goal.returns-clause-moment
returns-clause-moment g c =
    asks_then g.M.Disk.Store true c.args.ask.when (g.M.Machine.seen c.args.machine.now).clock c.args.desk.now.zone c.args.desk.now.store c.day_on_time.new.desk.store c.import_rows.new.desk.store c.ended_by.result
    c.in_ok-day.day c.import_rows.ensures.takes.lasts c.in_ok-day.ensures.day c.in_ok-day.ensures.dayless (λ dates. c.in_ok-day.ensures.on_time)
    (IfErr-weaker c.ended_by.result _ _ (λ refusal is. row_never refusal (inr (inl is.0))) c.ended_by.ensures.lost)
    (IfErr-weaker c.ended_by.result _ _ (λ refusal is. row_opened refusal (inr (inl is.0))) c.ended_by.ensures.lost)

pub returns-in_err-day-clause-refused : goal.returns-in_err-day-clause-refused
returns-in_err-day-clause-refused g c =
    passed_on c.from_residual.result c.in_err-day.field-0.0 _ c.from_residual.ensures.1 (inr (day_failed c.in_err-day.field-0.0 c.in_err-day.ensures.refused, Keeps-refl _))

pub returns-in-Err-clause-refused : goal.returns-in-Err-clause-refused
returns-in-Err-clause-refused g c = inr (sheet_failed c.in-Err.fault c.or.result c.or.ensures, Keeps-refl _)

pub returns-in_err-import_rows-clause-refused : goal.returns-in_err-import_rows-clause-refused
returns-in_err-import_rows-clause-refused g c =
    passed_on c.from_residual-in_err-import_rows.result c.in_err-import_rows.field-0.0 _ c.from_residual-in_err-import_rows.ensures.1 (inl c.in_err-import_rows.ensures.refused)

pub returns-clause-refused : goal.returns-clause-refused
returns-clause-refused g c =
    IfErr-weaker c.ended_by.result _ _ (λ refusal is. inl (inr (inl is.0, front_kept _ _ (rows_of c.args.flags.dry_run c.in_ok-import_rows.field-0 _ _ c.in_ok-import_rows.ensures.written)))) c.ended_by.ensures.lost

pub returns-clause-written : goal.returns-clause-written
returns-clause-written g c =
    IfOk-weaker c.ended_by.result _ _ (λ done is. subst (TellsRows c.args.flags.dry_run (g.W.Write.contents c.args.output.now) (g.W.Write.contents c.import_rows.new.output)) is c.in_ok-import_rows.ensures.written) c.ended_by.ensures.ended

pub returns-in_err-import_rows-clause-bad_sheet : goal.returns-in_err-import_rows-clause-bad_sheet
returns-in_err-import_rows-clause-bad_sheet g c =
    let read = subst (λ b. IfSome ((g.M.Machine.seen c.day_on_time.new.machine).sheets c.args.ask.sheet.now) (λ sheet. b ≡ sheet)) (sym c.as_slice.ensures.value) c.in-Ok.ensures.bytes in
    passed_on c.from_residual-in_err-import_rows.result c.in_err-import_rows.field-0.0 _ c.from_residual-in_err-import_rows.ensures.1
    (subst (λ shown. IfSome shown (λ sheet. IsBadSheetDue sheet c.in_err-import_rows.field-0.0)) (ap (λ (w : World _ _). w.sheets c.args.ask.sheet.now) c.day_on_time.ensures.frame)
    (due_shown _ c.as_slice.result.now c.in_err-import_rows.field-0.0 read c.in_err-import_rows.ensures.bad_sheet))

pub returns-clause-bad_sheet : goal.returns-clause-bad_sheet
returns-clause-bad_sheet g c =
    IfErr-weaker c.ended_by.result _ _ (λ refusal is. always_due ((g.M.Machine.seen c.args.machine.now).sheets c.args.ask.sheet.now) refusal (λ sheet. row_no_sheet sheet refusal (inl is.0))) c.ended_by.ensures.lost

-- ---- the rows before the end

pub returns-in_err-day-clause-stopped : goal.returns-in_err-day-clause-stopped
returns-in_err-day-clause-stopped g c =
    on_err c.from_residual.result _ (inl (Keeps-refl _, still_same g.M.Disk.Store c.args.desk.now.store c.day_on_time.new.desk.store c.day_on_time.ensures.reads))

pub returns-in-Err-clause-stopped : goal.returns-in-Err-clause-stopped
returns-in-Err-clause-stopped g c = inl (Keeps-refl _, still_same g.M.Disk.Store c.args.desk.now.store c.day_on_time.new.desk.store c.day_on_time.ensures.reads)

pub returns-in_err-import_rows-clause-stopped : goal.returns-in_err-import_rows-clause-stopped
returns-in_err-import_rows-clause-stopped g c =
    let fits : FitsSigned w32 c.in_ok-day.day = search rules in
    let path = c.args.ask.sheet.now in
    let read = subst (λ b. IfSome ((g.M.Machine.seen c.day_on_time.new.machine).sheets path) (λ sheet. b ≡ sheet)) (sym c.as_slice.ensures.value) c.in-Ok.ensures.bytes in
    on_err c.from_residual-in_err-import_rows.result _ (stops_on g.M.Disk.Store (g.M.Machine.seen c.args.machine.now).files (g.M.Machine.seen c.sheet_at.new.machine).files c.args.flags
    (IsDayAt (moment_of c.args.ask.when.seconds (g.M.Machine.seen c.args.machine.now).clock) c.args.desk.now.zone)
    ((g.M.Machine.seen c.args.machine.now).sheets path) (g.W.Write.contents c.args.output.now) (g.W.Write.contents c.import_rows.new.output)
    c.digest-badge.result (sha256 c.args.ask.key.now) c.as_slice.result.now _ c.args.desk.now.store c.day_on_time.new.desk.store c.import_rows.new.desk.store
    (ap (λ m. (g.M.Machine.seen m).files) c.sheet_at.ensures.same ∙ ap (λ (w : World _ _). w.files) c.day_on_time.ensures.frame)
    (still_same g.M.Disk.Store c.args.desk.now.store c.day_on_time.new.desk.store c.day_on_time.ensures.reads) (λ o. c.import_rows.ensures.takes.lasts.was_open o)
    (subst (IsDayAt (moment_of c.args.ask.when.seconds (g.M.Machine.seen c.args.machine.now).clock) c.args.desk.now.zone) (sym (to_z-of_z w32 c.in_ok-day.day fits)) c.in_ok-day.ensures.day)
    c.digest-badge.ensures (subst (λ shown. IfSome shown (λ sheet. c.as_slice.result.now ≡ sheet)) (ap (λ (w : World _ _). w.sheets path) c.day_on_time.ensures.frame) read) c.in_err-import_rows.ensures.stopped)

pub returns-clause-stopped : goal.returns-clause-stopped
returns-clause-stopped g c =
    let fits : FitsSigned w32 c.in_ok-day.day = search rules in
    let path = c.args.ask.sheet.now in
    let read = subst (λ b. IfSome ((g.M.Machine.seen c.day_on_time.new.machine).sheets path) (λ sheet. b ≡ sheet)) (sym c.as_slice.ensures.value) c.in-Ok.ensures.bytes in
    on_err c.ended_by.result _ (stops_on g.M.Disk.Store (g.M.Machine.seen c.args.machine.now).files (g.M.Machine.seen c.sheet_at.new.machine).files c.args.flags
    (IsDayAt (moment_of c.args.ask.when.seconds (g.M.Machine.seen c.args.machine.now).clock) c.args.desk.now.zone)
    ((g.M.Machine.seen c.args.machine.now).sheets path) (g.W.Write.contents c.args.output.now) (g.W.Write.contents c.import_rows.new.output)
    c.digest-badge.result (sha256 c.args.ask.key.now) c.as_slice.result.now _ c.args.desk.now.store c.day_on_time.new.desk.store c.import_rows.new.desk.store
    (ap (λ m. (g.M.Machine.seen m).files) c.sheet_at.ensures.same ∙ ap (λ (w : World _ _). w.files) c.day_on_time.ensures.frame)
    (still_same g.M.Disk.Store c.args.desk.now.store c.day_on_time.new.desk.store c.day_on_time.ensures.reads) (λ o. c.import_rows.ensures.takes.lasts.was_open o)
    (subst (IsDayAt (moment_of c.args.ask.when.seconds (g.M.Machine.seen c.args.machine.now).clock) c.args.desk.now.zone) (sym (to_z-of_z w32 c.in_ok-day.day fits)) c.in_ok-day.ensures.day)
    c.digest-badge.ensures (subst (λ shown. IfSome shown (λ sheet. c.as_slice.result.now ≡ sheet)) (ap (λ (w : World _ _). w.sheets path) c.day_on_time.ensures.frame) read)
    (inr (λ is_open. whole_front _ _ _ _ _ _ _ _ _ _ (c.in_ok-import_rows.ensures.rows is_open))))
