use Rattle.std.proofs.Common.{◌+◌, ◌∙◌, inl, inr, refl, rules, subst, sym}
use Rattle.std.proofs.KnownBytes.{Keeps-refl}
use Rattle.csv.specs.Records.{fields_of}
use Rattle.rd_program.proofs.RowLemmas.{due_if, none_expected, row_no_sheet}
use Rattle.rd_program.proofs.ShowLemmas.{passed_on}
use Rattle.rd_program.proofs.ImportedRows.{ImportedSoFar, imported_all, imported_more, imported_no_sheet, imported_none, imports_lasts, imports_then, stops_at, stops_between}
use Rattle.rd_program.specs.Importing.{IsDoneLine, TellsRows}
use Rattle.rd_program.specs.ImportedRows.{ImportsOne, StopsOne}
use Rattle.std.specs.Io.KnownBytes.{Appends}
use Rattle.rd_store.proofs.Laws.{lasts_still}
use Rattle.rd_program.specs.declared.import.RowOutcome.TheVariants.{Done}
use Rattle.rd_program.proofs.ImportLemmas.{ends_at_row, ends_between, front_kept, no_rows, on_err, rows_more, rows_of}
use Rattle.rd_program.proofs.import.import_rows.Goals as goal

pub loop-number-init : goal.loop-number-init
loop-number-init g c = record {
  written = no_rows (IsDoneLine c.args.flags.dry_run) (g.W.Write.contents c.args.output.now);
  flushed = inl (Keeps-refl _);
  same = search rules;
  zone = search rules;
  rows = imported_none g.M.Disk.Store (g.M.Machine.seen c.args.machine.now).files c.args.flags c.args.giver.badge c.args.giver.day c.args.sheet.now (g.W.Write.contents c.args.output.now) c.args.desk.now.store
      c.from_reader-reader.result c.next_row.new.reader c.in_ok-next_row.field-0 _ _ (search rules) c.in_ok-next_row.ensures.reads_on
      (record { source = search rules; state_is = search rules; config = search rules; untrimmed = search rules; ready = search rules; well = search rules })
      (c.in_ok-next_row.ensures.read (search rules) (search rules)) c.in_ok-next_row.ensures.kept (c.in_ok-next_row.ensures.ready (search rules)) (search rules) (search rules) c.new-shelf.ensures;
  takes = search rules;
}

pub loop-number-preserved : goal.loop-number-preserved
loop-number-preserved g c = record {
  written = subst (TellsRows c.args.flags.dry_run (g.W.Write.contents c.args.output.now) (g.W.Write.contents c.import_fields.new.output)) (sym c.worse-outcome.ensures)
      (rows_more c.args.flags.dry_run c.loop-number.outcome c.in_ok-row.row _ _ _ c.loop-number.invariant.written c.in_ok-row.ensures.written);
  flushed = inr c.in_ok-row.ensures.flushed;
  same = c.import_fields.ensures.same ∙ c.loop-number.invariant.same;
  zone = c.import_fields.ensures.zone ∙ c.loop-number.invariant.zone;
  rows = subst (λ f. ImportedSoFar g.M.Disk.Store (g.M.Machine.seen c.args.machine.now).files c.args.flags c.args.giver.badge c.args.giver.day c.args.sheet.now (g.W.Write.contents c.args.output.now)
      (g.W.Write.contents c.import_fields.new.output) c.args.desk.now.store c.import_fields.new.desk.store c.next_row-in-loop-number.new.reader (c.loop-number.number + 1) f c.import_fields.new.shelf.images.items)
      (sym c.worse-outcome.ensures)
      (imported_more g.M.Disk.Store (g.M.Machine.seen c.args.machine.now).files c.args.flags c.args.giver.badge c.args.giver.day c.args.sheet.now (g.W.Write.contents c.args.output.now) c.args.desk.now.store
      c.loop-number.desk.store c.import_fields.new.desk.store (g.W.Write.contents c.loop-number.output) (g.W.Write.contents c.import_fields.new.output) c.loop-number.reader c.next_row-in-loop-number.new.reader
      c.loop-number.number c.loop-number.outcome c.in_ok-row.row c.loop-number.shelf.images.items c.import_fields.new.shelf.images.items c.in_ok-next_row-2.field-0 _ c.in_ok-next_row-2.ensures.reads_on
      c.loop-number.invariant.rows (c.in_ok-next_row-2.ensures.read c.loop-number.invariant.rows.so.at.untrimmed c.loop-number.invariant.rows.so.at.ready)
      c.in_ok-next_row-2.ensures.kept (c.in_ok-next_row-2.ensures.ready c.loop-number.invariant.rows.so.at.untrimmed) (search rules)
      (λ o. (imports_lasts g.M.Disk.Store c.args.flags.dry_run _ _ _ c.import_fields.ensures.dry c.import_fields.ensures.wet).was_open o)
      (subst (λ m. ImportsOne g.M.Disk.Store Appends (g.M.Machine.seen m).files c.args.flags c.args.giver.badge c.args.giver.day c.loop-number.number (fields_of c.next_row-in-loop-number.new.fields) c.in_ok-row.row
      c.loop-number.shelf.images.items c.import_fields.new.shelf.images.items (g.W.Write.contents c.loop-number.output) (g.W.Write.contents c.import_fields.new.output) c.loop-number.desk.store c.import_fields.new.desk.store)
      c.loop-number.invariant.same c.in_ok-row.ensures.row));
  takes = imports_then g.M.Disk.Store c.args.flags.dry_run c.args.giver.badge c.args.giver.day _ c.args.desk.now.store c.loop-number.desk.store c.import_fields.new.desk.store c.loop-number.invariant.takes
      c.import_fields.ensures.dry c.import_fields.ensures.wet;
}

pub returns-then-not-branch-2-clause-rows : goal.returns-then-not-branch-2-clause-rows
returns-then-not-branch-2-clause-rows g c =
    imported_all g.M.Disk.Store (g.M.Machine.seen c.args.machine.now).files c.args.flags c.args.giver.badge c.args.giver.day c.args.sheet.now (g.W.Write.contents c.args.output.now) c.args.desk.now.store
    c.loop-number.desk.store (g.W.Write.contents c.loop-number.output) c.loop-number.reader c.next_row-in-loop-number.new.reader c.loop-number.number c.loop-number.outcome
    c.loop-number.shelf.images.items c.in_ok-next_row-2.field-0 _ c.loop-number.invariant.rows
    (c.in_ok-next_row-2.ensures.read c.loop-number.invariant.rows.so.at.untrimmed c.loop-number.invariant.rows.so.at.ready)
    c.in_ok-next_row-2.ensures.kept (c.in_ok-next_row-2.ensures.ready c.loop-number.invariant.rows.so.at.untrimmed) (search rules)

pub returns-in_err-row-clause-takes : goal.returns-in_err-row-clause-takes
returns-in_err-row-clause-takes g c =
    imports_then g.M.Disk.Store c.args.flags.dry_run c.args.giver.badge c.args.giver.day _ c.args.desk.now.store c.loop-number.desk.store c.import_fields.new.desk.store c.loop-number.invariant.takes
    c.import_fields.ensures.dry c.import_fields.ensures.wet

-- ---- refusals

pub returns-in_err-next_row-clause-refused : goal.returns-in_err-next_row-clause-refused
returns-in_err-next_row-clause-refused g c =
    passed_on c.from_residual.result c.in_err-next_row.field-0.0 _ c.from_residual.ensures.1
    (ends_between c.args.flags.dry_run Done c.in_err-next_row.field-0.0 (g.W.Write.contents c.args.output.now) (g.W.Write.contents c.args.output.now) (no_rows (IsDoneLine c.args.flags.dry_run) (g.W.Write.contents c.args.output.now)) c.in_err-next_row.ensures.refused)

pub returns-in_err-next_row-2-clause-refused : goal.returns-in_err-next_row-2-clause-refused
returns-in_err-next_row-2-clause-refused g c =
    passed_on c.from_residual-in_err-next_row-2.result c.in_err-next_row-2.field-0.0 _ c.from_residual-in_err-next_row-2.ensures.1
    (ends_between c.args.flags.dry_run c.loop-number.outcome c.in_err-next_row-2.field-0.0 _ _ c.loop-number.invariant.written c.in_err-next_row-2.ensures.refused)

pub returns-in_err-row-clause-refused : goal.returns-in_err-row-clause-refused
returns-in_err-row-clause-refused g c =
    passed_on c.from_residual-in_err-row.result c.in_err-row.field-0.0 _ c.from_residual-in_err-row.ensures.1
    (ends_at_row c.args.flags.dry_run c.loop-number.outcome c.in_err-row.field-0.0 _ _ _ c.loop-number.invariant.written c.in_err-row.ensures.refused)

pub returns-clause-refused : goal.returns-clause-refused
returns-clause-refused g c = inr (inr (inl refl), front_kept _ _ (rows_of c.args.flags.dry_run c.loop-number.outcome _ _ c.loop-number.invariant.written))

-- ---- a sheet that is none

pub returns-in_err-next_row-2-clause-bad_sheet : goal.returns-in_err-next_row-2-clause-bad_sheet
returns-in_err-next_row-2-clause-bad_sheet g c =
    passed_on c.from_residual-in_err-next_row-2.result c.in_err-next_row-2.field-0.0 _ c.from_residual-in_err-next_row-2.ensures.1
    (due_if c.args.sheet.now c.in_err-next_row-2.field-0.0 (λ bad. imported_no_sheet g.M.Disk.Store (g.M.Machine.seen c.args.machine.now).files c.args.flags c.args.giver.badge c.args.giver.day c.args.sheet.now
    (g.W.Write.contents c.args.output.now) c.args.desk.now.store c.loop-number.desk.store (g.W.Write.contents c.loop-number.output) c.loop-number.reader c.next_row-in-loop-number.new.reader
    c.loop-number.number c.loop-number.outcome c.loop-number.shelf.images.items c.loop-number.invariant.rows (c.in_err-next_row-2.ensures.length c.loop-number.invariant.rows.so.at.ready bad)))

pub returns-in_err-next_row-clause-bad_sheet : goal.returns-in_err-next_row-clause-bad_sheet
returns-in_err-next_row-clause-bad_sheet g c =
    passed_on c.from_residual.result c.in_err-next_row.field-0.0 _ c.from_residual.ensures.1
    (due_if c.args.sheet.now c.in_err-next_row.field-0.0 (λ bad rows is. none_expected c.from_reader-reader.result c.next_row.new.reader c.from_reader-reader.ensures.expected
    (c.in_err-next_row.ensures.length (search rules) bad)))

pub returns-in_err-row-clause-bad_sheet : goal.returns-in_err-row-clause-bad_sheet
returns-in_err-row-clause-bad_sheet g c =
    passed_on c.from_residual-in_err-row.result c.in_err-row.field-0.0 _ c.from_residual-in_err-row.ensures.1 (row_no_sheet c.args.sheet.now c.in_err-row.field-0.0 c.in_err-row.ensures.refused.0)

-- ---- the rows before the end

pub returns-in_err-next_row-clause-stopped : goal.returns-in_err-next_row-clause-stopped
returns-in_err-next_row-clause-stopped g c =
    on_err c.from_residual.result _ (inl (Keeps-refl _, record { lasts = lasts_still g.M.Disk.Store c.args.desk.now.store; reached = λ is_open. refl }))

pub returns-then-not-branch-clause-stopped : goal.returns-then-not-branch-clause-stopped
returns-then-not-branch-clause-stopped g c = inl (Keeps-refl _, record { lasts = lasts_still g.M.Disk.Store c.args.desk.now.store; reached = λ is_open. refl })

pub returns-in_err-next_row-2-clause-stopped : goal.returns-in_err-next_row-2-clause-stopped
returns-in_err-next_row-2-clause-stopped g c =
    on_err c.from_residual-in_err-next_row-2.result _
    (stops_between g.M.Disk.Store (g.M.Machine.seen c.args.machine.now).files c.args.flags c.args.giver.badge c.args.giver.day c.args.sheet.now (g.W.Write.contents c.args.output.now) c.args.desk.now.store
    c.loop-number.desk.store (g.W.Write.contents c.loop-number.output) c.loop-number.reader c.loop-number.number c.loop-number.outcome c.loop-number.shelf.images.items c.loop-number.invariant.rows)

pub returns-in_err-row-clause-stopped : goal.returns-in_err-row-clause-stopped
returns-in_err-row-clause-stopped g c =
    on_err c.from_residual-in_err-row.result _
    (stops_at g.M.Disk.Store (g.M.Machine.seen c.args.machine.now).files c.args.flags c.args.giver.badge c.args.giver.day c.args.sheet.now (g.W.Write.contents c.args.output.now) c.args.desk.now.store
    c.loop-number.desk.store c.import_fields.new.desk.store (g.W.Write.contents c.loop-number.output) (g.W.Write.contents c.import_fields.new.output) c.loop-number.reader c.next_row-in-loop-number.new.reader
    c.loop-number.number c.loop-number.outcome c.loop-number.shelf.images.items c.import_fields.new.shelf.images.items c.in_ok-next_row-2.field-0 _ c.in_ok-next_row-2.ensures.reads_on
    c.loop-number.invariant.rows (c.in_ok-next_row-2.ensures.read c.loop-number.invariant.rows.so.at.untrimmed c.loop-number.invariant.rows.so.at.ready)
    c.in_ok-next_row-2.ensures.kept (c.in_ok-next_row-2.ensures.ready c.loop-number.invariant.rows.so.at.untrimmed) (search rules)
    (λ o. (imports_lasts g.M.Disk.Store c.args.flags.dry_run _ _ _ c.import_fields.ensures.dry c.import_fields.ensures.wet).was_open o)
    (subst (λ m. StopsOne g.M.Disk.Store (g.M.Machine.seen m).files c.args.flags c.args.giver.badge c.args.giver.day c.loop-number.number (fields_of c.next_row-in-loop-number.new.fields)
    c.loop-number.shelf.images.items c.import_fields.new.shelf.images.items (g.W.Write.contents c.loop-number.output) (g.W.Write.contents c.import_fields.new.output) c.loop-number.desk.store c.import_fields.new.desk.store)
    c.loop-number.invariant.same c.in_err-row.ensures.stopped))

pub returns-clause-stopped : goal.returns-clause-stopped
returns-clause-stopped g c =
    stops_between g.M.Disk.Store (g.M.Machine.seen c.args.machine.now).files c.args.flags c.args.giver.badge c.args.giver.day c.args.sheet.now (g.W.Write.contents c.args.output.now) c.args.desk.now.store
    c.loop-number.desk.store (g.W.Write.contents c.loop-number.output) c.loop-number.reader c.loop-number.number c.loop-number.outcome c.loop-number.shelf.images.items c.loop-number.invariant.rows
