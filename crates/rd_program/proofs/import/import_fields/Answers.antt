use Rattle.std.proofs.lemmas.Result.{IfOk-weaker}
use Rattle.csv.specs.Records.{fields_of}
use Rattle.rd_program.proofs.ImportedRows.{bad_imported}
use Rattle.std.proofs.Common.{inl, inr, refl}
use Rattle.rd_program.proofs.ImportLemmas.{on_err, on_err_weaker, row_refused}
use Rattle.std.specs.Io.KnownBytes.{Appends}
use Rattle.rd_commands.specs.Output.{AppendsPart}
use Rattle.rd_program.specs.declared.import.RowOutcome.TheVariants.{Denied}
use Rattle.rd_program.proofs.ShowLemmas.{passed_on}
use Rattle.rd_program.proofs.import.import_fields.Goals as goal

pub returns-in-Some-clause-row : goal.returns-in-Some-clause-row
returns-in-Some-clause-row g c = IfOk-weaker c.import_row.result _ _ (λ outcome one. one (fields_of c.args.fields.now) c.in-Some.ensures.says) c.import_row.ensures.row

pub returns-in_ok-tell_row-in-None-clause-row : goal.returns-in_ok-tell_row-in-None-clause-row
returns-in_ok-tell_row-in-None-clause-row g c =
    bad_imported g.M.Disk.Store Appends _ c.args.flags c.args.giver.badge c.args.giver.day c.args.number (fields_of c.args.fields.now) c.args.shelf.now.images.items _ _ c.args.desk.now.store
    c.in-None.ensures.bad c.in_ok-tell_row-in-None.ensures.done

pub returns-in_err-tell_row-in-None-clause-refused : goal.returns-in_err-tell_row-in-None-clause-refused
returns-in_err-tell_row-in-None-clause-refused g c =
    passed_on c.from_residual.result c.in_err-tell_row-in-None.field-0.0 _ c.from_residual.ensures.1
    (row_refused c.args.number _ c.in_err-tell_row-in-None.field-0.0 _ _ (inl refl) c.in_err-tell_row-in-None.ensures.refused c.in_err-tell_row-in-None.ensures.cut)

pub returns-in_ok-tell_row-in-None-clause-written : goal.returns-in_ok-tell_row-in-None-clause-written
returns-in_ok-tell_row-in-None-clause-written g c = record { line = _; is = inr (c.args.number, inl refl); gained = c.in_ok-tell_row-in-None.ensures.done }

pub returns-in-Some-clause-stopped : goal.returns-in-Some-clause-stopped
returns-in-Some-clause-stopped g c = on_err_weaker c.import_row.result _ _ (λ stops. stops (fields_of c.args.fields.now) c.in-Some.ensures.says) c.import_row.ensures.stopped

pub returns-in_err-tell_row-in-None-clause-stopped : goal.returns-in_err-tell_row-in-None-clause-stopped
returns-in_err-tell_row-in-None-clause-stopped g c =
    on_err c.from_residual.result _ (inr (
      Denied,
      bad_imported g.M.Disk.Store AppendsPart _ c.args.flags c.args.giver.badge c.args.giver.day c.args.number (fields_of c.args.fields.now) c.args.shelf.now.images.items _ _ c.args.desk.now.store
          c.in-None.ensures.bad c.in_err-tell_row-in-None.ensures.cut,
    ))
