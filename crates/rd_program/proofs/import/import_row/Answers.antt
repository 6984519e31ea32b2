use Rattle.rd_program.proofs.DeskSteps.{row_taken}
use Rattle.rd_program.proofs.ImportedRows.{image_imported, image_stops, lost_imported, none_is, some_is}
use Rattle.std.proofs.Common.{inl, inr, refl}
use Rattle.std.proofs.KnownBytes.{Keeps-refl}
use Rattle.std.specs.Io.KnownBytes.{Appends}
use Rattle.rd_commands.specs.Output.{AppendsPart}
use Rattle.rd_program.specs.declared.import.RowOutcome.TheVariants.{Lost}
use Rattle.rd_program.proofs.ImportLemmas.{answer_row, none_of_line, of_device, on_err, row_refused}
use Rattle.rd_program.proofs.ShowLemmas.{passed_on}
use Rattle.rd_program.proofs.import.import_row.Goals as goal

pub returns-in_default-clause-row : goal.returns-in_default-clause-row
returns-in_default-clause-row g c = λ fields says.
    lost_imported g.M.Disk.Store Appends _ c.args.flags c.args.giver.badge c.args.giver.day c.args.number c.args.row fields c.args.shelf.now.images.items _ _ c.args.desk.now.store
    (none_is _ c.in_default.is c.in_ok-bytes.ensures.lost) says c.in_ok-tell_row.ensures.done

pub returns-clause-row : goal.returns-clause-row
returns-clause-row g c =
    let asked = c.answer_to_row-answer in
    image_imported g.M.Disk.Store _ c.args.flags c.args.giver.badge c.args.giver.day c.args.number c.args.row c.in-Some.bytes.items asked.result c.tell_outcome.result
    c.args.shelf.now.images.items asked.new.shelf.images.items _ _ c.args.desk.now.store asked.new.desk.store
    (some_is _ _ c.in-Some.bytes c.in-Some.is c.in_ok-bytes.ensures.read)
    (λ dry is_open. let reads = asked.ensures.dry dry in (reads.keeps.same is_open, reads.answer is_open))
    (λ wet is_open. (asked.ensures.wet wet).answers is_open) c.tell_outcome.ensures.written

pub returns-clause-dry : goal.returns-clause-dry
returns-clause-dry g c = λ dry. let reads = c.answer_to_row-answer.ensures.dry dry in record { lasts = reads.keeps.lasts; reached = reads.keeps.same }

pub returns-clause-wet : goal.returns-clause-wet
returns-clause-wet g c = λ wet.
    let asked = c.answer_to_row-answer in
    row_taken g.M.Disk.Store c.args.desk.now.store asked.new.desk.store c.args.giver.day asked.result c.args.giver.badge c.args.row c.in-Some.bytes.items (asked.ensures.wet wet)

pub returns-in_err-bytes-clause-refused : goal.returns-in_err-bytes-clause-refused
returns-in_err-bytes-clause-refused g c =
    passed_on c.from_residual.result c.in_err-bytes.field-0.0 _ c.from_residual.ensures.1 (of_device c.in_err-bytes.field-0.0 c.in_err-bytes.ensures.refused, none_of_line (g.W.Write.contents c.args.output.now))

pub returns-in_err-tell_row-clause-refused : goal.returns-in_err-tell_row-clause-refused
returns-in_err-tell_row-clause-refused g c =
    passed_on c.from_residual-in_err-tell_row.result c.in_err-tell_row.field-0.0 _ c.from_residual-in_err-tell_row.ensures.1
    (row_refused c.args.number _ c.in_err-tell_row.field-0.0 _ _ (inr refl) c.in_err-tell_row.ensures.refused c.in_err-tell_row.ensures.cut)

pub returns-in_default-clause-written : goal.returns-in_default-clause-written
returns-in_default-clause-written g c = record { line = _; is = inr (c.args.number, inr refl); gained = c.in_ok-tell_row.ensures.done }

pub returns-clause-written : goal.returns-clause-written
returns-clause-written g c = answer_row c.args.row.acc c.args.flags.dry_run c.answer_to_row-answer.result c.tell_outcome.result _ _ c.tell_outcome.ensures.written

-- ---- a row that is not done, or whose line is not written whole

pub returns-in_err-bytes-clause-stopped : goal.returns-in_err-bytes-clause-stopped
returns-in_err-bytes-clause-stopped g c = on_err c.from_residual.result _ (λ fields says. inl (Keeps-refl _, λ is_open. refl))

pub returns-in_err-tell_row-clause-stopped : goal.returns-in_err-tell_row-clause-stopped
returns-in_err-tell_row-clause-stopped g c =
    on_err c.from_residual-in_err-tell_row.result _ (λ fields says. inr (
      Lost,
      lost_imported g.M.Disk.Store AppendsPart _ c.args.flags c.args.giver.badge c.args.giver.day c.args.number c.args.row fields c.args.shelf.now.images.items _ _ c.args.desk.now.store
          (none_is _ c.in_default.is c.in_ok-bytes.ensures.lost) says c.in_err-tell_row.ensures.cut,
    ))

pub returns-clause-stopped : goal.returns-clause-stopped
returns-clause-stopped g c =
    let asked = c.answer_to_row-answer in
    image_stops g.M.Disk.Store _ c.args.flags c.args.giver.badge c.args.giver.day c.args.number c.args.row c.in-Some.bytes.items asked.result c.tell_outcome.result
    c.args.shelf.now.images.items asked.new.shelf.images.items _ _ c.args.desk.now.store asked.new.desk.store
    (some_is _ _ c.in-Some.bytes c.in-Some.is c.in_ok-bytes.ensures.read)
    (λ dry is_open. let reads = asked.ensures.dry dry in (reads.keeps.same is_open, reads.answer is_open))
    (λ wet is_open. (asked.ensures.wet wet).answers is_open) c.tell_outcome.ensures.cut
