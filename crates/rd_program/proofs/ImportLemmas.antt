-- The lines of an import.
use Rattle.std.proofs.Common.{◌≡◌, ◌≢◌, ◌⊎◌, ℕ, Bool, List, [], ◌∷◌, ◌++◌, Option, Result, Ok, Err, IfErr, IfOk, OnErr, OnOk, inl, inr, refl, subst, sym, arith}
use Rattle.std.proofs.lemmas.List.Elements.{All-nil, All-push, All-weaker}
use Rattle.std.proofs.lemmas.List.Folds.{concat-append}
use Rattle.std.specs.List.{concat}
use Rattle.std.proofs.KnownBytes.{Appends-nil, Keeps-refl}
use Rattle.std.specs.Io.KnownBytes.{Appends}
use Rattle.rd_protocol.specs.Refusals.{name_of}
use Rattle.rd_protocol.specs.declared.response.Response.{Response}
use Rattle.rd_protocol.specs.declared.response.Response.TheVariants.{Refused}
use Rattle.rd_commands.specs.Asks.{TellsInRows, TellsOnOutput}
use Rattle.rd_program.specs.Importing.{GainsFront, GainsFrontOfLine, GainsLine, GainsLines, IsDoneLine, IsImportRefusal, IsRowLine, IsRowRefusal, RefusesRow, RefusesRows, TellsRow, TellsRows, accession_line, bad_row_line, done_word, lost_row_line}
use Rattle.rd_program.specs.Serving.{IsClockRefusal}
use Rattle.rd_program.specs.ImportedRows.{TellsOutcome, outcome_by, word_by, worse}
use Rattle.rd_program.specs.declared.import.RowOutcome.{RowOutcome}
use Rattle.rd_program.specs.declared.import.RowOutcome.TheVariants.{Denied, Done, Lost}
use Rattle.rd_commands.specs.Output.{AppendsPart}
use Rattle.rd_commands.specs.Refusals.{IsDeviceOrMemory, refusal_for}
use Rattle.rd_commands.specs.Sheets.{IsReadRefusal}
use Rattle.rd_commands.specs.RefusalLines.{whole}
use Rattle.rd_commands.specs.declared.done.Done.{Done as Ending}
use Rattle.rd_commands.specs.declared.done.Done.TheVariants.{InPart, Whole}
use Rattle.rd_commands.specs.declared.files.MachineFault.{MachineFault}
use Rattle.rd_commands.specs.declared.files.MachineFault.TheVariants as machine_fault
use Rattle.rd_commands.specs.declared.refusal.Refusal.{Refusal}
use Rattle.rd_commands.specs.declared.refusal.Refusal.TheVariants.{BadSheet, Device, NoMemory, Store}
use Rattle.rd_commands.specs.declared.words.Ask.{Ask}
use Rattle.rd_commands.specs.declared.words.Ask.TheVariants.{Import, OneQuestion, FlaggedImport}
use Rattle.rd_commands.proofs.WriterLemmas.{none_written, part_after, piece_more}

-- ---- lines

done_is_row : (dry_run : Bool) (line : List ℕ) → IsDoneLine dry_run line → IsRowLine line
done_is_row dry_run line done = inl (done.0, done_word dry_run, done.1)

-- lines of images that are taken in, or would be, tell of rows
pub rows_of : (dry_run : Bool) (outcome : RowOutcome) (old new : Option (List ℕ)) → TellsRows dry_run old new outcome → GainsLines IsRowLine old new
rows_of dry_run Done old new rows = record { lines = rows.lines; each = All-weaker (IsDoneLine dry_run) IsRowLine (done_is_row dry_run) rows.lines rows.each; gained = rows.gained }
rows_of dry_run Denied old new rows = rows
rows_of dry_run Lost old new rows = rows

row_of : (dry_run : Bool) (outcome : RowOutcome) (old new : Option (List ℕ)) → TellsRow dry_run old new outcome → GainsLine IsRowLine old new
row_of dry_run Done old new row = record { line = row.line; is = done_is_row dry_run row.line row.is; gained = row.gained }
row_of dry_run Denied old new row = row
row_of dry_run Lost old new row = row

one_more : (P : List ℕ → Type 0) (old mid new : Option (List ℕ)) → GainsLines P old mid → GainsLine P mid new → GainsLines P old new
one_more P old mid new rows row = record {
  lines = rows.lines ++ row.line ∷ [];
  each = All-push P rows.lines row.line rows.each row.is;
  gained = piece_more old mid new rows.lines row.line rows.gained row.gained;
}

-- the line of one more row
pub rows_more : (dry_run : Bool) (one other : RowOutcome) (old mid new : Option (List ℕ)) → TellsRows dry_run old mid one → TellsRow dry_run mid new other
    → TellsRows dry_run old new (worse one other)
rows_more dry_run Done Done old mid new rows row = one_more (IsDoneLine dry_run) old mid new rows row
rows_more dry_run Done Denied old mid new rows row = one_more IsRowLine old mid new (rows_of dry_run Done old mid rows) row
rows_more dry_run Done Lost old mid new rows row = one_more IsRowLine old mid new (rows_of dry_run Done old mid rows) row
rows_more dry_run Denied Done old mid new rows row = one_more IsRowLine old mid new rows (row_of dry_run Done mid new row)
rows_more dry_run Denied Denied old mid new rows row = one_more IsRowLine old mid new rows row
rows_more dry_run Denied Lost old mid new rows row = one_more IsRowLine old mid new rows row
rows_more dry_run Lost other old mid new rows row = one_more IsRowLine old mid new rows (row_of dry_run other mid new row)

-- no line yet
pub no_rows : (P : List ℕ → Type 0) (old : Option (List ℕ)) → GainsLines P old old
no_rows P old = record { lines = []; each = All-nil P; gained = Appends-nil old }

-- lines and a front part of the next
front_of : (old mid new : Option (List ℕ)) → GainsLines IsRowLine old mid → GainsFrontOfLine mid new → GainsFront old new
front_of old mid new rows front = record {
  lines = rows.lines ++ front.line ∷ [];
  each = All-push IsRowLine rows.lines front.line rows.each front.is;
  gained = part_after old mid new (concat (rows.lines ++ front.line ∷ [])) (concat rows.lines) front.line []
      (concat-append rows.lines (front.line ∷ [])) rows.gained front.gained;
}

-- nothing of a line
pub none_of_line : (old : Option (List ℕ)) → GainsFrontOfLine old old
none_of_line old = record { line = accession_line 0 []; is = inl (0, [], refl); gained = none_written old old (accession_line 0 []) (Keeps-refl old) }

-- nothing of any line
pub front_kept : (old new : Option (List ℕ)) → GainsLines IsRowLine old new → GainsFront old new
front_kept old new rows = front_of old new new rows (none_of_line new)

-- ---- one row

-- what an accession's line is cut to
pub accession_front : (acc : ℕ) (word : List ℕ) (old new : Option (List ℕ)) → AppendsPart old new (accession_line acc word) → GainsFrontOfLine old new
accession_front acc word old new part = record { line = accession_line acc word; is = inl (acc, word, refl); gained = part }

pub of_device : (refusal : Refusal) → IsDeviceOrMemory refusal → IsRowRefusal refusal
of_device Device is = inl refl
of_device NoMemory is = inr (inl refl)
of_device refusal is = absurd is

-- a line that fails
pub accession_refused : (acc : ℕ) (word : List ℕ) (refusal : Refusal) (old new : Option (List ℕ)) → IsDeviceOrMemory refusal → AppendsPart old new (accession_line acc word)
    → RefusesRow old new refusal
accession_refused acc word refusal old new is part = (of_device refusal is, accession_front acc word old new part)

-- what the machine fails for
pub machine_failed : (fault : MachineFault) (refusal : Refusal) → refusal ≡ refusal_for Device fault → IsRowRefusal refusal
machine_failed machine_fault.Failed refusal is = inl is
machine_failed machine_fault.NoMemory refusal is = inr (inl is)

-- a line of a row without an accession that fails
pub row_refused : (number : ℕ) (line : List ℕ) (refusal : Refusal) (old new : Option (List ℕ)) → (line ≡ bad_row_line number) ⊎ (line ≡ lost_row_line number)
    → IsDeviceOrMemory refusal → AppendsPart old new line → RefusesRow old new refusal
row_refused number line refusal old new is why part = (of_device refusal why, record { line = line; is = inr (number, is); gained = part })

-- what is told of an answer is the line of a row
pub answer_row : {X : Type 0} (acc : ℕ) (dry_run : Bool) (r : Result Response X) (told : Result RowOutcome Refusal) (old new : Option (List ℕ))
    → IfOk told (TellsOutcome acc dry_run r old new) → IfOk told (TellsRow dry_run old new)
answer_row acc dry_run (Ok answer) (Ok outcome) old new tells = subst (TellsRow dry_run old new) (sym tells.1) (row_written answer tells.0)
  where
    row_written : (answer : Response) → Appends old new (accession_line acc (word_by dry_run answer)) → TellsRow dry_run old new (outcome_by answer)
    row_written (Refused refusal) wrote = record { line = accession_line acc (name_of refusal); is = inl (acc, name_of refusal, refl); gained = wrote }
    row_written other wrote = record { line = accession_line acc (done_word dry_run); is = (acc, refl); gained = wrote }
answer_row acc dry_run (Err fault) (Ok outcome) old new tells = absurd tells
answer_row acc dry_run r (Err refusal) old new tells = tt

-- ---- rows

-- a run that ends at a row
pub ends_at_row : (dry_run : Bool) (outcome : RowOutcome) (refusal : Refusal) (old mid new : Option (List ℕ)) → TellsRows dry_run old mid outcome → RefusesRow mid new refusal
    → RefusesRows old new refusal
ends_at_row dry_run outcome refusal old mid new rows row = inr (row.0, front_of old mid new (rows_of dry_run outcome old mid rows) row.1)

-- a run that ends because no row is read
pub ends_between : (dry_run : Bool) (outcome : RowOutcome) (refusal : Refusal) (old new : Option (List ℕ)) → TellsRows dry_run old new outcome → IsReadRefusal refusal
    → RefusesRows old new refusal
ends_between dry_run outcome refusal old new rows (inl is) = inl (is, rows_of dry_run outcome old new rows)
ends_between dry_run outcome refusal old new rows (inr (inl is)) = inr (inl is, front_kept old new (rows_of dry_run outcome old new rows))
ends_between dry_run outcome refusal old new rows (inr (inr is)) = inr (inr (inl is), front_kept old new (rows_of dry_run outcome old new rows))

-- why a sheet is not begun
pub sheet_failed : (fault : MachineFault) (refusal : Refusal) → refusal ≡ refusal_for Device fault → IsImportRefusal refusal
sheet_failed machine_fault.Failed refusal is = inr (inr is)
sheet_failed machine_fault.NoMemory refusal is = inr (inl (inr is))

pub day_failed : (refusal : Refusal) → IsClockRefusal refusal ⊎ (refusal ≡ Store) → IsImportRefusal refusal
day_failed refusal (inl clock) = inr (inl clock)
day_failed refusal (inr store) = inl (inr (inr (inr (inl store))))

-- ---- what holds of any refusal

pub on_err : {T E : Type 0} (r : Result T E) (P : Type 0) → P → OnErr r P
on_err (Ok value) P holds = tt
on_err (Err fault) P holds = holds

pub on_err_weaker : {T E : Type 0} (r : Result T E) (P Q : Type 0) → (P → Q) → OnErr r P → OnErr r Q
on_err_weaker (Ok value) P Q weaker holds = tt
on_err_weaker (Err fault) P Q weaker holds = weaker holds

-- ---- what was done whole

pub ok_whole : {T : Type 0} (P : Type 0) (ended : Result T Refusal) (r : Result Ending Refusal) → r ≡ whole ended → OnOk ended P → OnOk r P
ok_whole P (Ok value) r is fact = subst (λ x. OnOk x P) (sym is) fact
ok_whole P (Err refusal) r is fact = subst (λ x. OnOk x P) (sym is) tt

pub err_whole : {T : Type 0} (P : Refusal → Type 0) (ended : Result T Refusal) (r : Result Ending Refusal) → r ≡ whole ended → IfErr ended P → IfErr r P
err_whole P (Ok value) r is fact = subst (λ x. IfErr x P) (sym is) tt
err_whole P (Err refusal) r is fact = subst (λ x. IfErr x P) (sym is) fact

-- it is not done in part
pub whole_is : {T : Type 0} (P : Type 0) (ended : Result T Refusal) (r : Result Ending Refusal) → r ≡ whole ended → IfOk r (λ done. done ≡ InPart → P)
whole_is P (Ok value) r is = subst (λ x. IfOk x (λ done. done ≡ InPart → P)) (sym is) (λ same. let no : Whole ≡ InPart = same in absurd cc)
whole_is P (Err refusal) r is = subst (λ x. IfOk x (λ done. done ≡ InPart → P)) (sym is) tt

-- ---- what is asked for

-- what is done in rows is told on the output
pub rows_tell : (ask : Ask) → TellsInRows ask → TellsOnOutput ask
rows_tell (Import ask) tells = tt
rows_tell (FlaggedImport ask) tells = tt
rows_tell (OneQuestion ask) tells = absurd tells
rows_tell ask tells = tells

pub one_is_some : {n : ℕ} → n ≡ 1 → n ≢ 0
one_is_some one = λ zero. omega (arith, one, zero)

-- why a run over rows ends early
pub rows_why : (refusal : Refusal) (old new : Option (List ℕ)) → RefusesRows old new refusal → (refusal ≡ BadSheet) ⊎ IsRowRefusal refusal
rows_why refusal old new (inl bad) = inl bad.0
rows_why refusal old new (inr row) = inr row.0
