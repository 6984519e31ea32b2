-- The rows of a sheet that are taken past files that cannot be read, or only tried.
use Rattle.std.proofs.Common.{◌≡◌, ◌⊎◌, ◌+◌, ◌∙◌, ◌++◌, ◌∷◌, [], ℕ, ℤ, Bool, Err, IfNone, IfOk, IfSome, List, None, Ok, OnErr, Option, Result, Some, ap, arith, false, inl, inr, length, length-append, refl, subst, sym, true}
use Rattle.std.specs.Borrow.{Bor}
use Rattle.std.specs.Io.KnownBytes.{Appends}
use Rattle.std.specs.List.{concat}
use Rattle.std.specs.Prelude.{All}
use Rattle.std.proofs.KnownBytes.{Appends-kept, Appends-nil, Keeps-refl}
use Rattle.std.proofs.lemmas.List.Elements.{All-nil, All-push}
use Rattle.csv.specs.Machine.{next_record}
use Rattle.csv.specs.Reading.{NextIs, ReadRecord, ReadsOn, default_config, has_failed, is_flexible, strip_bom, took_first}
use Rattle.csv.specs.declared.parser.State.{State}
use Rattle.csv.specs.declared.parser.State.TheVariants.{StartRecord}
use Rattle.csv.specs.declared.reader.Reader.{Reader}
use Rattle.sqlite.specs.Held.{Held, state}
use Rattle.sqlite.specs.Store.{Ghosts}
use Rattle.rd_store.specs.Held.{IsOpen, Lasts, desk}
use Rattle.rd_store.specs.Migrated.{IsMigrated, SpellsDesk}
use Rattle.rd_holdings.specs.State.{Desk}
use Rattle.rd_protocol.specs.Replies.{IsAnswered}
use Rattle.rd_protocol.specs.declared.refusal.Refusal.{Refusal as DeskRefusal}
use Rattle.rd_protocol.specs.declared.response.Response.{Response}
use Rattle.rd_protocol.specs.declared.response.Response.TheVariants.{Refused}
use Rattle.rd_commands.specs.Output.{AppendsPart}
use Rattle.rd_commands.specs.Sheets.{HasOtherLength, IsBad, Says, header}
use Rattle.rd_commands.specs.declared.done.Done.{Done as Ending}
use Rattle.rd_commands.specs.declared.refusal.Refusal.{Refusal}
use Rattle.rd_commands.specs.declared.sheet.SheetRow.{SheetRow}
use Rattle.rd_commands.proofs.WriterLemmas.{piece_more}
use Rattle.rd_desk.specs.Calls.{IsResponse}
use Rattle.rd_desk.specs.Shelving.{StandsBeside, WouldAnswer}
use Rattle.rd_desk.specs.declared.would_take.Shelved.{Shelved}
use Rattle.rd_program.specs.Importing.{accession_line, bad_row_line, done_word, lost_row_line}
use Rattle.rd_program.specs.Leaves.{IsSame, LeavesDesk, TakesFields, TakesUnlessDry}
use Rattle.rd_program.specs.Rows.{HasRows, IsSheetOf}
use Rattle.rd_program.specs.Showing.{EndsWith}
use Rattle.rd_program.specs.ImportedRows.{AreRowsImported, CutsOutcome, CutsLast, IsRowImported, ImportsFront, ImportsOn, ImportsOne, ImportsRows, ImportsSheet, ImportsSheetIn, StandsAfter, StopsOn, StopsOne, StopsRows, StopsSheetIn, TellsOutcome, outcome_by, rows_outcome, put_of, shelved_row, word_by, worse}
use Rattle.rd_program.specs.declared.import.RowOutcome.{RowOutcome}
use Rattle.rd_program.specs.declared.import.RowOutcome.TheVariants.{Denied, Done, Lost}
use Rattle.rd_program.specs.declared.import.ImportFlags.{ImportFlags}
use Rattle.rd_program.proofs.DeskSteps.{row_more}
use Rattle.rd_program.proofs.LeftStores.{desk_left, desk_then}
use Rattle.rd_program.proofs.OnTimeLemmas.{takes_from}
use Rattle.rd_program.proofs.RowLemmas.{HasRead, IsAt, IsStrict, longer_no_sheet, next_none, next_some, reads_on, records_more, slice_rest, strict_first, strict_next}
use Rattle.rd_program.proofs.ShowLemmas.{ends_with}

-- ---- what became of rows together

worse_assoc : (a b c : RowOutcome) → worse (worse a b) c ≡ worse a (worse b c)
worse_assoc Done b c = refl
worse_assoc Denied Done c = refl
worse_assoc Denied Denied Done = refl
worse_assoc Denied Denied Denied = refl
worse_assoc Denied Denied Lost = refl
worse_assoc Denied Lost c = refl
worse_assoc Lost b c = refl

worse_done : (a : RowOutcome) → worse a Done ≡ a
worse_done Done = refl
worse_done Denied = refl
worse_done Lost = refl

-- one row more
rows_then : (files : List ℕ → Option (List ℕ)) (flags : ImportFlags) (badge : List ℕ) (day : ℤ) (number : ℕ) (rows : List (List (List ℕ))) (lines : List (List ℕ)) (outcome one : RowOutcome)
    (fields : List (List ℕ)) (line : List ℕ) (old mid new : Desk)
    → AreRowsImported files flags badge day number rows lines outcome old mid → IsRowImported files flags badge day (number + length rows) fields line one mid new
    → AreRowsImported files flags badge day number (rows ++ fields ∷ []) (lines ++ line ∷ []) (worse outcome one) old new
rows_then files flags badge day number [] [] outcome one fields line old mid new (done, same) row = (
  new,
  one,
  Done,
  subst (λ d. IsRowImported files flags badge day number fields line one d new) same (subst (λ n. IsRowImported files flags badge day n fields line one mid new) (omega arith) row),
  (refl, refl),
  ap (λ f. worse f one) done ∙ sym (worse_done one),
)
rows_then files flags badge day number [] (other ∷ lines) outcome one fields line old mid new taken row = absurd taken
rows_then files flags badge day number (first ∷ rows) [] outcome one fields line old mid new taken row = absurd taken
rows_then files flags badge day number (first ∷ rows) (head ∷ lines) outcome one fields line old mid new (after, its, others, is, more, whole) row = (
  after,
  its,
  worse others one,
  is,
  rows_then files flags badge day (number + 1) rows lines others one fields line after mid new more
      (subst (λ n. IsRowImported files flags badge day n fields line one mid new) (omega arith) row),
  ap (λ f. worse f one) whole ∙ worse_assoc its others one,
)

-- The rows that were read of a sheet, their lines, and the desk after them; in a dry run, one that stands beside the shelf.
pub record RowsSoFar {S : Type 0} (g : Ghosts S) (files : List ℕ → Option (List ℕ)) (flags : ImportFlags) (badge : List ℕ) (day : ℤ) (sheet : List ℕ) (opened now : Held S)
    (reader : Reader (Bor (List ℕ))) (number : ℕ) (outcome : RowOutcome) (shelf : List Shelved) (rows : List (List (List ℕ))) (lines : List (List ℕ)) : Type 0 where
  pub state : State
  pub rest : List ℕ
  pub at : IsAt reader state rest
  pub has : HasRows sheet rows state rest
  pub count : 1 + length rows ≡ number
  pub strict : IsStrict reader
  pub fit : All (λ fields. length fields ≡ length header) rows
  pub taken : IsOpen g now → flags.dry_run ≡ false → AreRowsImported files flags badge day 1 rows lines outcome (desk g opened) (desk g now)
  pub tried : IsOpen g now → flags.dry_run ≡ true → (desk g now ≡ desk g opened)
      × ((mid : Desk) × StandsBeside shelf (desk g opened) mid × AreRowsImported files flags badge day 1 rows lines outcome (desk g opened) mid)

-- and their lines were written
pub record ImportedSoFar {S : Type 0} (g : Ghosts S) (files : List ℕ → Option (List ℕ)) (flags : ImportFlags) (badge : List ℕ) (day : ℤ) (sheet : List ℕ) (out written : Option (List ℕ))
    (opened now : Held S) (reader : Reader (Bor (List ℕ))) (number : ℕ) (outcome : RowOutcome) (shelf : List Shelved) : Type 0 where
  pub rows : List (List (List ℕ))
  pub lines : List (List ℕ)
  pub so : RowsSoFar g files flags badge day sheet opened now reader number outcome shelf rows lines
  pub gained : Appends out written (concat lines)

-- the desk that stands stands beside a shelf without an image
beside_none : (stood : Desk) → StandsBeside [] stood stood
beside_none stood = record { rest = refl; images = λ acc. refl }

module _ {S : Type 0} (g : Ghosts S) (files : List ℕ → Option (List ℕ)) (flags : ImportFlags) (badge : List ℕ) (day : ℤ) (sheet : List ℕ) (out : Option (List ℕ)) (opened : Held S) where
  -- no row yet
  pub imported_none : (reader after : Reader (Bor (List ℕ))) (found : Bool) (fields : List (List ℕ)) (shelf : List Shelved) → is_flexible reader ≡ false → (found ≡ true → ReadsOn reader after)
      → IsAt reader StartRecord (strip_bom sheet) → ReadRecord slice_rest reader after found fields
      → has_failed after ≡ has_failed reader → took_first after ≡ true → found ≡ true → fields ≡ header → shelf ≡ []
      → ImportedSoFar g files flags badge day sheet out out opened opened after 1 Done shelf
  imported_none reader after found fields shelf strict on at read kept took is named bare =
      let now = reads_on reader after StartRecord (strip_bom sheet) found fields at read kept took in
      let next = next_some (next_record default_config StartRecord [] [] (strip_bom sheet)) fields now.last now.rest
      (subst (λ b. NextIs (next_record default_config StartRecord [] [] (strip_bom sheet)) b fields now.last now.rest) is now.next) in
      record {
        rows = [];
        lines = [];
        so = record {
          state = now.last;
          rest = now.rest;
          at = now.at;
          has = (now.last, now.rest, subst (λ f. next_record default_config StartRecord [] [] (strip_bom sheet) ≡ Some (f, now.last, now.rest)) named next, (refl, refl));
          count = refl;
          strict = strict_first reader after found fields read on is named strict;
          fit = All-nil (λ row. length row ≡ length header);
          taken = λ is_open wet. (refl, refl);
          tried = λ is_open dry. (refl, (desk g opened, subst (λ s. StandsBeside s (desk g opened) (desk g opened)) (sym bare) (beside_none (desk g opened)), (refl, refl)));
        };
        gained = Appends-nil out;
      }

  module _ (mid new : Held S) (written more : Option (List ℕ)) (reader after : Reader (Bor (List ℕ))) (number : ℕ) (outcome one : RowOutcome) (shelf next : List Shelved) where
    -- one row more
    rows_more : (Gains : Option (List ℕ) → Option (List ℕ) → List ℕ → Type 0) (rows : List (List (List ℕ))) (lines : List (List ℕ)) (found : Bool) (fields : List (List ℕ))
        → (found ≡ true → ReadsOn reader after) → RowsSoFar g files flags badge day sheet opened mid reader number outcome shelf rows lines
        → ReadRecord slice_rest reader after found fields → has_failed after ≡ has_failed reader → took_first after ≡ true → found ≡ true → (IsOpen g new → IsOpen g mid)
        → (row : ImportsOne g Gains files flags badge day number fields one shelf next written more mid new)
        → RowsSoFar g files flags badge day sheet opened new after (number + 1) (worse outcome one) next (rows ++ fields ∷ []) (lines ++ row.line ∷ [])
    rows_more Gains rows lines found fields on so_far read kept took is was_open row =
        let strict = strict_next reader after found fields read on is so_far.strict in
        let now = reads_on reader after so_far.state so_far.rest found fields so_far.at read kept took in
        let then_next = next_some (next_record default_config so_far.state [] [] so_far.rest) fields now.last now.rest
        (subst (λ b. NextIs (next_record default_config so_far.state [] [] so_far.rest) b fields now.last now.rest) is now.next) in
        let count = so_far.count in
        record {
          state = now.last;
          rest = now.rest;
          at = now.at;
          has = records_more StartRecord (strip_bom sheet) (header ∷ rows) so_far.state now.last so_far.rest now.rest fields so_far.has then_next;
          count = omega (arith, count, length-append rows (fields ∷ []));
          strict = strict.0;
          fit = All-push (λ row. length row ≡ length header) rows fields so_far.fit strict.1;
          taken = λ is_open wet. rows_then files flags badge day 1 rows lines outcome one fields row.line (desk g opened) (desk g mid) (desk g new) (so_far.taken (was_open is_open) wet)
              (subst (λ n. IsRowImported files flags badge day n fields row.line one (desk g mid) (desk g new)) (sym count) (row.wet wet is_open));
          tried = λ is_open dry.
              let before = so_far.tried (was_open is_open) dry in
              let its = row.dry dry is_open in
              let stands : StandsBeside shelf (desk g mid) before.1.0 = subst (λ d. StandsBeside shelf d before.1.0) (sym before.0) before.1.1 in
              let left = its.1 before.1.0 stands in (
                its.0 ∙ before.0,
                (
                  left.0,
                  subst (λ d. StandsBeside next d left.0) before.0 left.2,
                  rows_then files flags badge day 1 rows lines outcome one fields row.line (desk g opened) before.1.0 left.0 before.1.2
                      (subst (λ n. IsRowImported files flags badge day n fields row.line one before.1.0 left.0) (sym count) left.1),
                ),
              );
        }

    pub imported_more : (found : Bool) (fields : List (List ℕ)) → (found ≡ true → ReadsOn reader after) → ImportedSoFar g files flags badge day sheet out written opened mid reader number outcome shelf
        → ReadRecord slice_rest reader after found fields → has_failed after ≡ has_failed reader → took_first after ≡ true → found ≡ true → (IsOpen g new → IsOpen g mid)
        → ImportsOne g Appends files flags badge day number fields one shelf next written more mid new
        → ImportedSoFar g files flags badge day sheet out more opened new after (number + 1) (worse outcome one) next
    imported_more found fields on so_far read kept took is was_open row = record {
      rows = so_far.rows ++ fields ∷ [];
      lines = so_far.lines ++ row.line ∷ [];
      so = rows_more Appends so_far.rows so_far.lines found fields on so_far.so read kept took is was_open row;
      gained = piece_more out written more so_far.lines row.line so_far.gained row.gained;
    }

  -- no row more
  pub imported_all : (now : Held S) (written : Option (List ℕ)) (reader after : Reader (Bor (List ℕ))) (number : ℕ) (outcome : RowOutcome) (shelf : List Shelved) (found : Bool) (fields : List (List ℕ))
      → ImportedSoFar g files flags badge day sheet out written opened now reader number outcome shelf → ReadRecord slice_rest reader after found fields → has_failed after ≡ has_failed reader
      → took_first after ≡ true → found ≡ false → ImportsRows g files flags badge day sheet out written outcome opened now
  imported_all now written reader after number outcome shelf found fields so_far read kept took is is_open = go flags.dry_run refl
    where
      ends : HasRead so_far.so.state so_far.so.rest found fields after
      ends = reads_on reader after so_far.so.state so_far.so.rest found fields so_far.so.at read kept took

      all : IsSheetOf sheet so_far.rows
      all = record {
        last = so_far.so.state;
        rest = so_far.so.rest;
        has = so_far.so.has;
        ends = next_none (next_record default_config so_far.so.state [] [] so_far.so.rest) fields ends.last ends.rest
            (subst (λ b. NextIs (next_record default_config so_far.so.state [] [] so_far.so.rest) b fields ends.last ends.rest) is ends.next);
        fit = so_far.so.fit;
      }

      go : (dry : Bool) → flags.dry_run ≡ dry → ImportsSheet files flags badge day (Some sheet) out written outcome (desk g opened) (desk g now)
      go true dry =
          let tried = so_far.so.tried is_open dry in record {
            rows = so_far.rows;
            lines = so_far.lines;
            left = tried.1.0;
            is = all;
            taken = tried.1.2;
            stands = subst (λ b. StandsAfter b (desk g opened) tried.1.0 (desk g now)) (sym dry) tried.0;
            gained = so_far.gained;
          }
      go false wet = record {
        rows = so_far.rows;
        lines = so_far.lines;
        left = desk g now;
        is = all;
        taken = so_far.so.taken is_open wet;
        stands = subst (λ b. StandsAfter b (desk g opened) (desk g now) (desk g now)) (sym wet) refl;
        gained = so_far.gained;
      }

  -- a row of another number of fields comes after some rows
  pub imported_no_sheet : (now : Held S) (written : Option (List ℕ)) (reader after : Reader (Bor (List ℕ))) (number : ℕ) (outcome : RowOutcome) (shelf : List Shelved)
      → ImportedSoFar g files flags badge day sheet out written opened now reader number outcome shelf
      → HasOtherLength reader after → (rows : List (List (List ℕ))) → IsSheetOf sheet rows → ⊥
  imported_no_sheet now written reader after number outcome shelf so_far longer rows is =
      longer_no_sheet sheet so_far.rows so_far.so.state so_far.so.rest reader after so_far.so.at so_far.so.has so_far.so.strict longer rows is

  -- ---- a run that ends before the last row

  -- it ends after some rows
  rows_front : (now : Held S) (written : Option (List ℕ)) (reader : Reader (Bor (List ℕ))) (number : ℕ) (outcome : RowOutcome) (shelf : List Shelved) (rows : List (List (List ℕ))) (lines : List (List ℕ))
      → RowsSoFar g files flags badge day sheet opened now reader number outcome shelf rows lines → Appends out written (concat lines) ⊎ CutsLast lines out written → IsOpen g now
      → ImportsFront files flags badge day (Some sheet) out written (desk g opened) (desk g now)
  rows_front now written reader number outcome shelf rows lines so gained is_open = go flags.dry_run refl
    where
      go : (dry : Bool) → flags.dry_run ≡ dry → ImportsFront files flags badge day (Some sheet) out written (desk g opened) (desk g now)
      go true dry =
          let tried = so.tried is_open dry in record {
            rows = rows;
            lines = lines;
            outcome = outcome;
            left = tried.1.0;
            begins = (so.state, so.rest, so.has, so.fit);
            taken = tried.1.2;
            stands = subst (λ b. StandsAfter b (desk g opened) tried.1.0 (desk g now)) (sym dry) tried.0;
            gained = gained;
          }
      go false wet = record {
        rows = rows;
        lines = lines;
        outcome = outcome;
        left = desk g now;
        begins = (so.state, so.rest, so.has, so.fit);
        taken = so.taken is_open wet;
        stands = subst (λ b. StandsAfter b (desk g opened) (desk g now) (desk g now)) (sym wet) refl;
        gained = gained;
      }

  -- no row is read
  pub stops_between : (now : Held S) (written : Option (List ℕ)) (reader : Reader (Bor (List ℕ))) (number : ℕ) (outcome : RowOutcome) (shelf : List Shelved)
      → ImportedSoFar g files flags badge day sheet out written opened now reader number outcome shelf → StopsRows g files flags badge day sheet out written opened now
  stops_between now written reader number outcome shelf so_far = inr (rows_front now written reader number outcome shelf so_far.rows so_far.lines so_far.so (inl so_far.gained))

  -- a row is not done, or its line is not written whole
  pub stops_at : (mid new : Held S) (written more : Option (List ℕ)) (reader after : Reader (Bor (List ℕ))) (number : ℕ) (outcome : RowOutcome) (shelf next : List Shelved) (found : Bool)
      (fields : List (List ℕ)) → (found ≡ true → ReadsOn reader after) → ImportedSoFar g files flags badge day sheet out written opened mid reader number outcome shelf
      → ReadRecord slice_rest reader after found fields → has_failed after ≡ has_failed reader → took_first after ≡ true → found ≡ true → (IsOpen g new → IsOpen g mid)
      → StopsOne g files flags badge day number fields shelf next written more mid new → StopsRows g files flags badge day sheet out more opened new
  stops_at mid new written more reader after number outcome shelf next found fields on so_far read kept took is was_open (inl none) = inr (λ is_open.
      subst (ImportsFront files flags badge day (Some sheet) out more (desk g opened)) (sym (none.1 is_open))
      (rows_front mid more reader number outcome shelf so_far.rows so_far.lines so_far.so (inl (Appends-kept out written more (concat so_far.lines) so_far.gained none.0)) (was_open is_open)))
  stops_at mid new written more reader after number outcome shelf next found fields on so_far read kept took is was_open (inr (one, row)) = inr
      (rows_front new more after (number + 1) (worse outcome one) next (so_far.rows ++ fields ∷ []) (so_far.lines ++ row.line ∷ [])
      (rows_more mid new written more reader after number outcome one shelf next AppendsPart so_far.rows so_far.lines found fields on so_far.so read kept took is was_open row)
      (inr (record { whole = so_far.lines; line = row.line; between = written; all = refl; gained = so_far.gained; part = row.gained })))

-- ---- what is taken

-- where nothing is to be taken in, the desk stays as it is, and otherwise one row more is taken
pub imports_then : {S : Type 0} (g : Ghosts S) (dry : Bool) (badge : List ℕ) (day : ℤ) (fields : List (List ℕ)) (old mid new : Held S)
    → LeavesDesk g (TakesUnlessDry dry badge (λ d. d ≡ day)) old mid → (dry ≡ true → LeavesDesk g IsSame mid new) → (dry ≡ false → LeavesDesk g (TakesFields badge day fields) mid new)
    → LeavesDesk g (TakesUnlessDry dry badge (λ d. d ≡ day)) old new
imports_then g true badge day fields old mid new before same row = desk_then g IsSame IsSame IsSame old mid new (λ d e f one two. two ∙ one) before (same refl)
imports_then g false badge day fields old mid new before same row = row_more g badge day fields old mid new before (row refl)

-- nothing was done
pub still_imports : {S : Type 0} (g : Ghosts S) (dry : Bool) (old new : Held S) (badge : List ℕ) (Days : ℤ → Type 0) → LeavesDesk g IsSame old new
    → LeavesDesk g (TakesUnlessDry dry badge Days) old new
still_imports g true old new badge Days leaves = leaves
still_imports g false old new badge Days leaves = record { lasts = leaves.lasts; reached = λ is_open. inl (leaves.reached is_open) }

-- ---- one row

-- a row whose file was read, and whose line was written
image_answered : {S : Type 0} (g : Ghosts S) (Gains : Option (List ℕ) → Option (List ℕ) → List ℕ → Type 0) (files : List ℕ → Option (List ℕ)) (flags : ImportFlags) (badge : List ℕ) (day : ℤ) (number : ℕ)
    (row : SheetRow) (bytes : List ℕ) (answer : Response) (outcome : RowOutcome) (shelf next : List Shelved) (out written : Option (List ℕ)) (before after : Held S)
    → IfSome (files row.file.now) (λ shown. bytes ≡ shown)
    → (flags.dry_run ≡ true → IsOpen g after → (desk g after ≡ desk g before) × WouldAnswer shelf next (desk g before) badge (shelved_row row) bytes answer)
    → (flags.dry_run ≡ false → IsOpen g after → IsAnswered (desk g before) day (put_of badge row bytes) answer (desk g after))
    → Gains out written (accession_line row.acc (word_by flags.dry_run answer)) → outcome ≡ outcome_by answer
    → (fields : List (List ℕ)) → Says fields row → ImportsOne g Gains files flags badge day number fields outcome shelf next out written before after
image_answered g Gains files flags badge day number row bytes answer outcome shelf next out written before after read dry wet gained is fields says = record {
  line = accession_line row.acc (word_by flags.dry_run answer);
  gained = gained;
  dry = λ is_dry is_open.
      let would = dry is_dry is_open in (
        would.0,
        λ mid beside. let left = would.1 day mid beside in (
          left.0,
          inr (inl (row, says, record { bytes = bytes; read = read; answer = answer; answered = left.1; line_is = refl; outcome_is = is })),
          left.2,
        ),
      );
  wet = λ is_wet is_open.
      inr (inl (row, says, record { bytes = bytes; read = read; answer = answer; answered = wet is_wet is_open; line_is = refl; outcome_is = is }));
}

module _ {S X : Type 0} (g : Ghosts S) (files : List ℕ → Option (List ℕ)) (flags : ImportFlags) (badge : List ℕ) (day : ℤ) (number : ℕ) (row : SheetRow) (bytes : List ℕ) where
  pub image_imported : (r : Result Response X) (told : Result RowOutcome Refusal) (shelf next : List Shelved) (out written : Option (List ℕ)) (before after : Held S)
      → IfSome (files row.file.now) (λ shown. bytes ≡ shown)
      → (flags.dry_run ≡ true → IsOpen g after → (desk g after ≡ desk g before) × IfOk r (WouldAnswer shelf next (desk g before) badge (shelved_row row) bytes))
      → (flags.dry_run ≡ false → IsOpen g after → IsResponse (desk g before) day (put_of badge row bytes) r (desk g after))
      → IfOk told (TellsOutcome row.acc flags.dry_run r out written)
      → IfOk told (λ outcome. (fields : List (List ℕ)) → Says fields row → ImportsOne g Appends files flags badge day number fields outcome shelf next out written before after)
  image_imported r (Err refusal) shelf next out written before after read dry wet tells = tt
  image_imported (Err fault) (Ok outcome) shelf next out written before after read dry wet tells = absurd tells
  image_imported (Ok answer) (Ok outcome) shelf next out written before after read dry wet tells =
      image_answered g Appends files flags badge day number row bytes answer outcome shelf next out written before after read dry wet tells.0 tells.1

  -- there was no answer, or its line was not written whole
  pub image_stops : (r : Result Response X) (told : Result RowOutcome Refusal) (shelf next : List Shelved) (out written : Option (List ℕ)) (before after : Held S)
      → IfSome (files row.file.now) (λ shown. bytes ≡ shown)
      → (flags.dry_run ≡ true → IsOpen g after → (desk g after ≡ desk g before) × IfOk r (WouldAnswer shelf next (desk g before) badge (shelved_row row) bytes))
      → (flags.dry_run ≡ false → IsOpen g after → IsResponse (desk g before) day (put_of badge row bytes) r (desk g after))
      → OnErr told (CutsOutcome row.acc flags.dry_run r out written)
      → OnErr told ((fields : List (List ℕ)) → Says fields row → StopsOne g files flags badge day number fields shelf next out written before after)
  image_stops r (Ok outcome) shelf next out written before after read dry wet cut = tt
  image_stops (Err fault) (Err refusal) shelf next out written before after read dry wet kept = λ fields says. inl (kept, λ is_open. go flags.dry_run refl is_open)
    where
      go : (is_dry : Bool) → flags.dry_run ≡ is_dry → IsOpen g after → desk g after ≡ desk g before
      go true is is_open = (dry is is_open).0
      go false is is_open = wet is is_open
  image_stops (Ok answer) (Err refusal) shelf next out written before after read dry wet cut = λ fields says.
      inr (outcome_by answer, image_answered g AppendsPart files flags badge day number row bytes answer (outcome_by answer) shelf next out written before after read dry wet cut refl fields says)

-- what is written where there is no answer
pub cuts_none : {X : Type 0} (acc : ℕ) (dry_run : Bool) (r : Result Response X) (out : Option (List ℕ)) → ((answer : Response) → r ≡ Ok answer → ⊥) → CutsOutcome acc dry_run r out out
cuts_none acc dry_run (Ok answer) out none = absurd (none answer refl)
cuts_none acc dry_run (Err fault) out none = Keeps-refl out

-- one whose file was not
pub lost_imported : {S : Type 0} (g : Ghosts S) (Gains : Option (List ℕ) → Option (List ℕ) → List ℕ → Type 0) (files : List ℕ → Option (List ℕ)) (flags : ImportFlags) (badge : List ℕ) (day : ℤ) (number : ℕ) (row : SheetRow) (fields : List (List ℕ))
    (shelf : List Shelved) (out written : Option (List ℕ)) (at : Held S) → flags.keep_going ≡ true → Says fields row → Gains out written (lost_row_line number)
    → ImportsOne g Gains files flags badge day number fields Lost shelf shelf out written at at
lost_imported g Gains files flags badge day number row fields shelf out written at going says gained = record {
  line = lost_row_line number;
  gained = gained;
  dry = λ dry is_open. (refl, λ mid beside. (mid, inr (inr (going, ((row, says), (refl, (refl, refl))))), beside));
  wet = λ wet is_open. inr (inr (going, ((row, says), (refl, (refl, refl)))));
}

-- one that is bad
pub bad_imported : {S : Type 0} (g : Ghosts S) (Gains : Option (List ℕ) → Option (List ℕ) → List ℕ → Type 0) (files : List ℕ → Option (List ℕ)) (flags : ImportFlags) (badge : List ℕ) (day : ℤ) (number : ℕ) (fields : List (List ℕ))
    (shelf : List Shelved) (out written : Option (List ℕ)) (at : Held S) → IsBad fields → Gains out written (bad_row_line number)
    → ImportsOne g Gains files flags badge day number fields Denied shelf shelf out written at at
bad_imported g Gains files flags badge day number fields shelf out written at bad gained = record {
  line = bad_row_line number;
  gained = gained;
  dry = λ dry is_open. (refl, λ mid beside. (mid, inl (bad, (refl, (refl, refl))), beside));
  wet = λ wet is_open. inl (bad, (refl, (refl, refl)));
}

-- ---- the sheet

module _ {S : Type 0} (g : Ghosts S) (files other : List ℕ → Option (List ℕ)) (flags : ImportFlags) (Days : ℤ → Type 0) (shown : Option (List ℕ)) (out written : Option (List ℕ)) (r : Result Ending Refusal) where
  -- the rows that were taken on a day, over the desk that was read before
  pub imported_on : (b badge bytes : List ℕ) (day : ℤ) (old mid new : Held S) (outcome : RowOutcome) → other ≡ files → LeavesDesk g IsSame old mid → (IsOpen g new → IsOpen g mid) → Days day → b ≡ badge
      → IfSome shown (λ sheet. bytes ≡ sheet) → ImportsRows g other flags b day bytes out written outcome mid new → IfOk r (λ done. outcome ≡ rows_outcome done)
      → IfOk r (λ done. ImportsOn g files flags badge Days shown out written done old new)
  imported_on b badge bytes day old mid new outcome same_files same was at same_badge is rows ends = elim r as (λ r. IfOk r (λ done. outcome ≡ rows_outcome done) → IfOk r (λ done. ImportsOn g files flags badge Days shown out written done old new)) [
    | Err refusal ↦ λ ends. tt
    | Ok done ↦ λ ends is_open. (
      day,
      at,
      of_shown shown badge day old new (rows_outcome done) bytes is
          (subst (λ f. ImportsSheet files flags badge day (Some bytes) out written f (desk g old) (desk g new)) ends
          (subst (λ x. ImportsSheet files flags x day (Some bytes) out written outcome (desk g old) (desk g new)) same_badge
          (subst (λ f. ImportsSheet f flags b day (Some bytes) out written outcome (desk g old) (desk g new)) same_files
          (subst (λ d. ImportsSheet other flags b day (Some bytes) out written outcome d (desk g new)) (same.reached (was is_open)) (rows is_open))))),
    )
  ] ends
    where
      of_shown : (shown : Option (List ℕ)) (badge : List ℕ) (day : ℤ) (old new : Held S) (outcome : RowOutcome) (bytes : List ℕ) → IfSome shown (λ sheet. bytes ≡ sheet)
          → ImportsSheet files flags badge day (Some bytes) out written outcome (desk g old) (desk g new) → ImportsSheet files flags badge day shown out written outcome (desk g old) (desk g new)
      of_shown None badge day old new outcome bytes is whole = record { rows = whole.rows; lines = whole.lines; left = whole.left; is = tt; taken = whole.taken; stands = whole.stands; gained = whole.gained }
      of_shown (Some sheet) badge day old new outcome bytes is whole = subst (λ b. ImportsSheet files flags badge day (Some b) out written outcome (desk g old) (desk g new)) is whole

  -- over the desk that was opened
  pub import_ended : (badge : List ℕ) (Others : ℤ → Type 0) (there : Option (List ℕ)) (old new : Option (Held S)) (opened last conn : Held S) → other ≡ files → there ≡ shown
      → ((day : ℤ) → Others day → Days day) → IfSome old (λ before. IsMigrated g before opened) → Lasts g opened last → conn ≡ last → IfSome new (λ held. Some conn ≡ Some held)
      → IfOk r (λ done. ImportsOn g other flags badge Others there out written done opened last)
      → IfOk r (λ done. EndsWith old new (ImportsSheetIn g files flags badge Days shown out written done))
  import_ended badge Others there old new opened last conn same here weaker is lasts back took holds = elim r as (λ r. IfOk r (λ done. ImportsOn g other flags badge Others there out written done opened last)
      → IfOk r (λ done. EndsWith old new (ImportsSheetIn g files flags badge Days shown out written done))) [
        | Err refusal ↦ λ holds. tt
        | Ok done ↦ λ holds. ends_with g old new opened last conn (ImportsSheetIn g files flags badge Days shown out written done) is
            (λ before at o. let found = holds o in (
              desk g opened,
              at.is (lasts.was_open o),
              (
                found.0,
                weaker found.0 found.1,
                subst (λ f. ImportsSheet f flags badge found.0 shown out written (rows_outcome done) (desk g opened) (desk g last)) same
                    (subst (λ s. ImportsSheet other flags badge found.0 s out written (rows_outcome done) (desk g opened) (desk g last)) here found.2),
              ),
            )) back took
      ] holds

-- a sheet whose rows were all taken
pub whole_front : (files : List ℕ → Option (List ℕ)) (flags : ImportFlags) (badge : List ℕ) (day : ℤ) (sheet : List ℕ) (out written : Option (List ℕ)) (outcome : RowOutcome) (stood after : Desk)
    → ImportsSheet files flags badge day (Some sheet) out written outcome stood after → ImportsFront files flags badge day (Some sheet) out written stood after
whole_front files flags badge day sheet out written outcome stood after all = record {
  rows = all.rows;
  lines = all.lines;
  outcome = outcome;
  left = all.left;
  begins = (all.is.last, all.is.rest, all.is.has, all.is.fit);
  taken = all.taken;
  stands = all.stands;
  gained = inl all.gained;
}

front_shown : (files : List ℕ → Option (List ℕ)) (flags : ImportFlags) (badge : List ℕ) (day : ℤ) (out written : Option (List ℕ)) (shown : Option (List ℕ)) (bytes : List ℕ) (stood after : Desk)
    → IfSome shown (λ sheet. bytes ≡ sheet) → ImportsFront files flags badge day (Some bytes) out written stood after → ImportsFront files flags badge day shown out written stood after
front_shown files flags badge day out written None bytes stood after is front = record {
  rows = front.rows;
  lines = front.lines;
  outcome = front.outcome;
  left = front.left;
  begins = tt;
  taken = front.taken;
  stands = front.stands;
  gained = front.gained;
}
front_shown files flags badge day out written (Some sheet) bytes stood after is front = subst (λ b. ImportsFront files flags badge day (Some b) out written stood after) is front

module _ {S : Type 0} (g : Ghosts S) (files other : List ℕ → Option (List ℕ)) (flags : ImportFlags) (Days : ℤ → Type 0) (shown : Option (List ℕ)) (out written : Option (List ℕ)) where
  -- a run that ends before the last row, over the desk that was read before
  pub stops_on : (b badge bytes : List ℕ) (day : ℤ) (old mid new : Held S) → other ≡ files → LeavesDesk g IsSame old mid → (IsOpen g new → IsOpen g mid) → Days day → b ≡ badge
      → IfSome shown (λ sheet. bytes ≡ sheet) → StopsRows g other flags b day bytes out written mid new → StopsOn g files flags badge Days shown out written old new
  stops_on b badge bytes day old mid new same_files same was at same_badge is (inl none) = inl (none.0, desk_then g IsSame IsSame IsSame old mid new (λ d e f one two. two ∙ one) same none.1)
  stops_on b badge bytes day old mid new same_files same was at same_badge is (inr rows) = inr (λ is_open. (
    day,
    at,
    front_shown files flags badge day out written shown bytes (desk g old) (desk g new) is
        (subst (λ x. ImportsFront files flags x day (Some bytes) out written (desk g old) (desk g new)) same_badge
        (subst (λ f. ImportsFront f flags b day (Some bytes) out written (desk g old) (desk g new)) same_files
        (subst (λ d. ImportsFront other flags b day (Some bytes) out written d (desk g new)) (same.reached (was is_open)) (rows is_open)))),
  ))

  -- over the desk that was opened
  pub stop_ended : (r : Result Ending Refusal) (badge : List ℕ) (Others : ℤ → Type 0) (there : Option (List ℕ)) (was old new : Option (Held S)) (opened last conn : Held S) → other ≡ files
      → there ≡ shown → ((day : ℤ) → Others day → Days day) → IfSome old (λ before. IsMigrated g before opened) → Lasts g opened last → conn ≡ last
      → IfSome new (λ held. Some conn ≡ Some held) → OnErr r (StopsOn g other flags badge Others there out written opened last)
      → OnErr r (StopsSheetIn g files flags badge Days shown out written was old new)
  stop_ended (Ok done) badge Others there was old new opened last conn same here weaker is lasts back took stops = tt
  stop_ended (Err refusal) badge Others there was old new opened last conn same here weaker is lasts back took (inl none) =
      inl (none.0, desk_left g was old new IsSame opened last conn is none.1 back took)
  stop_ended (Err refusal) badge Others there was old new opened last conn same here weaker is lasts back took (inr holds) =
      inr (ends_with g old new opened last conn
      (λ before last. IsOpen g last → (stood : Desk) × SpellsDesk (state g before).now stood × ((day : ℤ) × Days day × ImportsFront files flags badge day shown out written stood (desk g last))) is
      (λ before at o. let found = holds o in (
        desk g opened,
        at.is (lasts.was_open o),
        (
          found.0,
          weaker found.0 found.1,
          subst (λ f. ImportsFront f flags badge found.0 shown out written (desk g opened) (desk g last)) same
              (subst (λ s. ImportsFront other flags badge found.0 s out written (desk g opened) (desk g last)) here found.2),
        ),
      )) back took)

-- no row is taken in where none is to be, and otherwise rows on the day
pub imports_from : {S : Type 0} (g : Ghosts S) (dry : Bool) (old mid new : Held S) (b badge : List ℕ) (day : ℤ) (Days : ℤ → Type 0) → LeavesDesk g IsSame old mid → Days day → b ≡ badge
    → LeavesDesk g (TakesUnlessDry dry b (λ d. d ≡ day)) mid new → LeavesDesk g (TakesUnlessDry dry badge Days) old new
imports_from g true old mid new b badge day Days same at same_badge leaves = desk_then g IsSame IsSame IsSame old mid new (λ d e f one two. two ∙ one) same leaves
imports_from g false old mid new b badge day Days same at same_badge leaves = takes_from g old mid new same leaves.lasts Days day b badge at same_badge leaves

-- ---- what is there

pub some_is : {A : Type 0} (o : Option A) (P : A → Type 0) (it : A) → o ≡ Some it → IfSome o P → P it
some_is (Some other) P it is holds = subst P (cc is) holds
some_is None P it is holds = absurd (cc is)

pub none_is : {A P : Type 0} (o : Option A) → o ≡ None → IfNone o P → P
none_is (Some other) is holds = absurd (cc is)
none_is None is holds = holds

-- an answer that is no refusal
pub outcome_answer : (answer : Response) (dry_run : Bool) → ((refusal : DeskRefusal) → answer ≡ Refused refusal → ⊥) → (Done ≡ outcome_by answer) × (done_word dry_run ≡ word_by dry_run answer)
outcome_answer (Refused refusal) dry_run other = absurd (other refusal refl)
outcome_answer answer dry_run other = (refl, refl)

-- the connection lasts, whether a row is taken in or not
pub imports_lasts : {S : Type 0} (g : Ghosts S) (dry : Bool) (Other : Desk → Desk → Type 0) (old new : Held S) → (dry ≡ true → LeavesDesk g IsSame old new)
    → (dry ≡ false → LeavesDesk g Other old new) → Lasts g old new
imports_lasts g true Other old new same row = (same refl).lasts
imports_lasts g false Other old new same row = (row refl).lasts
