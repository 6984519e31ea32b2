-- What becomes of the rows of a sheet, by the flags of `import`: the line of each, and the desk after it. In a dry run the
-- desks after the first are what the desk would be, and nobody keeps them.
use Rattle.std.specs.Prelude.{◌≡◌, ◌⊎◌, ◌+◌, ◌++◌, ℕ, ℤ, All, Bool, Err, IfSome, List, [], ◌∷◌, Ok, Option, Result, Some, false, length, true}
use Rattle.std.specs.Io.KnownBytes.{Appends, Keeps}
use Rattle.std.specs.List.{concat}
use Rattle.sqlite.specs.Held.{Held, state}
use Rattle.sqlite.specs.Store.{Ghosts}
use Rattle.rd_store.specs.Held.{IsOpen, desk}
use Rattle.rd_store.specs.Migrated.{SpellsDesk}
use Rattle.rd_holdings.specs.State.{Desk}
use Rattle.rd_protocol.specs.Refusals.{name_of}
use Rattle.rd_protocol.specs.Replies.{IsAnswered}
use Rattle.rd_protocol.specs.declared.request.Request.{Request}
use Rattle.rd_protocol.specs.declared.request.What.TheVariants.{PutImage}
use Rattle.rd_protocol.specs.declared.response.Response.{Response}
use Rattle.rd_protocol.specs.declared.response.Response.TheVariants.{Refused}
use Rattle.csv.specs.declared.parser.State.{State}
use Rattle.rd_commands.specs.Output.{AppendsPart}
use Rattle.rd_commands.specs.Sheets.{IsBad, Says, header}
use Rattle.rd_commands.specs.declared.sheet.SheetRow.{SheetRow}
use Rattle.rd_desk.specs.Shelving.{StandsBeside}
use Rattle.rd_desk.specs.declared.would_take.Shelved.{Shelved}
use Rattle.rd_program.specs.Importing.{accession_line, bad_row_line, done_word, lost_row_line}
use Rattle.rd_commands.specs.declared.done.Done.{Done as Ending}
use Rattle.rd_commands.specs.declared.done.Done.TheVariants.{InPart, Whole}
use Rattle.rd_program.specs.Leaves.{IsSame, LeavesDesk, LeavesStore, Leaves}
use Rattle.rd_program.specs.Rows.{HasRows, IsSheetOf}
use Rattle.rd_program.specs.Showing.{EndsWith}
use Rattle.rd_program.specs.declared.import.RowOutcome.{RowOutcome}
use Rattle.rd_program.specs.declared.import.RowOutcome.TheVariants.{Denied, Done, Lost}
use Rattle.rd_program.specs.declared.import.ImportFlags.{ImportFlags}

-- of rows together: a lost one counts more than a refused one, and that more than one that is done
abbrev pub worse : RowOutcome → RowOutcome → RowOutcome
worse Done other = other
worse Denied Done = Denied
worse Denied other = other
worse Lost other = Lost

-- what the line of an accession says of an answer: that it is done, or would be, or the name of the refusal
abbrev pub word_by : Bool → Response → List ℕ
word_by dry_run (Refused refusal) = name_of refusal
word_by dry_run answer = done_word dry_run

abbrev pub outcome_by : Response → RowOutcome
outcome_by (Refused refusal) = Denied
outcome_by answer = Done

-- The desk answers the request to take in the image that a row names, with the bytes that the machine gives of its file.
pub record ImportsImage (files : List ℕ → Option (List ℕ)) (dry_run : Bool) (badge : List ℕ) (day : ℤ) (row : SheetRow) (line : List ℕ) (outcome : RowOutcome) (old new : Desk) : Type 0 where
  pub bytes : List ℕ
  pub read : IfSome (files row.file.now) (λ shown. bytes ≡ shown)
  pub answer : Response
  pub answered : IsAnswered old day (record { badge = Some badge; what = PutImage row.acc row.kind row.deed row.digest bytes }) answer new
  pub line_is : line ≡ accession_line row.acc (word_by dry_run answer)
  pub outcome_is : outcome ≡ outcome_by answer

-- A row with this number, from 1, is bad; or the desk answers about its image; or, where the run goes on after files, its
-- line says that its file was not read (no clause says that it could not be), and the desk is as it was.
abbrev pub IsRowImported : (List ℕ → Option (List ℕ)) → ImportFlags → List ℕ → ℤ → ℕ → List (List ℕ) → List ℕ → RowOutcome → Desk → Desk → Type 0
IsRowImported files flags badge day number fields line outcome old new =
    (IsBad fields × ((line ≡ bad_row_line number) × ((outcome ≡ Denied) × (new ≡ old))))
    ⊎ (((row : SheetRow) × Says fields row × ImportsImage files flags.dry_run badge day row line outcome old new)
    ⊎ ((flags.keep_going ≡ true) × (((row : SheetRow) × Says fields row) × ((line ≡ lost_row_line number) × ((outcome ≡ Lost) × (new ≡ old))))))

-- These rows are taken in turn: each has its line, and finds the desk that the one before it left.
abbrev pub AreRowsImported : (List ℕ → Option (List ℕ)) → ImportFlags → List ℕ → ℤ → ℕ → List (List (List ℕ)) → List (List ℕ) → RowOutcome → Desk → Desk → Type 0
AreRowsImported files flags badge day number [] [] outcome old new = (outcome ≡ Done) × (new ≡ old)
AreRowsImported files flags badge day number (fields ∷ more) (line ∷ lines) outcome old new =
    (mid : Desk) × (one : RowOutcome) × (others : RowOutcome) × IsRowImported files flags badge day number fields line one old mid
    × AreRowsImported files flags badge day (number + 1) more lines others mid new × (outcome ≡ worse one others)
AreRowsImported files flags badge day number rows lines outcome old new = ⊥

-- the desk that stands after all rows: the one that they leave, or, where nothing is taken in, the one that stood
abbrev pub StandsAfter : Bool → Desk → Desk → Desk → Type 0
StandsAfter false stood left after = after ≡ left
StandsAfter true stood left after = after ≡ stood

-- The rows of a sheet are taken so, for a caller with this badge on a day, their lines are written, in order, and the desk
-- is as it should be.
pub record ImportsSheet (files : List ℕ → Option (List ℕ)) (flags : ImportFlags) (badge : List ℕ) (day : ℤ) (sheet : Option (List ℕ)) (out written : Option (List ℕ)) (outcome : RowOutcome)
    (stood after : Desk) : Type 0 where
  pub rows : List (List (List ℕ))
  pub lines : List (List ℕ)
  pub left : Desk
  pub is : IfSome sheet (λ bytes. IsSheetOf bytes rows)
  pub taken : AreRowsImported files flags badge day 1 rows lines outcome stood left
  pub stands : StandsAfter flags.dry_run stood left after
  pub gained : Appends out written (concat lines)

-- lines were written whole, one after the other, and of this one a front part, perhaps nothing or all of it
pub record CutsLast (lines : List (List ℕ)) (out written : Option (List ℕ)) : Type 0 where
  pub whole : List (List ℕ)
  pub line : List ℕ
  pub between : Option (List ℕ)
  pub all : lines ≡ whole ++ line ∷ []
  pub gained : Appends out between (concat whole)
  pub part : AppendsPart between written line

-- The first rows of a sheet, perhaps all, are taken so, and then the run ends: their lines are written, that of the last
-- perhaps in part, and nothing is done about the rows after them.
pub record ImportsFront (files : List ℕ → Option (List ℕ)) (flags : ImportFlags) (badge : List ℕ) (day : ℤ) (sheet : Option (List ℕ)) (out written : Option (List ℕ)) (stood after : Desk) : Type 0 where
  pub rows : List (List (List ℕ))
  pub lines : List (List ℕ)
  pub outcome : RowOutcome
  pub left : Desk
  pub begins : IfSome sheet (λ bytes. (last : State) × (rest : List ℕ) × HasRows bytes rows last rest × All (λ fields. length fields ≡ length header) rows)
  pub taken : AreRowsImported files flags badge day 1 rows lines outcome stood left
  pub stands : StandsAfter flags.dry_run stood left after
  pub gained : Appends out written (concat lines) ⊎ CutsLast lines out written

-- what became of all rows where the command ends well
abbrev pub rows_outcome : Ending → RowOutcome
rows_outcome Whole = Done
rows_outcome InPart = Denied

-- While the connection is open, the rows of a sheet are taken so on one of these days by the desk that stood in the store,
-- and this one stands after them.
abbrev pub ImportsSheetIn : {S : Type 0} → Ghosts S → (List ℕ → Option (List ℕ)) → ImportFlags → List ℕ → (ℤ → Type 0) → Option (List ℕ) → Option (List ℕ) → Option (List ℕ) → Ending
    → Held S → Held S → Type 0
ImportsSheetIn g files flags badge Days sheet out written done before last =
    IsOpen g last → (stood : Desk) × SpellsDesk (state g before).now stood
    × ((day : ℤ) × Days day × ImportsSheet files flags badge day sheet out written (rows_outcome done) stood (desk g last))

-- Where the command does not end well, nothing was taken in and nothing written; or, while the connection is open, the
-- first rows, perhaps all, are taken so by the desk that stood, and this one stands after them.
abbrev pub StopsSheetIn : {S : Type 0} → Ghosts S → (List ℕ → Option (List ℕ)) → ImportFlags → List ℕ → (ℤ → Type 0) → Option (List ℕ) → Option (List ℕ) → Option (List ℕ)
    → Option (Held S) → Option (Held S) → Option (Held S) → Type 0
StopsSheetIn g files flags badge Days sheet out written was stood left =
    (Keeps out written × Leaves was stood left (LeavesStore g IsSame))
    ⊎ EndsWith stood left (λ before last. IsOpen g last → (desk_before : Desk) × SpellsDesk (state g before).now desk_before
    × ((day : ℤ) × Days day × ImportsFront files flags badge day sheet out written desk_before (desk g last)))

-- ---- one row, over a connection

-- there was an answer, and the line that says it was written
abbrev pub TellsOutcome : {X : Type 0} → ℕ → Bool → Result Response X → Option (List ℕ) → Option (List ℕ) → RowOutcome → Type 0
TellsOutcome acc dry_run (Ok answer) out written outcome = Appends out written (accession_line acc (word_by dry_run answer)) × (outcome ≡ outcome_by answer)
TellsOutcome acc dry_run (Err fault) out written outcome = ⊥

-- a front part of the line was written, perhaps all; or there was no answer, and nothing was written
abbrev pub CutsOutcome : {X : Type 0} → ℕ → Bool → Result Response X → Option (List ℕ) → Option (List ℕ) → Type 0
CutsOutcome acc dry_run (Ok answer) out written = AppendsPart out written (accession_line acc (word_by dry_run answer))
CutsOutcome acc dry_run (Err fault) out written = Keeps out written

-- A line was written of a row, whole or in part, and says what became of it. In a dry run that is so of each desk that stands beside the shelf, and
-- what it leaves stands beside the new shelf, while the desk that stands is as it was; else it is so of the desk that stands.
pub record ImportsOne {S : Type 0} (g : Ghosts S) (Gains : Option (List ℕ) → Option (List ℕ) → List ℕ → Type 0) (files : List ℕ → Option (List ℕ)) (flags : ImportFlags) (badge : List ℕ) (day : ℤ) (number : ℕ) (fields : List (List ℕ)) (outcome : RowOutcome)
    (shelf next : List Shelved) (out written : Option (List ℕ)) (before after : Held S) : Type 0 where
  pub line : List ℕ
  pub gained : Gains out written line
  pub dry : flags.dry_run ≡ true → IsOpen g after → (desk g after ≡ desk g before) × ((mid : Desk) → StandsBeside shelf (desk g before) mid
      → (last : Desk) × IsRowImported files flags badge day number fields line outcome mid last × StandsBeside next (desk g before) last)
  pub wet : flags.dry_run ≡ false → IsOpen g after → IsRowImported files flags badge day number fields line outcome (desk g before) (desk g after)

-- Nothing was done about a row, and nothing written of it; or a front part of its line was written, perhaps all.
abbrev pub StopsOne : {S : Type 0} → Ghosts S → (List ℕ → Option (List ℕ)) → ImportFlags → List ℕ → ℤ → ℕ → List (List ℕ) → List Shelved → List Shelved → Option (List ℕ) → Option (List ℕ)
    → Held S → Held S → Type 0
StopsOne g files flags badge day number fields shelf next out written before after =
    (Keeps out written × (IsOpen g after → desk g after ≡ desk g before))
    ⊎ ((outcome : RowOutcome) × ImportsOne g AppendsPart files flags badge day number fields outcome shelf next out written before after)

-- the image of a row, without its bytes
abbrev pub shelved_row : SheetRow → Shelved
shelved_row row = record { acc = row.acc; kind = row.kind; deed = row.deed; digest = row.digest }

-- the request to take in the image of a row
abbrev pub put_of : List ℕ → SheetRow → List ℕ → Request
put_of badge row bytes = record { badge = Some badge; what = PutImage row.acc row.kind row.deed row.digest bytes }

-- ---- all rows, over a connection

-- The rows of a sheet are taken so by the desk that stands, and their lines are written.
abbrev pub ImportsRows : {S : Type 0} → Ghosts S → (List ℕ → Option (List ℕ)) → ImportFlags → List ℕ → ℤ → List ℕ → Option (List ℕ) → Option (List ℕ) → RowOutcome → Held S → Held S → Type 0
ImportsRows g files flags badge day sheet out written outcome before after =
    IsOpen g after → ImportsSheet files flags badge day (Some sheet) out written outcome (desk g before) (desk g after)

-- So are those of a sheet that a machine may show, on one of these days.
abbrev pub ImportsOn : {S : Type 0} → Ghosts S → (List ℕ → Option (List ℕ)) → ImportFlags → List ℕ → (ℤ → Type 0) → Option (List ℕ) → Option (List ℕ) → Option (List ℕ) → Ending
    → Held S → Held S → Type 0
ImportsOn g files flags badge Days sheet out written done before after =
    IsOpen g after → (day : ℤ) × Days day × ImportsSheet files flags badge day sheet out written (rows_outcome done) (desk g before) (desk g after)

-- Nothing was taken in and nothing written; or the first rows are taken so by the desk that stands.
abbrev pub StopsRows : {S : Type 0} → Ghosts S → (List ℕ → Option (List ℕ)) → ImportFlags → List ℕ → ℤ → List ℕ → Option (List ℕ) → Option (List ℕ) → Held S → Held S → Type 0
StopsRows g files flags badge day sheet out written before after =
    (Keeps out written × LeavesDesk g IsSame before after)
    ⊎ (IsOpen g after → ImportsFront files flags badge day (Some sheet) out written (desk g before) (desk g after))

abbrev pub StopsOn : {S : Type 0} → Ghosts S → (List ℕ → Option (List ℕ)) → ImportFlags → List ℕ → (ℤ → Type 0) → Option (List ℕ) → Option (List ℕ) → Option (List ℕ) → Held S → Held S → Type 0
StopsOn g files flags badge Days sheet out written before after =
    (Keeps out written × LeavesDesk g IsSame before after)
    ⊎ (IsOpen g after → (day : ℤ) × Days day × ImportsFront files flags badge day sheet out written (desk g before) (desk g after))
