-- The lines that `import` writes, and why it fails.
use Rattle.std.specs.Prelude.{◌≡◌, ◌⊎◌, ℕ, Bool, List, Option, All, ◌++◌, codes, false, true}
use Rattle.std.specs.Fmt.{decimal}
use Rattle.std.specs.Io.KnownBytes.{Appends, Keeps}
use Rattle.std.specs.List.{concat}
use Rattle.rd_commands.specs.Output.{AppendsPart}
use Rattle.rd_commands.specs.Printed.{line_feed}
use Rattle.rd_program.specs.Serving.{IsClockRefusal, IsOpenRefusal}
use Rattle.rd_commands.specs.declared.refusal.Refusal.{Refusal}
use Rattle.rd_commands.specs.declared.refusal.Refusal.TheVariants.{BadSheet, Device, NoMemory, Store}
use Rattle.rd_program.specs.declared.import.RowOutcome.{RowOutcome}
use Rattle.rd_program.specs.declared.import.RowOutcome.TheVariants.{Done}

-- the line of an accession, which says in a word what became of it
abbrev pub accession_line : ℕ → List ℕ → List ℕ
accession_line acc word = decimal acc ++ (codes " " ++ (word ++ line_feed))

-- the line that says in a word what became of the row with this number, from 1
abbrev pub row_line : ℕ → List ℕ → List ℕ
row_line number word = codes "row " ++ (decimal number ++ (codes " " ++ (word ++ line_feed)))

-- it is bad
abbrev pub bad_row_line : ℕ → List ℕ
bad_row_line number = row_line number (codes "bad-row")

-- its file cannot be read
abbrev pub lost_row_line : ℕ → List ℕ
lost_row_line number = row_line number (codes "device")

-- what the line of an accession says of an image that is taken in, or would be
abbrev pub done_word : Bool → List ℕ
done_word false = codes "done"
done_word true = codes "would-be-done"

-- a line that says that an image is taken in, or would be
abbrev pub IsDoneLine : Bool → List ℕ → Type 0
IsDoneLine dry_run line = (acc : ℕ) × (line ≡ accession_line acc (done_word dry_run))

-- a line that says what became of a row
abbrev pub IsRowLine : List ℕ → Type 0
IsRowLine line =
    ((acc : ℕ) × (word : List ℕ) × (line ≡ accession_line acc word)) ⊎ ((number : ℕ) × ((line ≡ bad_row_line number) ⊎ (line ≡ lost_row_line number)))

-- A writer has gained lines for which this holds.
pub record GainsLines (P : List ℕ → Type 0) (old new : Option (List ℕ)) : Type 0 where
  pub lines : List (List ℕ)
  pub each : All P lines
  pub gained : Appends old new (concat lines)

-- A writer has gained a front part of lines that say what became of rows.
pub record GainsFront (old new : Option (List ℕ)) : Type 0 where
  pub lines : List (List ℕ)
  pub each : All IsRowLine lines
  pub gained : AppendsPart old new (concat lines)

-- A writer has gained one line for which this holds.
pub record GainsLine (P : List ℕ → Type 0) (old new : Option (List ℕ)) : Type 0 where
  pub line : List ℕ
  pub is : P line
  pub gained : Appends old new line

-- A writer has gained a front part of one line that says what became of a row.
pub record GainsFrontOfLine (old new : Option (List ℕ)) : Type 0 where
  pub line : List ℕ
  pub is : IsRowLine line
  pub gained : AppendsPart old new line

-- the lines of rows: if all was done, or would be, each line says so
abbrev pub TellsRows : Bool → Option (List ℕ) → Option (List ℕ) → RowOutcome → Type 0
TellsRows dry_run old new Done = GainsLines (IsDoneLine dry_run) old new
TellsRows dry_run old new other = GainsLines IsRowLine old new

-- the line of one row
abbrev pub TellsRow : Bool → Option (List ℕ) → Option (List ℕ) → RowOutcome → Type 0
TellsRow dry_run old new Done = GainsLine (IsDoneLine dry_run) old new
TellsRow dry_run old new other = GainsLine IsRowLine old new

-- the device failed, memory ran out, or the store failed
abbrev pub IsRowRefusal : Refusal → Type 0
IsRowRefusal refusal = (refusal ≡ Device) ⊎ ((refusal ≡ NoMemory) ⊎ (refusal ≡ Store))

-- why a run ends at a row, and what was written of its line then
abbrev pub RefusesRow : Option (List ℕ) → Option (List ℕ) → Refusal → Type 0
RefusesRow old new refusal = IsRowRefusal refusal × GainsFrontOfLine old new

-- Why a run over the rows of a sheet ends early, and what was written then: the lines of the rows before a row of
-- another length; or, where the device, memory or the store failed, a front part of the lines of rows, perhaps all.
abbrev pub RefusesRows : Option (List ℕ) → Option (List ℕ) → Refusal → Type 0
RefusesRows old new refusal = ((refusal ≡ BadSheet) × GainsLines IsRowLine old new) ⊎ (IsRowRefusal refusal × GainsFront old new)

-- why a sheet is not begun
abbrev pub IsImportRefusal : Refusal → Type 0
IsImportRefusal refusal = IsOpenRefusal refusal ⊎ (IsClockRefusal refusal ⊎ (refusal ≡ Device))

-- Why `import` fails, and what was written then: nothing if the sheet was not begun.
abbrev pub RefusesImport : Option (List ℕ) → Option (List ℕ) → Refusal → Type 0
RefusesImport old new refusal = RefusesRows old new refusal ⊎ (IsImportRefusal refusal × Keeps old new)
