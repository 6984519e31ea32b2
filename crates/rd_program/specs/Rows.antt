-- The rows of a sheet.
use Rattle.std.specs.Prelude.{◌≡◌, ⊤, ℕ, All, List, [], ◌∷◌, None, Some, length}
use Rattle.csv.specs.Machine.{next_record}
use Rattle.csv.specs.Reading.{default_config, strip_bom}
use Rattle.csv.specs.declared.parser.State.{State}
use Rattle.csv.specs.declared.parser.State.TheVariants.{StartRecord}
use Rattle.rd_commands.specs.Sheets.{header}
use Rattle.rd_commands.specs.declared.refusal.Refusal.{Refusal}
use Rattle.rd_commands.specs.declared.refusal.Refusal.TheVariants.{BadSheet}

-- ---- the rows

-- The reader of CSV, in its first state at the bytes, takes these records in turn, and is then in the last state, with
-- the rest to come.
abbrev pub TakesRecords : State → List ℕ → List (List (List ℕ)) → State → List ℕ → Type 0
TakesRecords first bytes [] last rest = (last ≡ first) × (rest ≡ bytes)
TakesRecords first bytes (fields ∷ more) last rest =
    (next : State) × (left : List ℕ) × (next_record default_config first [] [] bytes ≡ Some (fields, next, left)) × TakesRecords next left more last rest

-- The bytes of a sheet begin with the names of its columns and these rows.
abbrev pub HasRows : List ℕ → List (List (List ℕ)) → State → List ℕ → Type 0
HasRows sheet rows last rest = TakesRecords StartRecord (strip_bom sheet) (header ∷ rows) last rest

-- The bytes of a sheet are the names of its columns and these rows, each with as many fields as there are columns.
pub record IsSheetOf (sheet : List ℕ) (rows : List (List (List ℕ))) : Type 0 where
  pub last : State
  pub rest : List ℕ
  pub has : HasRows sheet rows last rest
  pub ends : next_record default_config last [] [] rest ≡ None
  pub fit : All (λ fields. length fields ≡ length header) rows

-- `bad-sheet` comes only of bytes that are no sheet
abbrev pub IsBadSheetDue : List ℕ → Refusal → Type 0
IsBadSheetDue sheet BadSheet = (rows : List (List (List ℕ))) → ¬ IsSheetOf sheet rows
IsBadSheetDue sheet refusal = ⊤
