-- The checks after a day, and the columns for a check.
use Rattle.std.specs.Prelude.{◌≡◌, ◌≢◌, ◌==◌, ℕ, ℤ, pos, Bool, List, [], ◌∷◌, int_lt}
use Rattle.std.specs.FinMap.{entries, retain_keys}
use Rattle.sqlite.specs.declared.types.Value.TheVariants.{Int}
use Rattle.sqlite.specs.Order.{Row, column}
use Rattle.sqlite_rules.specs.Edit.{id_in}
use Rattle.rd_tables.specs.Spellings.{natural}
use Rattle.rd_holdings.specs.State.{Checkup, Desk}
use Rattle.rd_holdings.specs.declared.rows.Finding.{Finding}
use Rattle.rd_holdings.specs.declared.rows.Outcome.{Outcome}
use Rattle.rd_store.specs.Codes.{outcome_code, outcome_in}

-- a check of a later day than this one
abbrev pub is_after : ℤ → Checkup → Bool
is_after day checkup = int_lt day checkup.day

-- the checks of later days than this one that are recorded, by accession and day
abbrev pub checks_after : ℤ → Desk → List (Checkup × Outcome)
checks_after day desk = entries (retain_keys desk.checks (is_after day))

-- a check of a later day than this one is recorded
abbrev pub HasCheckAfter : ℤ → Desk → Type 0
HasCheckAfter day desk = checks_after day desk ≢ []

-- no check of a later day than this one is recorded
abbrev pub HasNoCheckAfter : ℤ → Desk → Type 0
HasNoCheckAfter day desk = checks_after day desk ≡ []

-- ---- inside

-- the accession and the day of a check
abbrev pub checkup_shown : Checkup × Outcome → Row
checkup_shown e = Int (pos e.0.acc) ∷ Int e.0.day ∷ []

-- a check of the accession
abbrev pub is_of : ℕ → Checkup → Bool
is_of acc checkup = checkup.acc == acc

-- the columns for a check of one accession
abbrev pub check_shown : Checkup × Outcome → Row
check_shown e = Int e.0.day ∷ Int (pos (outcome_code e.1)) ∷ []

-- the day and the outcome that such columns describe
abbrev pub finding_in : Row → Finding
finding_in row = record { day = id_in (column row 0); outcome = outcome_in (natural (column row 1)) }
