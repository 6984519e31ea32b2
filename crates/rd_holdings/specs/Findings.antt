-- What checks of images found.
use Rattle.std.specs.Prelude.{ℕ, ◌-◌, List, ◌==◌, Option, codes, length, option_map, slice_get}
use Rattle.std.specs.FinMap.{entries, retain_keys}
use Rattle.rd_holdings.specs.State.{Checkup, Desk}
use Rattle.rd_holdings.specs.declared.rows.Finding.{Finding}
use Rattle.rd_holdings.specs.declared.rows.Outcome.{Outcome}
use Rattle.rd_holdings.specs.declared.rows.Outcome.TheVariants as outcome

-- the word for the outcome of a check
abbrev pub outcome_word : Outcome → List ℕ
outcome_word outcome.Sound = codes "sound"
outcome_word outcome.Changed = codes "changed"

-- what an entry of the checks says
abbrev pub finding_of : Checkup × Outcome → Finding
finding_of e = record { day = e.0.day; outcome = e.1 }

-- the last of a list, if there is one
abbrev pub last_of : {A : Type 0} → List A → Option A
last_of xs = slice_get xs (length xs - 1)

-- what the latest check of an accession found
abbrev pub latest : Desk → ℕ → Option Finding
latest desk acc = option_map finding_of (last_of (entries (retain_keys desk.checks (λ checkup. checkup.acc == acc))))
