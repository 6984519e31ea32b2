-- The latest check of an accession is the last.
use Rattle.std.specs.Prelude.{◌≡◌, ◌↔◌, ◌≤ℤ◌, ℕ, ℤ, Option, None, Some}
use Rattle.std.specs.FinMap.{get}
use Rattle.rd_holdings.specs.Findings.{latest}
use Rattle.rd_holdings.specs.State.{Desk}
use Rattle.rd_holdings.specs.declared.rows.Finding.{Finding}
use Rattle.rd_holdings.specs.declared.rows.Outcome.{Outcome}

-- what the check of an accession on a day found, if there was one
abbrev pub check_on : Desk → ℕ → ℤ → Option Outcome
check_on desk acc day = get desk.checks (record { acc = acc; day = day })

-- A check of the accession that stands has this finding, and no check of it that stands has a later day.
pub record IsLast (desk : Desk) (acc : ℕ) (finding : Finding) : Type 0 where
  pub stands : check_on desk acc finding.day ≡ Some finding.outcome
  pub last : (day : ℤ) (outcome : Outcome) → check_on desk acc day ≡ Some outcome → day ≤ℤ finding.day

-- the latest check of an accession has a finding exactly where that is the last
abbrev pub LatestIsLast : Type 0
LatestIsLast = (desk : Desk) (acc : ℕ) (finding : Finding) → (latest desk acc ≡ Some finding) ↔ IsLast desk acc finding

-- an accession has no latest check exactly where no check of it stands
abbrev pub NoneIsLatest : Type 0
NoneIsLatest = (desk : Desk) (acc : ℕ) → (latest desk acc ≡ None) ↔ ((day : ℤ) → check_on desk acc day ≡ None)
