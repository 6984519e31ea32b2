-- The verdicts of the rules on each file, for each audience, on a day.
use Rattle.std.specs.Prelude.{◌≡◌, ℕ, ℤ, List, All, Contains, Some, map}
use Rattle.std.specs.FinMap.{get, keys}
use Rattle.std.specs.List.{AllZip}
use Rattle.rd_policy.specs.Verdicts.{IsVerdict}
use Rattle.rd_policy.specs.declared.audience.Audience.{Audience}
use Rattle.rd_policy.specs.declared.audience.Audience.TheVariants.{Public, Room, Staff}
use Rattle.rd_policy.specs.declared.rule.Rule.{Rule}
use Rattle.rd_policy.specs.declared.verdict.Verdict.{Verdict}
use Rattle.rd_volume.specs.Volumes.{AreFounds}
use Rattle.rd_holdings.specs.State.{Desk, rules_for}
use Rattle.rd_protocol.specs.declared.response.FileVerdicts.{FileVerdicts}
use Rattle.rd_protocol.specs.declared.response.Verdicts.{Verdicts}
use Rattle.rd_holdings.specs.declared.rows.ImageRow.{ImageRow}

-- the verdict for an audience
abbrev pub verdict_for : Audience → FileVerdicts → Verdict
verdict_for Public file = file.public
verdict_for Room file = file.room
verdict_for Staff file = file.staff

-- these are the verdicts of the rules on a file, for each audience
abbrev pub IsDecided : List Rule → ℤ → FileVerdicts → Type 0
IsDecided rules day file = (audience : Audience) → IsVerdict (Contains rules) audience day file.file (verdict_for audience file)

-- All files of an image, by slot, each with the verdicts of the rules on it.
pub record AreFileVerdicts (image : ImageRow) (rules : List Rule) (day : ℤ) (files : List FileVerdicts) : Type 0 where
  pub all : AreFounds image.kind image.bytes (map (λ file. file.file) files)
  pub decided : All (IsDecided rules day) files

-- The accession, with all its files.
pub record IsVerdictsOf (desk : Desk) (day : ℤ) (acc : ℕ) (verdicts : Verdicts) : Type 0 where
  pub image : ImageRow
  pub standing : get desk.images acc ≡ Some image
  pub accession : verdicts.accession ≡ acc
  pub deed : verdicts.deed ≡ image.deed
  pub kind : verdicts.kind ≡ image.kind
  pub files : AreFileVerdicts image (rules_for desk acc) day verdicts.files

-- these accessions, each with all its files
abbrev pub AreVerdictsOf : Desk → ℤ → List ℕ → List Verdicts → Type 0
AreVerdictsOf desk day accs verdicts = AllZip (IsVerdictsOf desk day) accs verdicts

-- all accessions, ascending
abbrev pub AreVerdicts : Desk → ℤ → List Verdicts → Type 0
AreVerdicts desk day verdicts = AreVerdictsOf desk day (keys desk.images) verdicts
