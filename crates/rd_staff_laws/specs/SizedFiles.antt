-- A file is served exactly where the verdict on it is to read it, and its size is given.
use Rattle.std.specs.Prelude.{◌≡◌, ◌↔◌, ℕ, ℤ, List, Contains, IsSome, Option, Some}
use Rattle.rd_policy.specs.declared.audience.Audience.{Audience}
use Rattle.rd_policy.specs.declared.rule.Effect.TheVariants.{Read}
use Rattle.rd_protocol.specs.Judged.{IsAcceptedOn, audience_of}
use Rattle.rd_protocol.specs.Laws.{HoldsBytes}
use Rattle.rd_holdings.specs.State.{Desk}
use Rattle.rd_protocol.specs.Verdicts.{AreVerdicts, verdict_for}
use Rattle.rd_protocol.specs.declared.request.What.TheVariants.{Bytes}
use Rattle.rd_protocol.specs.declared.response.FileVerdicts.{FileVerdicts}
use Rattle.rd_protocol.specs.declared.response.Verdicts.{Verdicts}

-- Among the verdicts is one on the file at a slot of an accession. It lets the audience read the file, whose size is given.
pub record LetsReadSized (verdicts : List Verdicts) (audience : Audience) (acc slot : ℕ) : Type 0 where
  pub one : Verdicts
  pub file : FileVerdicts
  pub among : Contains verdicts one
  pub accession : one.accession ≡ acc
  pub inside : Contains one.files file
  pub at_slot : file.file.slot ≡ slot
  pub read : (verdict_for audience file).effect ≡ Read
  pub size : IsSome file.file.size

-- a file is served exactly where the verdicts of the day let the caller read it and give its size
abbrev pub ServedWhereSized : Type 0
ServedWhereSized = (desk : Desk) (badge : Option (List ℕ)) (audience : Audience) (day : ℤ) (verdicts : List Verdicts) → HoldsBytes desk
    → audience_of desk badge ≡ Some audience → AreVerdicts desk day verdicts
    → (acc slot : ℕ) → IsAcceptedOn desk day (record { badge = badge; what = Bytes acc slot }) ↔ LetsReadSized verdicts audience acc slot
