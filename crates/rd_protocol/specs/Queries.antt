-- What the steps of a query say, in their order. What a query answers as a whole is stated without
-- them.
use Rattle.std.specs.Prelude.{◌≡◌, ◌≢◌, ◌⊎◌, ℕ, ℤ, List, [], ◌∷◌, Contains, Option, None, Some, length, true, false}
use Rattle.std.specs.FinMap.{get}
use Rattle.rd_geometry.specs.declared.kind.Kind.{Kind}
use Rattle.rd_policy.specs.Verdicts.{IsVerdict}
use Rattle.rd_policy.specs.declared.audience.Audience.{Audience}
use Rattle.rd_policy.specs.declared.rule.Effect.TheVariants.{Deny, Read}
use Rattle.rd_policy.specs.declared.rule.Rule.{Rule}
use Rattle.rd_policy.specs.declared.verdict.Verdict.{Verdict}
use Rattle.rd_volume.specs.Founds.{IsSoundFile}
use Rattle.rd_volume.specs.Volumes.{IsFound, IsSlotOfFile}
use Rattle.rd_volume.specs.declared.found.Found.{Found}
use Rattle.rd_holdings.specs.State.{Desk, rules_for}
use Rattle.rd_holdings.specs.declared.rows.ImageRow.{ImageRow}
use Rattle.rd_protocol.specs.Replies.{AreLines}
use Rattle.rd_protocol.specs.declared.refusal.Refusal.{Refusal}
use Rattle.rd_protocol.specs.declared.refusal.Refusal.TheVariants.{NoFile, Denied, ListedOnly, Faulty}
use Rattle.rd_protocol.specs.declared.response.ImageLine.{ImageLine}
use Rattle.rd_protocol.specs.declared.response.Line.{Line}
use Rattle.rd_protocol.specs.declared.response.Response.{Response}
use Rattle.rd_protocol.specs.declared.response.Response.TheVariants.{Refused, File}

-- ---- one file

-- An accession that stands: its image, and the rules for its files.
pub record Standing : Type 0 where
  pub image : ImageRow
  pub rules : List Rule

-- why the caller may not read a file of an image of a kind, or nothing if they may
abbrev pub IsWithheldBy : Kind → Found → Verdict → Option Refusal → Type 0
IsWithheldBy kind file verdict None = (verdict.effect ≡ Read) × IsSoundFile file
IsWithheldBy kind file verdict (Some (Denied label)) = (verdict.effect ≢ Read) × (verdict.label ≡ label)
IsWithheldBy kind file verdict (Some ListedOnly) = (verdict.effect ≡ Read) × (file.served_class ≡ false)
IsWithheldBy kind file verdict (Some (Faulty other faults)) =
    (verdict.effect ≡ Read) × (file.served_class ≡ true) × (file.faults ≢ 0) × (other ≡ kind) × (faults ≡ file.faults)
IsWithheldBy kind file verdict other = ⊥

-- the same, by the verdict of these rules on it
abbrev pub IsWithheld : Kind → List Rule → Audience → ℤ → Found → Option Refusal → Type 0
IsWithheld kind rules audience day file refusal =
    (verdict : Verdict) × IsVerdict (Contains rules) audience day file verdict × IsWithheldBy kind file verdict refusal

-- This file has the slot, and this is the verdict on it.
pub record IsAtSlot (holding : Standing) (audience : Audience) (day : ℤ) (slot : ℕ) (file : Found) (verdict : Verdict) : Type 0 where
  pub described : IsFound holding.image.kind holding.image.bytes file
  pub at_slot : file.slot ≡ slot
  pub decided : IsVerdict (Contains holding.rules) audience day file verdict

-- this holds of the file at the slot, and of the verdict on it
abbrev pub OfFile : Standing → Audience → ℤ → ℕ → (Found → Verdict → Type 0) → Type 0
OfFile holding audience day slot P =
    (file : Found) × (verdict : Verdict) × IsAtSlot holding audience day slot file verdict × P file verdict

-- what is said of the file at a slot
abbrev pub IsRead : Standing → Audience → ℤ → ℕ → Response → Type 0
IsRead holding audience day slot (Refused NoFile) = ¬ IsSlotOfFile holding.image.kind holding.image.bytes slot
IsRead holding audience day slot (Refused (Denied label)) =
    OfFile holding audience day slot (λ file verdict. (verdict.effect ≢ Read) × (verdict.label ≡ label))
IsRead holding audience day slot (Refused ListedOnly) =
    OfFile holding audience day slot (λ file verdict. (verdict.effect ≡ Read) × (file.served_class ≡ false))
IsRead holding audience day slot (Refused (Faulty kind faults)) =
    OfFile holding audience day slot (λ file verdict. (verdict.effect ≡ Read) × (file.served_class ≡ true) × (file.faults ≢ 0)
    × (kind ≡ holding.image.kind) × (faults ≡ file.faults))
IsRead holding audience day slot (File contents) =
    OfFile holding audience day slot (λ file verdict. (verdict.effect ≡ Read) × IsSoundFile file
    × (contents ≡ record { kind = holding.image.kind; image = holding.image.bytes; file = file }))
IsRead holding audience day slot other = ⊥

-- ---- listings

-- the lines are these files in turn, each with the verdict on it, except those that are denied
abbrev pub AreLinesOf : List Rule → Audience → ℤ → List Found → List Line → Type 0
AreLinesOf rules audience day [] lines = lines ≡ []
AreLinesOf rules audience day (file ∷ files) lines =
    (verdict : Verdict) × (rest : List Line)
    × IsVerdict (Contains rules) audience day file verdict × AreLinesOf rules audience day files rest
    × (((verdict.effect ≢ Deny) × (lines ≡ record { file = file; verdict = verdict } ∷ rest))
    ⊎ ((verdict.effect ≡ Deny) × (lines ≡ rest)))

-- The accession stands, and as many of its files are listed.
pub record IsCounted (desk : Desk) (audience : Audience) (day : ℤ) (acc : ℕ) (line : ImageLine) : Type 0 where
  pub image : ImageRow
  pub lines : List Line
  pub standing : get desk.images acc ≡ Some image
  pub listed : AreLines image (rules_for desk acc) audience day lines
  pub is : line ≡ record { accession = acc; deed = image.deed; kind = image.kind; files = length lines }

-- the lines are these accessions in turn, except those without a listed file
abbrev pub AreLinesOfEach : Desk → Audience → ℤ → List ℕ → List ImageLine → Type 0
AreLinesOfEach desk audience day [] lines = lines ≡ []
AreLinesOfEach desk audience day (acc ∷ accs) lines =
    (line : ImageLine) × (rest : List ImageLine)
    × IsCounted desk audience day acc line × AreLinesOfEach desk audience day accs rest
    × (((line.files ≢ 0) × (lines ≡ line ∷ rest)) ⊎ ((line.files ≡ 0) × (lines ≡ rest)))
