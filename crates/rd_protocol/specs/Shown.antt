-- What the desk shows of its images to an audience on a day.
use Rattle.std.specs.Prelude.{◌≡◌, ◌↔◌, Bool, ℕ, ℤ, List, Contains, IsSomeAnd, Option, option_map}
use Rattle.std.specs.FinMap.{get}
use Rattle.rd_policy.specs.Verdicts.{IsVerdict}
use Rattle.rd_policy.specs.declared.audience.Audience.{Audience}
use Rattle.rd_policy.specs.declared.rule.Effect.TheVariants.{Deny, Read}
use Rattle.rd_policy.specs.declared.rule.Rule.{Rule}
use Rattle.rd_policy.specs.declared.verdict.Label.{Label}
use Rattle.rd_policy.specs.declared.verdict.Verdict.{Verdict}
use Rattle.rd_volume.specs.Reports.{IsSoundSlot}
use Rattle.rd_volume.specs.Volumes.{AreBytesOf, IsFound, IsSlotOfFile}
use Rattle.rd_volume.specs.declared.found.Found.{Found}
use Rattle.rd_holdings.specs.State.{Desk, rules_for, accession_of}
use Rattle.rd_holdings.specs.declared.rows.ImageRow.{ImageRow}
use Rattle.rd_protocol.specs.Replies.{IsLine}
use Rattle.rd_protocol.specs.declared.response.Line.{Line}

-- The rule with this label denies the file at a slot; or it is the default that denies it.
pub record IsDeniedAt (image : ImageRow) (rules : List Rule) (audience : Audience) (day : ℤ) (slot : ℕ) (label : Label) : Type 0 where
  pub file : Found
  pub at_slot : file.slot ≡ slot
  pub described : IsFound image.kind image.bytes file
  pub decided : IsVerdict (Contains rules) audience day file (record { effect = Deny; label = label })

-- What is shown of a listed file: what a listing says of it, and whether its class is served. Where its bytes lie is
-- not shown.
pub record ListedFile : Type 0 where
  pub slot : ℕ
  pub name : List ℕ
  pub ty : List ℕ
  pub user : Option ℕ
  pub served_class : Bool
  pub size : Option ℕ
  pub faults : ℕ
  pub verdict : Verdict

-- what is shown of the file of a line
abbrev pub listed_of : Line → ListedFile
listed_of line = record {
  slot = line.file.slot;
  name = line.file.name;
  ty = line.file.ty;
  user = line.file.user;
  served_class = line.file.served_class;
  size = line.file.size;
  faults = line.file.faults;
  verdict = line.verdict;
}

-- A file of the image is listed, and this is shown of it.
pub record IsListedAs (image : ImageRow) (rules : List Rule) (audience : Audience) (day : ℤ) (listed : ListedFile) : Type 0 where
  pub line : Line
  pub described : IsLine image rules audience day line
  pub shown : listed_of line ≡ listed

-- The rules let the audience read this file of the image, which is sound, and these are its bytes.
pub record AreReadOf (image : ImageRow) (rules : List Rule) (audience : Audience) (day : ℤ) (file : Found) (bytes : List ℕ) : Type 0 where
  pub label : Label
  pub described : IsFound image.kind image.bytes file
  pub decided : IsVerdict (Contains rules) audience day file (record { effect = Read; label = label })
  pub sound : IsSoundSlot image.kind image.bytes file.slot
  pub are : AreBytesOf image.kind image.bytes file.slot bytes

-- What can be shown of an image: that a file is at a slot; the label of the rule that denies it; what is shown of a
-- listed file; and a file that is read, with the units in which it lies, and its bytes.
pub data Shown : Type 0 where
  HasFile : ℕ → Shown
  IsDenied : ℕ → Label → Shown
  IsListed : ListedFile → Shown
  HasBytes : Found → List ℕ → Shown

-- an image shows this to an audience on a day, by the rules for it
abbrev pub IsShown : ImageRow → List Rule → Audience → ℤ → Shown → Type 0
IsShown image rules audience day (HasFile slot) = IsSlotOfFile image.kind image.bytes slot
IsShown image rules audience day (IsDenied slot label) = IsDeniedAt image rules audience day slot label
IsShown image rules audience day (IsListed listed) = IsListedAs image rules audience day listed
IsShown image rules audience day (HasBytes file bytes) = AreReadOf image rules audience day file bytes

-- the image of an accession stands, and shows this
abbrev pub IsShownAt : Desk → Audience → ℤ → ℕ → Shown → Type 0
IsShownAt desk audience day acc it = IsSomeAnd (get desk.images acc) (λ image. IsShown image (rules_for desk acc) audience day it)

-- Two desks show the same to an audience on a day: they have the same keys, and the same accessions,
-- each of one kind and one deed, and the images of each accession show the same. So a file that is
-- denied shows no more itself than its slot and the label of the rule; a listed file that is crossed
-- with it shows that fault. All else may differ: the bytes of the images, the units of each file that the audience may
-- not read, the rules, the deeds and the checks.
pub record ShowsTheSame (desk : Desk) (audience : Audience) (day : ℤ) (other : Desk) : Type 0 where
  pub keys : other.keys ≡ desk.keys
  pub accessions : (acc : ℕ) → option_map accession_of (get other.images acc) ≡ option_map accession_of (get desk.images acc)
  pub images : (acc : ℕ) (it : Shown) → IsShownAt desk audience day acc it ↔ IsShownAt other audience day acc it
