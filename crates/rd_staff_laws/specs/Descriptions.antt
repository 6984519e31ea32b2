-- What is said to the staff of images is decided by the descriptions of their files.
use Rattle.std.specs.Prelude.{◌≡◌, ◌<◌, ◌↔◌, ℕ, ℤ, List, [], All, Option, None, Some}
use Rattle.std.specs.FinMap.{get}
use Rattle.rd_geometry.specs.declared.kind.Kind.{Kind}
use Rattle.rd_policy.specs.declared.audience.Audience.TheVariants.{Staff}
use Rattle.rd_volume.specs.Needed.{AgreesOnNeeded}
use Rattle.rd_volume.specs.Volumes.{IsFound, IsSlotOfFile}
use Rattle.rd_volume.specs.declared.found.Found.{Found}
use Rattle.rd_protocol.specs.Replies.{Tells}
use Rattle.rd_holdings.specs.State.{Desk}
use Rattle.rd_protocol.specs.declared.request.What.{What}
use Rattle.rd_protocol.specs.declared.request.What.TheVariants.{Checks, Deeds, Keys, RehearseDrop, RehearseRule, Takedowns, Today, Verdicts, VerdictsOf}
use Rattle.rd_protocol.specs.declared.response.Response.{Response}
use Rattle.rd_holdings.specs.declared.rows.ImageRow.{ImageRow}

-- ---- images and desks that are described alike

-- Two images of a kind, by their bytes, have the same files: the same slots are those of files, and a record describes a
-- file of one exactly if it describes a file of the other.
pub record HaveSameFiles (kind : Kind) (bytes others : List ℕ) : Type 0 where
  pub slots : (slot : ℕ) → IsSlotOfFile kind bytes slot ↔ IsSlotOfFile kind others slot
  pub files : (file : Found) → IsFound kind bytes file ↔ IsFound kind others file

-- An image is described as another is: both are of one kind and under one deed, and have the same files.
pub record IsDescribedAs (one image : ImageRow) : Type 0 where
  pub kind : image.kind ≡ one.kind
  pub deed : image.deed ≡ one.deed
  pub files : HaveSameFiles one.kind one.bytes image.bytes

-- at an accession: images that are described alike, or none in either
abbrev pub AreDescribedAlike : Option ImageRow → Option ImageRow → Type 0
AreDescribedAlike None None = Unit {0}
AreDescribedAlike (Some one) (Some image) = IsDescribedAs one image
AreDescribedAlike one other = ⊥

-- A desk has the same deeds, rules, keys and checks as another, and at each accession images that are described alike.
pub record IsDescribedLike (desk other : Desk) : Type 0 where
  pub deeds : desk.deeds ≡ other.deeds
  pub rules : desk.rules ≡ other.rules
  pub keys : desk.keys ≡ other.keys
  pub checks : desk.checks ≡ other.checks
  pub images : (acc : ℕ) → AreDescribedAlike (get desk.images acc) (get other.images acc)

-- ---- what is said to the staff

-- a question of the staff for deeds, takedowns, keys, checks, the day or verdicts, or a rehearsal
abbrev pub IsStaffQuestion : What → Type 0
IsStaffQuestion Deeds = Unit {0}
IsStaffQuestion Takedowns = Unit {0}
IsStaffQuestion Keys = Unit {0}
IsStaffQuestion Checks = Unit {0}
IsStaffQuestion Today = Unit {0}
IsStaffQuestion (Verdicts on) = Unit {0}
IsStaffQuestion (VerdictsOf on acc) = Unit {0}
IsStaffQuestion (RehearseRule on rule) = Unit {0}
IsStaffQuestion (RehearseDrop on band scope rank) = Unit {0}
IsStaffQuestion other = ⊥

-- what a desk answers to these questions, each desk that is described like it answers too
abbrev pub DescriptionsDecide : Type 0
DescriptionsDecide = (desk other : Desk) → IsDescribedLike desk other → (what : What) → IsStaffQuestion what
    → (day : ℤ) (answer : Response) → Tells desk Staff day None answer what → Tells other Staff day None answer what

-- ---- which images have the same files

-- two images of a kind have the same files if they agree on all bytes that are needed to describe the files, while no file
-- is served
abbrev pub NeededBytesDescribe : Type 0
NeededBytesDescribe = (kind : Kind) (bytes others : List ℕ) → AgreesOnNeeded kind bytes others [] → HaveSameFiles kind bytes others

-- two images of bytes, numbers below 256, have the same files if the same records describe them
abbrev pub DescriptionsSuffice : Type 0
DescriptionsSuffice = (kind : Kind) (bytes others : List ℕ) → All (λ byte. byte < 256) bytes → All (λ byte. byte < 256) others
    → ((file : Found) → IsFound kind bytes file ↔ IsFound kind others file) → HaveSameFiles kind bytes others
