-- What a request asks for, which reasons to refuse it hold, and which of them the reply gives.
use Rattle.std.specs.Prelude.{◌≡◌, ◌≢◌, ◌<◌, false, ℕ, ℤ, List, Contains, length, Option, Some, None, IsSomeAnd}
use Rattle.std.specs.FinMap.{get}
use Rattle.sha2.specs.Sha256.{sha256}
use Rattle.rd_geometry.specs.Kinds.{size_of}
use Rattle.rd_geometry.specs.declared.kind.Kind.{Kind}
use Rattle.rd_policy.specs.Verdicts.{IsVerdict}
use Rattle.rd_policy.specs.declared.audience.Audience.{Audience}
use Rattle.rd_policy.specs.declared.audience.Audience.TheVariants.{Public, Staff}
use Rattle.rd_policy.specs.declared.rule.Band.{Band}
use Rattle.rd_policy.specs.declared.rule.Band.TheVariants.{Takedown, Deed}
use Rattle.rd_policy.specs.declared.rule.Effect.TheVariants.{Read}
use Rattle.rd_policy.specs.declared.verdict.Verdict.{Verdict}
use Rattle.rd_volume.specs.Volumes.{IsFound, IsSlotOfFile}
use Rattle.rd_volume.specs.declared.found.Found.{Found}
use Rattle.rd_holdings.specs.State.{Desk, HasOtherImage, IsLastStaff, rules_for}
use Rattle.rd_holdings.specs.declared.rows.ImageRow.{ImageRow}
use Rattle.rd_protocol.specs.Refusals.{number_of}
use Rattle.rd_protocol.specs.Requests.{IsForStaff}
use Rattle.rd_protocol.specs.declared.refusal.Refusal.{Refusal}
use Rattle.rd_protocol.specs.declared.refusal.Refusal.TheVariants.{UnknownKey, StaffOnly, BadBody, NoAccession, NoFile, NoDeed, Denied, ListedOnly, Faulty, WrongSize, DigestDiffers, Conflict}
use Rattle.rd_protocol.specs.declared.request.Request.{Request}
use Rattle.rd_protocol.specs.declared.request.What.{What}
use Rattle.rd_protocol.specs.declared.request.What.TheVariants.{Listing, Bytes, Survey, Check, VerdictsOf, RehearseRule, RehearseDrop, PutImage, PutRule, DropRule, PutKey, DropKey, Unread}

-- ---- who asks, and what is named

-- the audience of a caller. Without a badge they are of the public; with one they are of the
-- audience of its key, and of none if no such key stands
abbrev pub audience_of : Desk → Option (List ℕ) → Option Audience
audience_of desk None = Some Public
audience_of desk (Some badge) = get desk.keys badge

-- a takedown is of an accession, and a rule of a deed is of a deed
abbrev pub accession_at : Band → ℕ → Option ℕ
accession_at Takedown scope = Some scope
accession_at Deed scope = None

-- the deed that a rule of this band and number is about; none for a takedown
abbrev pub deed_at : Band → ℕ → Option ℕ
deed_at Takedown scope = None
deed_at Deed scope = Some scope

-- a request that names an accession is refused if none of that number stands: the one in a question, a survey, a
-- check or verdicts, or that of a takedown; a rehearsal needs what its command needs
abbrev pub accession_of : What → Option ℕ
accession_of (Listing acc) = Some acc
accession_of (Bytes acc slot) = Some acc
accession_of (Survey acc) = Some acc
accession_of (Check acc) = Some acc
accession_of (VerdictsOf on acc) = Some acc
accession_of (PutRule rule) = accession_at rule.band rule.scope
accession_of (DropRule band scope rank) = accession_at band scope
accession_of (RehearseRule on rule) = accession_at rule.band rule.scope
accession_of (RehearseDrop on band scope rank) = accession_at band scope
accession_of other = None

-- a request that names a deed is refused if no such deed stands: that of an image to put, or that of another rule
-- than a takedown; a rehearsal needs what its command needs
abbrev pub deed_of : What → Option ℕ
deed_of (PutImage acc kind deed digest bytes) = Some deed
deed_of (PutRule rule) = deed_at rule.band rule.scope
deed_of (DropRule band scope rank) = deed_at band scope
deed_of (RehearseRule on rule) = deed_at rule.band rule.scope
deed_of (RehearseDrop on band scope rank) = deed_at band scope
deed_of other = None

-- where the requested file is: its accession and slot
abbrev pub file_of : What → Option (ℕ × ℕ)
file_of (Bytes acc slot) = Some (acc, slot)
file_of other = None

-- the row that an image would have
abbrev pub image_of : What → Option ImageRow
image_of (PutImage acc kind deed digest bytes) = Some (record { kind = kind; deed = deed; digest = digest; bytes = bytes })
image_of other = None

-- ---- the file that is asked for

-- A file of an image of a kind, and what the rules say of it.
pub record JudgedFile : Type 0 where
  pub kind : Kind
  pub file : Found
  pub verdict : Verdict

-- It is the file that the request asks for, as it is in the image that stands, with the verdict of
-- the accession's rules on it for the caller on that day.
pub record IsJudgedFile (desk : Desk) (day : ℤ) (request : Request) (judged : JudgedFile) : Type 0 where
  pub accession : ℕ
  pub image : ImageRow
  pub audience : Audience
  pub asked : file_of request.what ≡ Some (accession, judged.file.slot)
  pub caller : audience_of desk request.badge ≡ Some audience
  pub standing : get desk.images accession ≡ Some image
  pub of_kind : judged.kind ≡ image.kind
  pub described : IsFound image.kind image.bytes judged.file
  pub decided : IsVerdict (Contains (rules_for desk accession)) audience day judged.file judged.verdict

-- what the request asks for: that file, or none if there is no such file or the caller is unknown
abbrev pub IsAsked : Desk → ℤ → Request → Option JudgedFile → Type 0
IsAsked desk day request (Some judged) = IsJudgedFile desk day request judged
IsAsked desk day request None = (judged : JudgedFile) → ¬ IsJudgedFile desk day request judged

-- ---- refusals

-- an image that differs in kind, deed or digest stands at the accession; or the last key of the staff would be lost,
-- dropped or given to the reading room
abbrev pub Conflicts : Desk → What → Type 0
Conflicts desk (PutImage acc kind deed digest bytes) =
    HasOtherImage desk acc (record { kind = kind; deed = deed; digest = digest; bytes = bytes })
Conflicts desk (PutKey digest audience) = (audience ≢ Staff) × IsLastStaff desk digest
Conflicts desk (DropKey digest) = IsLastStaff desk digest
Conflicts desk other = ⊥

module _ (desk : Desk) (request : Request) (asked : Option JudgedFile) where
  -- why a request is refused; several reasons may hold at once
  abbrev pub Holds : Refusal → Type 0
  Holds UnknownKey = audience_of desk request.badge ≡ None
  Holds StaffOnly = IsForStaff request.what × (audience_of desk request.badge ≢ Some Staff)
  Holds BadBody = request.what ≡ Unread
  Holds NoAccession = IsSomeAnd (accession_of request.what) (λ acc. get desk.images acc ≡ None)
  Holds NoFile = IsSomeAnd (file_of request.what) (λ at.
      IsSomeAnd (get desk.images at.0) (λ image. ¬ IsSlotOfFile image.kind image.bytes at.1))
  Holds NoDeed = IsSomeAnd (deed_of request.what) (λ num. get desk.deeds num ≡ None)
  Holds (Denied label) = IsSomeAnd asked (λ judged. (judged.verdict.effect ≢ Read) × (judged.verdict.label ≡ label))
  Holds ListedOnly = IsSomeAnd asked (λ judged. judged.file.served_class ≡ false)
  Holds (Faulty kind faults) = IsSomeAnd asked (λ judged.
      (judged.file.faults ≢ 0) × (judged.kind ≡ kind) × (judged.file.faults ≡ faults))
  Holds WrongSize = IsSomeAnd (image_of request.what) (λ image. length image.bytes ≢ size_of image.kind)
  Holds DigestDiffers = IsSomeAnd (image_of request.what) (λ image. sha256 image.bytes ≢ image.digest)
  Holds Conflict = Conflicts desk request.what

  -- no reason with a lower number holds
  abbrev pub PassesTo : ℕ → Type 0
  PassesTo number = (refusal : Refusal) → number_of refusal < number → ¬ Holds refusal

  -- Of the reasons that hold, this is the one with the lowest number.
  pub record IsRefused (refusal : Refusal) : Type 0 where
    pub holds : Holds refusal
    pub lowest : PassesTo (number_of refusal)

  -- there is no reason to refuse it
  abbrev pub IsAccepted : Type 0
  IsAccepted = (refusal : Refusal) → ¬ Holds refusal

-- The request is refused on a day.
pub record IsRefusedOn (desk : Desk) (day : ℤ) (request : Request) (refusal : Refusal) : Type 0 where
  pub file : Option JudgedFile
  pub asked : IsAsked desk day request file
  pub refused : IsRefused desk request file refusal

-- The request is accepted on a day.
pub record IsAcceptedOn (desk : Desk) (day : ℤ) (request : Request) : Type 0 where
  pub file : Option JudgedFile
  pub asked : IsAsked desk day request file
  pub accepted : IsAccepted desk request file
