-- What follows from the verdicts of a day: the catalogue of each audience, and which files are served.
use Rattle.std.specs.Prelude.{◌≡◌, ◌↔◌, ◌∷◌, [], ℕ, ℤ, Bool, true, false, List, Contains, Option, Some, map}
use Rattle.std.specs.List.{filter}
use Rattle.rd_policy.specs.declared.audience.Audience.{Audience}
use Rattle.rd_policy.specs.declared.rule.Effect.{Effect}
use Rattle.rd_policy.specs.declared.rule.Effect.TheVariants.{Deny, Read}
use Rattle.rd_volume.specs.Founds.{IsSoundFile}
use Rattle.rd_holdings.specs.State.{Desk}
use Rattle.rd_protocol.specs.Judged.{IsAcceptedOn, audience_of}
use Rattle.rd_protocol.specs.Laws.{HoldsBytes}
use Rattle.rd_protocol.specs.Replies.{AreListings}
use Rattle.rd_protocol.specs.Verdicts.{AreVerdicts, AreVerdictsOf, verdict_for}
use Rattle.rd_protocol.specs.declared.request.What.TheVariants.{Bytes}
use Rattle.rd_protocol.specs.declared.response.FileVerdicts.{FileVerdicts}
use Rattle.rd_protocol.specs.declared.response.Line.{Line}
use Rattle.rd_protocol.specs.declared.response.Listing.{Listing}
use Rattle.rd_protocol.specs.declared.response.Verdicts.{Verdicts}

-- ---- the catalogue

-- an effect that is not to deny
abbrev pub lists : Effect → Bool
lists Deny = false
lists other = true

-- a file, with the verdict on it for an audience
abbrev pub line_for : Audience → FileVerdicts → Line
line_for audience file = record { file = file.file; verdict = verdict_for audience file }

-- the files that are not denied to an audience
abbrev pub lines_for : Audience → List FileVerdicts → List Line
lines_for audience files = filter (λ line. lists line.verdict.effect) (map (line_for audience) files)

-- an accession, with the files that are not denied to an audience
abbrev pub listing_for : Audience → Verdicts → Listing
listing_for audience verdicts =
    record { accession = verdicts.accession; deed = verdicts.deed; kind = verdicts.kind; files = lines_for audience verdicts.files }

-- the catalogue of an audience on a day is what the verdicts of that day do not deny to it, with the same label
abbrev pub CatalogueIsThatOfVerdicts : Type 0
CatalogueIsThatOfVerdicts = (desk : Desk) (audience : Audience) (day : ℤ) (verdicts : List Verdicts) → AreVerdicts desk day verdicts
    → (listings : List Listing) → AreListings desk audience day listings ↔ (listings ≡ map (listing_for audience) verdicts)

-- of an accession that stands, the verdicts of one accession are those that stand for it among all of that day
abbrev pub OneAccessionIsThatOfAll : Type 0
OneAccessionIsThatOfAll = (desk : Desk) (day : ℤ) (all : List Verdicts) → AreVerdicts desk day all
    → (acc : ℕ) (one : Verdicts) → AreVerdictsOf desk day (acc ∷ []) (one ∷ []) ↔ (Contains all one × (one.accession ≡ acc))

-- Among the verdicts is one on the file at a slot of an accession. It lets the audience read the file, which is of a class
-- that is served, and has no fault.
pub record LetsRead (verdicts : List Verdicts) (audience : Audience) (acc slot : ℕ) : Type 0 where
  pub one : Verdicts
  pub file : FileVerdicts
  pub among : Contains verdicts one
  pub accession : one.accession ≡ acc
  pub inside : Contains one.files file
  pub at_slot : file.file.slot ≡ slot
  pub read : (verdict_for audience file).effect ≡ Read
  pub sound : IsSoundFile file.file

-- a file is served exactly where a verdict lets the caller read it
abbrev pub ServedWhereRead : Type 0
ServedWhereRead = (desk : Desk) (badge : Option (List ℕ)) (audience : Audience) (day : ℤ) (verdicts : List Verdicts) → HoldsBytes desk
    → audience_of desk badge ≡ Some audience → AreVerdicts desk day verdicts
    → (acc slot : ℕ) → IsAcceptedOn desk day (record { badge = badge; what = Bytes acc slot }) ↔ LetsRead verdicts audience acc slot
