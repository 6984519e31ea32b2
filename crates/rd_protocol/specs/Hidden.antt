-- What a caller must not see of an image, and that no reply depends on it.
use Rattle.std.specs.Prelude.{◌≡◌, ℕ, ℤ, List, Contains, IfSome, Option, None, Some, option_map}
use Rattle.std.specs.FinMap.{get}
use Rattle.rd_geometry.specs.declared.kind.Kind.{Kind}
use Rattle.rd_policy.specs.Verdicts.{IsVerdict}
use Rattle.rd_policy.specs.declared.audience.Audience.{Audience}
use Rattle.rd_policy.specs.declared.audience.Audience.TheVariants.{Staff}
use Rattle.rd_policy.specs.declared.rule.Effect.TheVariants.{Read}
use Rattle.rd_policy.specs.declared.rule.Rule.{Rule}
use Rattle.rd_policy.specs.declared.verdict.Verdict.{Verdict}
use Rattle.rd_volume.specs.Needed.{AgreesOnNeeded}
use Rattle.rd_volume.specs.Volumes.{IsFound}
use Rattle.rd_volume.specs.declared.found.Found.{Found}
use Rattle.rd_holdings.specs.State.{Desk, rules_for}
use Rattle.rd_holdings.specs.declared.rows.ImageRow.{ImageRow}
use Rattle.rd_protocol.specs.Judged.{audience_of}
use Rattle.rd_protocol.specs.Lent.{Lent}
use Rattle.rd_protocol.specs.Replies.{Answers, IsReply}
use Rattle.rd_protocol.specs.Requests.{IsForStaff}
use Rattle.rd_protocol.specs.Shown.{ShowsTheSame}
use Rattle.rd_protocol.specs.declared.request.Request.{Request}
use Rattle.rd_protocol.specs.declared.response.Reply.{Reply}

-- ---- images and desks that look alike to a caller

-- The rules let an audience read this file of an image on a day.
pub record IsReadFile (image : ImageRow) (rules : List Rule) (audience : Audience) (day : ℤ) (file : Found) : Type 0 where
  pub verdict : Verdict
  pub described : IsFound image.kind image.bytes file
  pub decided : IsVerdict (Contains rules) audience day file verdict
  pub read : verdict.effect ≡ Read

-- An image looks like another, which stands: both are of one kind and under one deed. The slots
-- are those of the readable files of the one that stands, and the two agree on all bytes that are
-- needed to describe its files and to serve the readable ones.
pub record LooksLike (rules : List Rule) (audience : Audience) (day : ℤ) (standing image : ImageRow) : Type 0 where
  pub kind : image.kind ≡ standing.kind
  pub deed : image.deed ≡ standing.deed
  pub slots : List ℕ
  pub each : (slot : ℕ) → Contains slots slot → (file : Found) × (file.slot ≡ slot) × IsReadFile standing rules audience day file
  pub complete : (file : Found) → IsReadFile standing rules audience day file → Contains slots file.slot
  pub agrees : AgreesOnNeeded standing.kind image.bytes standing.bytes slots

-- at an accession: images that look alike, or none in either
abbrev pub LooksLikeAt : List Rule → Audience → ℤ → Option ImageRow → Option ImageRow → Type 0
LooksLikeAt rules audience day None None = Unit {0}
LooksLikeAt rules audience day (Some standing) (Some image) = LooksLike rules audience day standing image
LooksLikeAt rules audience day one other = ⊥

-- A desk looks like another to an audience on a day: the same keys and rules, and at each accession images that look
-- alike. Its deeds and checks may be any.
pub record LooksAlike (desk : Desk) (audience : Audience) (day : ℤ) (other : Desk) : Type 0 where
  pub keys : other.keys ≡ desk.keys
  pub rules : other.rules ≡ desk.rules
  pub images : (acc : ℕ) → LooksLikeAt (rules_for desk acc) audience day (get desk.images acc) (get other.images acc)

-- ---- what replies depend on

-- the caller is of the audience, or is unknown
abbrev pub IsCallerOf : Desk → Request → Audience → Type 0
IsCallerOf desk request audience = IfSome (audience_of desk request.badge) (λ caller. caller ≡ audience)

-- the staff asks for what only they may ask
abbrev pub IsOfStaff : Desk → Request → Type 0
IsOfStaff desk request = IsForStaff request.what × (audience_of desk request.badge ≡ Some Staff)

-- what contents are lent from, but for the bytes of the image: its kind, and the record of the file
abbrev pub file_lent : Lent → Kind × Found
file_lent lent = (lent.kind, lent.file)

-- Two replies are the same to whoever reads them. Only the bytes of the image that their bodies lend
-- from may differ.
pub record ReadsTheSame (reply other : Reply) : Type 0 where
  pub status : reply.status ≡ other.status
  pub form : reply.form ≡ other.form
  pub bytes : reply.body.bytes ≡ other.body.bytes
  pub lent : option_map file_lent reply.body.lent ≡ option_map file_lent other.body.lent

-- Unless the staff asks what only they may: each desk that is alike to the caller has a reply that reads
-- the same, or the reply is that of unavailability, which any desk may give.
abbrev pub SameInAlike : (Desk → Audience → ℤ → Desk → Type 0) → Desk → ℤ → Request → Reply → Type 0
SameInAlike AreAlike desk day request reply = ¬ IsOfStaff desk request → (audience : Audience) (other : Desk) → IsCallerOf desk request audience
    → AreAlike desk audience day other → (same : Reply) × ReadsTheSame reply same × Answers other day request same other

-- unless the staff asks what only they may, no byte of an image that is not needed changes the reply
abbrev pub HidesTheRest : Desk → ℤ → Request → Reply → Type 0
HidesTheRest = SameInAlike LooksAlike

-- unless the staff asks what only they may, nothing changes the reply but the keys, the accessions and what their
-- images show; or the reply is that of unavailability
abbrev pub TellsWhatIsShown : Desk → ℤ → Request → Reply → Type 0
TellsWhatIsShown = SameInAlike ShowsTheSame

-- ---- laws

-- Unless the staff asks what only they may: what a desk replies to a request, each desk that is alike to
-- the caller replies to it with the same to read.
abbrev pub DecidesReplies : (Desk → Audience → ℤ → Desk → Type 0) → Type 0
DecidesReplies AreAlike = (desk other : Desk) (audience : Audience) (day : ℤ) (request : Request) (reply : Reply) (new : Desk)
    → ¬ IsOfStaff desk request → IsCallerOf desk request audience → AreAlike desk audience day other
    → IsReply desk day request reply new → (same : Reply) × ReadsTheSame reply same × IsReply other day request same other

-- desks that look alike to a caller reply the same to them: hidden bytes do not show
abbrev pub HiddenBytesDoNotShow : Type 0
HiddenBytesDoNotShow = DecidesReplies LooksAlike

-- desks that show the same to a caller reply the same to them: what is shown decides
abbrev pub WhatIsShownDecides : Type 0
WhatIsShownDecides = DecidesReplies ShowsTheSame

-- a desk shows the same as itself
abbrev pub ShowsItself : Type 0
ShowsItself = (desk : Desk) (audience : Audience) (day : ℤ) → ShowsTheSame desk audience day desk

-- desks that look alike show the same
abbrev pub LooksAlikeShowsTheSame : Type 0
LooksAlikeShowsTheSame = (desk other : Desk) (audience : Audience) (day : ℤ) → LooksAlike desk audience day other → ShowsTheSame desk audience day other
