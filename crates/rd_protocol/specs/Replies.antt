-- The answer to a request, and the desk that it leaves.
use Rattle.std.specs.Prelude.{◌≡◌, ◌≢◌, ◌<◌, ◌⊎◌, ◌∷◌, [], ℕ, ℤ, List, Option, None, Some, All, AllPairs, Contains, IsSomeAnd, length}
use Rattle.std.specs.FinMap.{get}
use Rattle.rd_policy.specs.Dates.{IsDateOf}
use Rattle.rd_policy.specs.Verdicts.{IsVerdict}
use Rattle.rd_policy.specs.declared.audience.Audience.{Audience}
use Rattle.rd_policy.specs.declared.rule.Effect.TheVariants.{Deny, Read}
use Rattle.rd_policy.specs.declared.rule.Rule.{Rule}
use Rattle.rd_volume.specs.Reports.{IsReport}
use Rattle.rd_volume.specs.Volumes.{AreBytesOf, IsFound}
use Rattle.rd_holdings.specs.State.{Desk, place_of, rules_for, terms_of, with_check, with_deed, with_image, with_key, with_rule, without_key, without_rule}
use Rattle.rd_holdings.specs.declared.rows.DeedRow.{DeedRow}
use Rattle.rd_holdings.specs.declared.rows.ImageRow.{ImageRow}
use Rattle.rd_protocol.specs.Checks.{outcome_of}
use Rattle.rd_protocol.specs.Judged.{IsAccepted, IsAcceptedOn, IsAsked, IsRefusedOn, JudgedFile, audience_of}
use Rattle.rd_protocol.specs.Lent.{Lent, bytes_lent}
use Rattle.rd_protocol.specs.Rehearsals.{IsRehearsal}
use Rattle.rd_protocol.specs.Requests.{IsPutOrDrop}
use Rattle.rd_protocol.specs.StaffLists.{check_lines, deed_lines, key_lines, takedown_lines}
use Rattle.rd_protocol.specs.Texts.{UNAVAILABLE, reply_of}
use Rattle.rd_protocol.specs.Verdicts.{AreVerdicts, AreVerdictsOf}
use Rattle.rd_protocol.specs.declared.refusal.Refusal.{Refusal}
use Rattle.rd_protocol.specs.declared.request.Request.{Request}
use Rattle.rd_protocol.specs.declared.request.What.{What}
use Rattle.rd_protocol.specs.declared.request.What.TheVariants.{Images, Listing, Bytes, Catalogue, Survey, Check, Deeds, Takedowns, Keys, Checks, Today, Verdicts, VerdictsOf, RehearseRule, RehearseDrop, PutImage, PutDeed, PutRule, DropRule, PutKey, DropKey}
use Rattle.rd_protocol.specs.declared.response.ImageLine.{ImageLine}
use Rattle.rd_protocol.specs.declared.response.Line.{Line}
use Rattle.rd_protocol.specs.declared.response.Listing.{Listing as Lines}
use Rattle.rd_protocol.specs.declared.response.Reply.{Reply}
use Rattle.rd_protocol.specs.declared.response.Response.{Response}
use Rattle.rd_protocol.specs.declared.response.Response.TheVariants as response
use Rattle.rd_protocol.specs.declared.response.Survey.{Survey as Surveyed}

-- ---- what is listed

-- A listed file of an image: described correctly, with the verdict of the rules on it, which is
-- not to deny.
pub record IsLine (image : ImageRow) (rules : List Rule) (audience : Audience) (day : ℤ) (line : Line) : Type 0 where
  pub described : IsFound image.kind image.bytes line.file
  pub decided : IsVerdict (Contains rules) audience day line.file line.verdict
  pub shown : line.verdict.effect ≢ Deny

-- The listed files of an image, by slot: each of these is one, and none is left out.
pub record AreLines (image : ImageRow) (rules : List Rule) (audience : Audience) (day : ℤ) (lines : List Line) : Type 0 where
  pub each : All (IsLine image rules audience day) lines
  pub ascending : AllPairs (λ one other. one.file.slot < other.file.slot) lines
  pub complete : (line : Line) → IsLine image rules audience day line → Contains lines line

-- The line of an accession: it stands, and so many of its files are listed, at least one.
pub record IsImageLine (desk : Desk) (audience : Audience) (day : ℤ) (line : ImageLine) : Type 0 where
  pub image : ImageRow
  pub lines : List Line
  pub standing : get desk.images line.accession ≡ Some image
  pub deed : line.deed ≡ image.deed
  pub kind : line.kind ≡ image.kind
  pub listed : AreLines image (rules_for desk line.accession) audience day lines
  pub count : line.files ≡ length lines
  pub some : line.files ≢ 0

-- The accessions with at least one listed file, ascending: each of these is one, and none is left
-- out.
pub record AreImageLines (desk : Desk) (audience : Audience) (day : ℤ) (lines : List ImageLine) : Type 0 where
  pub each : All (IsImageLine desk audience day) lines
  pub ascending : AllPairs (λ one other. one.accession < other.accession) lines
  pub complete : (line : ImageLine) → IsImageLine desk audience day line → Contains lines line

-- ---- what is said

-- The requested accession, as it is listed.
pub record IsListing (desk : Desk) (audience : Audience) (day : ℤ) (acc : ℕ) (listing : Lines) : Type 0 where
  pub image : ImageRow
  pub standing : get desk.images acc ≡ Some image
  pub accession : listing.accession ≡ acc
  pub deed : listing.deed ≡ image.deed
  pub kind : listing.kind ≡ image.kind
  pub listed : AreLines image (rules_for desk acc) audience day listing.files

-- The contents of the file at a slot of an accession: lent from its image, by the record of the file as
-- the image has it, and their bytes are those of the file.
pub record LendsFile (desk : Desk) (acc slot : ℕ) (lent : Lent) : Type 0 where
  pub image : ImageRow
  pub standing : get desk.images acc ≡ Some image
  pub kind : lent.kind ≡ image.kind
  pub from_image : lent.image ≡ image.bytes
  pub at_slot : lent.file.slot ≡ slot
  pub described : IsFound image.kind image.bytes lent.file
  pub are : AreBytesOf image.kind image.bytes slot (bytes_lent lent)

-- All accessions, ascending, each as it is listed: each of these is one, and none is left out. An accession is there
-- even if no file of it is listed.
pub record AreListings (desk : Desk) (audience : Audience) (day : ℤ) (listings : List Lines) : Type 0 where
  pub each : All (λ listing. IsListing desk audience day listing.accession listing) listings
  pub ascending : AllPairs (λ one other. one.accession < other.accession) listings
  pub complete : (listing : Lines) → IsListing desk audience day listing.accession listing → Contains listings listing

-- What an image has on it, and the deed by which it came.
pub record IsSurveyOf (acc : ℕ) (image : ImageRow) (deed : DeedRow) (survey : Surveyed) : Type 0 where
  pub accession : survey.accession ≡ acc
  pub number : survey.deed ≡ image.deed
  pub donor : survey.donor ≡ deed.donor
  pub signed : IsDateOf deed.signed survey.signed
  pub kind : survey.kind ≡ image.kind
  pub report : IsReport image.kind image.bytes survey.report

-- The survey is of the image and the deed that stand.
pub record IsSurvey (desk : Desk) (acc : ℕ) (survey : Surveyed) : Type 0 where
  pub image : ImageRow
  pub deed : DeedRow
  pub standing : get desk.images acc ≡ Some image
  pub given : get desk.deeds image.deed ≡ Some deed
  pub described : IsSurveyOf acc image deed survey

-- ---- what becomes of the desk

-- what a check of an image that stands makes of the desk: what it finds is recorded on the day
abbrev pub with_checked : Option ImageRow → ℕ → ℤ → Desk → Desk
with_checked None acc day desk = desk
with_checked (Some image) acc day desk = with_check acc day (outcome_of image.bytes image.digest) desk

-- what an accepted request makes of the desk on a day: a put or a drop changes it, a check records its outcome for
-- the accession and the day, and all others (questions, surveys, rehearsals, the lists for the staff and the verdicts)
-- change nothing
abbrev pub carried_out : ℤ → What → Desk → Desk
carried_out day (Check acc) desk = with_checked (get desk.images acc) acc day desk
carried_out day (PutImage acc kind deed digest bytes) desk =
    with_image acc (record { kind = kind; deed = deed; digest = digest; bytes = bytes }) desk
carried_out day (PutDeed num donor signed) desk = with_deed num (record { donor = donor; signed = signed }) desk
carried_out day (PutRule rule) desk = with_rule (place_of rule) (terms_of rule) desk
carried_out day (DropRule band scope rank) desk = without_rule (record { band = band; scope = scope; rank = rank }) desk
carried_out day (PutKey digest audience) desk = with_key digest audience desk
carried_out day (DropKey digest) desk = without_key digest desk
carried_out day other desk = desk

-- ---- the answer to an accepted request

-- the answer to an accepted request: to a put or a drop that it is done, to a check what it found, to a rehearsal
-- what the command would change, and to each other what it asks for; the desk serves a file only if the verdict on it
-- is to read
abbrev pub Tells : Desk → Audience → ℤ → Option JudgedFile → Response → What → Type 0
Tells desk audience day file response.Done what = IsPutOrDrop what
Tells desk audience day file (response.Images lines) Images = AreImageLines desk audience day lines
Tells desk audience day file (response.Listed listing) (Listing acc) = IsListing desk audience day acc listing
Tells desk audience day file (response.File contents) (Bytes acc slot) =
    IsSomeAnd file (λ judged. judged.verdict.effect ≡ Read) × LendsFile desk acc slot contents
Tells desk audience day file (response.Catalogue listings) Catalogue = AreListings desk audience day listings
Tells desk audience day file (response.Surveyed survey) (Survey acc) = IsSurvey desk acc survey
Tells desk audience day file (response.Checked outcome) (Check acc) =
    IsSomeAnd (get desk.images acc) (λ image. outcome ≡ outcome_of image.bytes image.digest)
Tells desk audience day file (response.Deeds lines) Deeds = lines ≡ deed_lines desk
Tells desk audience day file (response.Takedowns lines) Takedowns = lines ≡ takedown_lines desk
Tells desk audience day file (response.Keys lines) Keys = lines ≡ key_lines desk
Tells desk audience day file (response.Checks lines) Checks = lines ≡ check_lines desk
Tells desk audience day file (response.Today told) Today = told ≡ day
Tells desk audience day file (response.Verdicts verdicts) (Verdicts on) = AreVerdicts desk on verdicts
Tells desk audience day file (response.Verdicts verdicts) (VerdictsOf on acc) = AreVerdictsOf desk on (acc ∷ []) verdicts
Tells desk audience day file (response.Rehearsed differences) (RehearseRule on rule) = IsRehearsal desk (carried_out day (PutRule rule) desk) on differences
Tells desk audience day file (response.Rehearsed differences) (RehearseDrop on band scope rank) = IsRehearsal desk (carried_out day (DropRule band scope rank) desk) on differences
Tells desk audience day file answer what = ⊥

-- the desk after a request on a day: an accepted one is carried out, and a refused one changes nothing
abbrev pub IsStep : Desk → ℤ → Request → Desk → Type 0
IsStep old day request new =
    (IsAcceptedOn old day request × (new ≡ carried_out day request.what old))
    ⊎ (((refusal : Refusal) × IsRefusedOn old day request refusal) × (new ≡ old))

-- ---- answers

-- The request is accepted and carried out, and this is said.
pub record IsDone (old : Desk) (day : ℤ) (request : Request) (answer : Response) (new : Desk) : Type 0 where
  pub file : Option JudgedFile
  pub audience : Audience
  pub asked : IsAsked old day request file
  pub caller : audience_of old request.badge ≡ Some audience
  pub accepted : IsAccepted old request file
  pub tells : Tells old audience day file answer request.what
  pub after : new ≡ carried_out day request.what old

-- the answer to a request on a day, and the desk after it
abbrev pub IsAnswered : Desk → ℤ → Request → Response → Desk → Type 0
IsAnswered old day request (response.Refused refusal) new = IsRefusedOn old day request refusal × (new ≡ old)
IsAnswered old day request answer new = IsDone old day request answer new

-- A request has a reply: there is an answer, and the reply is its text.
pub record IsReply (old : Desk) (day : ℤ) (request : Request) (reply : Reply) (new : Desk) : Type 0 where
  pub answer : Response
  pub answered : IsAnswered old day request answer new
  pub written : reply ≡ reply_of answer

-- There was no answer, because memory or the store failed, and nothing has changed.
pub record IsUnavailable (old : Desk) (reply : Reply) (new : Desk) : Type 0 where
  pub written : reply ≡ UNAVAILABLE
  pub after : new ≡ old

-- the desk replies to a request; or it is unavailable, and nothing changes
abbrev pub Answers : Desk → ℤ → Request → Reply → Desk → Type 0
Answers old day request reply new = IsReply old day request reply new ⊎ IsUnavailable old reply new
