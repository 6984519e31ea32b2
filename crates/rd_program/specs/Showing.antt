-- What the commands `export`, `check` and `show` give of a desk.
use Rattle.std.specs.Prelude.{◌≡◌, ◌⊎◌, ⊤, ◌++◌, ℕ, ℤ, Bool, List, [], IfErr, IfOk, IfSome, IsSome, None, OnOk, Option, Result, Some, false, option_map, true}
use Rattle.std.specs.Io.KnownBytes.{Appends}
use Rattle.sha2.specs.Sha256.{sha256}
use Rattle.sqlite.specs.Held.{Held, state}
use Rattle.sqlite.specs.Store.{Ghosts}
use Rattle.rd_holdings.specs.State.{Desk}
use Rattle.rd_holdings.specs.declared.rows.Outcome.{Outcome}
use Rattle.rd_holdings.specs.declared.rows.Outcome.TheVariants.{Changed, Sound}
use Rattle.rd_protocol.specs.Judged.{IsRefusedOn}
use Rattle.rd_protocol.specs.Replies.{IsAnswered, IsReply}
use Rattle.rd_protocol.specs.declared.refusal.Refusal.{Refusal as Reason}
use Rattle.rd_protocol.specs.declared.refusal.Refusal.TheVariants as desk_refusal
use Rattle.rd_protocol.specs.declared.request.Request.{Request}
use Rattle.rd_protocol.specs.declared.request.What.{What}
use Rattle.rd_protocol.specs.declared.request.What.TheVariants as request
use Rattle.rd_protocol.specs.declared.response.Form.{Form}
use Rattle.rd_protocol.specs.declared.response.Form.TheVariants.{Csv, Json, Octets}
use Rattle.rd_protocol.specs.declared.response.Reply.{Reply}
use Rattle.rd_protocol.specs.declared.response.Response.TheVariants.{Checked}
use Rattle.rd_store.specs.Held.{IsClean, IsOpen, desk}
use Rattle.rd_store.specs.Migrated.{SpellsDesk}
use Rattle.rd_program.specs.Asking.{RefusesOneQuestion}
use Rattle.rd_program.specs.Leaves.{IsDayAt, IsSame, LeavesStore, moment_of}
use Rattle.rd_commands.specs.Asks.{IsCheckOf}
use Rattle.rd_commands.specs.Printed.{line_feed}
use Rattle.rd_commands.specs.declared.refusal.Refusal.{Refusal}
use Rattle.rd_commands.specs.declared.refusal.Refusal.TheVariants.{NoAccession, StaffOnly, Store, UnknownKey}
use Rattle.rd_commands.specs.declared.done.Done.{Done}
use Rattle.rd_commands.specs.declared.done.Done.TheVariants.{InPart, Whole}
use Rattle.rd_commands.specs.declared.words.OneQuestionAsk.{OneQuestionAsk}
use Rattle.rd_commands.specs.declared.words.Question.{Question}
use Rattle.rd_commands.specs.declared.words.Question.TheVariants as question
use Rattle.rd_commands.specs.declared.words.Shown.{Shown}
use Rattle.rd_commands.specs.declared.words.Shown.TheVariants as item

-- ---- the request, and the text of its reply

-- what a desk is asked, to show this
abbrev pub what_of : Shown → What
what_of item.Deeds = request.Deeds
what_of item.Takedowns = request.Takedowns
what_of item.Keys = request.Keys
what_of item.Checks = request.Checks
what_of (item.Verdicts day) = request.Verdicts day
what_of (item.VerdictsOf day acc) = request.VerdictsOf day acc

-- what a desk is asked, for a question whose answer is shown
abbrev pub what_to_show : Question → Option What
what_to_show question.Catalogue = Some request.Catalogue
what_to_show (question.Show shown) = Some (what_of shown)
what_to_show (question.Check acc) = None

-- what a desk is asked, for a question
abbrev pub asked_of : Question → What
asked_of question.Catalogue = request.Catalogue
asked_of (question.Check acc) = request.Check acc
asked_of (question.Show shown) = what_of shown

-- a caller with this badge asks this
abbrev pub request_of : Option (List ℕ) → What → Request
request_of badge what = record { badge = badge; what = what }

-- a line feed comes after a JSON value
abbrev pub feed_after : Form → List ℕ
feed_after Json = line_feed
feed_after Csv = []
feed_after Octets = []

-- what is written of a reply: its body, and after JSON a line feed
abbrev pub shown_text : Reply → List ℕ
shown_text reply = reply.body.bytes ++ feed_after reply.form

-- ---- what is shown, what is found, and what is refused

-- The desk that stood replies to the request, on one of these days, with this reply, which has the status 200, and is as
-- it was after that; and the text of the reply was written.
pub record Shows (Days : ℤ → Type 0) (asked : Request) (stood : Desk) (old new : Option (List ℕ)) : Type 0 where
  pub day : ℤ
  pub on : Days day
  pub reply : Reply
  pub is : IsReply stood day asked reply stood
  pub done : reply.status ≡ 200
  pub written : Appends old new (shown_text reply)

-- The desk that stood answers the request, on one of these days, that its check found this, and is this one after it.
pub record Finds (Days : ℤ → Type 0) (asked : Request) (outcome : Outcome) (stood after : Desk) : Type 0 where
  pub day : ℤ
  pub on : Days day
  pub is : IsAnswered stood day asked (Checked outcome) after

-- the request to show something is of one accession, which may not be there
abbrev pub names_accession : What → Bool
names_accession (request.VerdictsOf day acc) = true
names_accession other = false

-- why nothing is shown, and what was written then: as for a check, but `no-accession` only of a request of one accession
abbrev pub RefusesShow : What → Option (List ℕ) → Option (List ℕ) → Refusal → Type 0
RefusesShow what old new refusal = RefusesOneQuestion old new refusal × (refusal ≡ NoAccession → names_accession what ≡ true)

-- the desk that stood refuses the request for this reason, on one of these days
abbrev pub IsRefusedFor : (ℤ → Type 0) → Request → Reason → Desk → Type 0
IsRefusedFor Days asked reason stood = (day : ℤ) × Days day × IsRefusedOn stood day asked reason

-- ---- two connections

-- If the disk has returned what was written, this holds of the desk that the tables spelled and of the one that they
-- spell now.
abbrev pub HoldsOfDesks : {S : Type 0} → Ghosts S → (Desk → Desk → Type 0) → Held S → Held S → Type 0
HoldsOfDesks g P before last = IsClean g last → (stood : Desk) × SpellsDesk (state g before).now stood × P stood (desk g last)

-- A connection stood, and the command ended with this one, of which this holds; it is the one that the machine took
-- back, if the machine shows both.
abbrev pub EndsWith : {S : Type 0} → Option (Held S) → Option (Held S) → (Held S → Held S → Type 0) → Type 0
EndsWith {S} old new P = IfSome old (λ before. (last : Held S) × P before last × IfSome new (λ after. last ≡ after))

-- The desk that stood is as it was, and what it shows was written.
pub record ShowsStore {S : Type 0} (g : Ghosts S) (Days : ℤ → Type 0) (asked : Request) (out_before out_after : Option (List ℕ)) (before last : Held S) : Type 0 where
  pub leaves : LeavesStore g IsSame before last
  pub shows : HoldsOfDesks g (λ stood after. Shows Days asked stood out_before out_after) before last

-- the desk that stood finds this of the image of the accession, for a caller with this badge, and records it
abbrev pub FindsStore : {S : Type 0} → Ghosts S → (ℤ → Type 0) → Option (List ℕ) → ℕ → Outcome → Held S → Held S → Type 0
FindsStore g Days badge acc outcome = HoldsOfDesks g (Finds Days (request_of badge (request.Check acc)) outcome)

-- a request is refused by these names only where the desk that stood refuses it so
abbrev pub IsDueIn : {S : Type 0} → Ghosts S → (ℤ → Type 0) → Request → Option (Held S) → Option (Held S) → Refusal → Type 0
IsDueIn g Days asked old new UnknownKey = EndsWith old new (HoldsOfDesks g (λ stood after. IsRefusedFor Days asked desk_refusal.UnknownKey stood))
IsDueIn g Days asked old new StaffOnly = EndsWith old new (HoldsOfDesks g (λ stood after. IsRefusedFor Days asked desk_refusal.StaffOnly stood))
IsDueIn g Days asked old new NoAccession = EndsWith old new (HoldsOfDesks g (λ stood after. IsRefusedFor Days asked desk_refusal.NoAccession stood))
IsDueIn g Days asked old new refusal = ⊤

-- what a check has found, by how much was done
abbrev pub found_by : Done → Outcome
found_by Whole = Sound
found_by InPart = Changed

-- the SHA-256 of the key of the caller, if there is one
abbrev pub badge_of : OneQuestionAsk → Option (List ℕ)
badge_of ask = option_map sha256 (option_map (λ key. key.now) ask.key)

-- ---- by what is asked for

-- What `export`, `check` and `show` do, by the moment that the clock shows, the connection that stood, the one that is
-- left, and what was written: what was asked to be shown was written; a check has found what its line says, and recorded
-- it; and a refusal of a caller who shows a key, or who asks for the catalogue, is due.
pub record AnswersOneQuestion {S : Type 0} (g : Ghosts S) (clock : Option ℤ) (stood left : Option (Held S)) (out written : Option (List ℕ)) (ask : OneQuestionAsk)
    (result : Result Done Refusal) : Type 0 where
  pub shown : (what : What) → what_to_show ask.question ≡ Some what
      → OnOk result (EndsWith stood left (ShowsStore g (IsDayAt (moment_of ask.when.seconds clock) ask.when.zone) (request_of (badge_of ask) what) out written))
  pub not_shown : (what : What) → what_to_show ask.question ≡ Some what → IfErr result (RefusesShow what out written)
  pub found : (acc : ℕ) → IsCheckOf acc ask.question
      → IfOk result (λ done. EndsWith stood left (FindsStore g (IsDayAt (moment_of ask.when.seconds clock) ask.when.zone) (badge_of ask) acc (found_by done)))
  pub due : IsSome ask.key ⊎ (ask.question ≡ question.Catalogue)
      → IfErr result (IsDueIn g (IsDayAt (moment_of ask.when.seconds clock) ask.when.zone) (request_of (badge_of ask) (asked_of ask.question)) stood left)

-- ---- inside

-- the request asks for something to show
abbrev pub IsToShow : What → Type 0
IsToShow request.Catalogue = ⊤
IsToShow request.Deeds = ⊤
IsToShow request.Takedowns = ⊤
IsToShow request.Keys = ⊤
IsToShow request.Checks = ⊤
IsToShow (request.Verdicts day) = ⊤
IsToShow (request.VerdictsOf day acc) = ⊤
IsToShow other = ⊥

-- of a reply to the staff: a refusal of the caller or, where the request is of one accession, that it is not there; or the
-- store failed
abbrev pub IsShowRefusal : Bool → Refusal → Type 0
IsShowRefusal named refusal = (refusal ≡ UnknownKey) ⊎ ((refusal ≡ StaffOnly) ⊎ (((refusal ≡ NoAccession) × (named ≡ true)) ⊎ (refusal ≡ Store)))

-- if the disk has returned what was written, the connection is open, and this holds of the desk that it showed and of
-- the one that it shows
abbrev pub OfDesk : {S : Type 0} → Ghosts S → (Desk → Desk → Type 0) → Held S → Held S → Type 0
OfDesk g P opened last = IsClean g last → IsOpen g last × P (desk g opened) (desk g last)

-- an open desk refuses the request so where the program says so
abbrev pub IsDueOn : {S : Type 0} → Ghosts S → (ℤ → Type 0) → Request → Held S → Held S → Refusal → Type 0
IsDueOn g Days asked opened last UnknownKey = OfDesk g (λ stood after. IsRefusedFor Days asked desk_refusal.UnknownKey stood) opened last
IsDueOn g Days asked opened last StaffOnly = OfDesk g (λ stood after. IsRefusedFor Days asked desk_refusal.StaffOnly stood) opened last
IsDueOn g Days asked opened last NoAccession = OfDesk g (λ stood after. IsRefusedFor Days asked desk_refusal.NoAccession stood) opened last
IsDueOn g Days asked opened last refusal = ⊤
