-- What the functions that make up an answer say of the store.
use Rattle.std.specs.Prelude.{◌≡◌, ◌≢◌, ◌⊎◌, ◌++◌, ◌∷◌, [], ℕ, ℤ, List, Option, Some, None, IsSomeAnd, Result, Ok, Err, MatchOption, option_map, ⊤}
use Rattle.std.specs.FinMap.{get}
use Rattle.sqlite.specs.Store.{Ghosts}
use Rattle.sqlite.specs.Tree.{Trees}
use Rattle.sqlite.specs.Held.{Held}
use Rattle.sha2.specs.Sha256.{sha256}
use Rattle.rd_policy.specs.declared.audience.Audience.{Audience}
use Rattle.rd_policy.specs.declared.audience.Audience.TheVariants.{Staff}
use Rattle.rd_policy.specs.declared.rule.Band.{Band}
use Rattle.rd_policy.specs.declared.rule.Band.TheVariants.{Takedown, Deed}
use Rattle.rd_store.specs.Batched.{IsIndexed}
use Rattle.rd_store.specs.Held.{Changes, IsClean, IsLeft, IsOpen, Keeps, Lasts, LeavesOnly, LeavesOpen, Reads, desk}
use Rattle.rd_policy.specs.declared.rule.Rule.{Rule}
use Rattle.rd_holdings.specs.State.{Desk, all_rules, rules_for, accession_of}
use Rattle.rd_store.specs.declared.faults.StoreFault.{StoreFault}
use Rattle.rd_holdings.specs.declared.rows.Accession.{Accession}
use Rattle.rd_holdings.specs.declared.rows.ImageRow.{ImageRow}
use Rattle.rd_holdings.specs.declared.rows.Indexed.{Indexed}
use Rattle.rd_protocol.specs.Judged.{IsAccepted, IsRefused, audience_of, image_of}
use Rattle.rd_protocol.specs.Replies.{IsAnswered, IsStep, IsSurvey, Tells, carried_out}
use Rattle.rd_protocol.specs.Requests.{IsForStaff, MayChange}
use Rattle.rd_protocol.specs.Verdicts.{IsVerdictsOf}
use Rattle.rd_desk.specs.declared.asking.AccessionRules.{AccessionRules}
use Rattle.rd_protocol.specs.declared.refusal.Refusal.{Refusal}
use Rattle.rd_protocol.specs.declared.refusal.Refusal.TheVariants.{NoAccession, NoDeed}
use Rattle.rd_protocol.specs.declared.request.Request.{Request}
use Rattle.rd_protocol.specs.declared.request.What.{What}
use Rattle.rd_protocol.specs.Texts.{UNAVAILABLE, reply_of}
use Rattle.rd_protocol.specs.declared.response.Reply.{Reply}
use Rattle.rd_protocol.specs.declared.response.Response.{Response}
use Rattle.rd_protocol.specs.declared.response.Survey.{Survey}
use Rattle.rd_protocol.specs.declared.response.Verdicts.{Verdicts}
use Rattle.rd_protocol.specs.declared.response.Response.TheVariants.{Refused, Done, Checked}

-- the accession stands, and its image is of this kind and came by this deed
abbrev pub IsRegistered : Desk → ℕ → Accession → Type 0
IsRegistered desk acc accession = option_map accession_of (get desk.images acc) ≡ Some accession

-- the accession stands, and its kind, its deed and its files are those of its image
abbrev pub StandsAs : Desk → Indexed → Type 0
StandsAs desk one = (image : ImageRow) × (get desk.images one.acc ≡ Some image) × IsIndexed (one.acc, image) one

-- if lines say this of accessions of a desk with these rules, then all say it of these and of one accession more
abbrev pub SaysMore : {L : Type 0} → (Desk → List ℕ → List L → Type 0) → List Rule → Indexed → List L → List L → Type 0
SaysMore Says rules one lines all = (desk : Desk) (accs : List ℕ) → rules ≡ all_rules desk → StandsAs desk one → Says desk accs lines → Says desk (accs ++ one.acc ∷ []) all

-- an accession that stands: the kind of its image, its deed and the rules for it
abbrev pub AreAccessionRules : Desk → ℕ → AccessionRules → Type 0
AreAccessionRules desk acc loaded =
    (image : ImageRow) × (get desk.images acc ≡ Some image) × (loaded.kind ≡ image.kind) × (loaded.deed ≡ image.deed) × (loaded.rules ≡ rules_for desk acc)

-- the survey of an accession, or nothing if it does not stand
abbrev pub IsSurveyAt : Desk → ℕ → Option Survey → Type 0
IsSurveyAt desk acc found = MatchOption found (get desk.images acc ≡ None) (IsSurvey desk acc)

-- a takedown lacks its accession, and a rule of a deed lacks its deed
abbrev pub missing_of : Band → Refusal
missing_of Takedown = NoAccession
missing_of Deed = NoDeed

-- this is true of the request of each caller of an audience, whatever their badge
abbrev pub ForEachCaller : Desk → Audience → What → (Request → Type 0) → Type 0
ForEachCaller desk audience what Is =
    (badge : Option (List ℕ)) → audience_of desk badge ≡ Some audience → Is (record { badge = badge; what = what })

-- this is the answer to each caller of an audience who asks this on a day, and the desk stays the same
abbrev pub IsResponseTo : Desk → Audience → ℤ → What → Response → Type 0
IsResponseTo desk audience day what answer = ForEachCaller desk audience what (λ request. IsAnswered desk day request answer desk)

-- the desk after what the staff asks, by its answer: the next one if it is carried out, and the old
-- one if it is refused or has no answer
abbrev pub IsCarriedOut : {X : Type 0} → Desk → ℤ → What → Result Response X → Desk → Type 0
IsCarriedOut old day what (Ok (Refused refusal)) new =
    ForEachCaller old Staff what (λ request. IsRefused old request None refusal) × (new ≡ old)
IsCarriedOut old day what (Ok answer) new =
    ForEachCaller old Staff what (λ request. IsAccepted old request None) × Tells old Staff day None answer what × (new ≡ carried_out day what old)
IsCarriedOut old day what (Err fault) new = new ≡ old

-- an image that is put has the digest given for it
abbrev pub HasItsDigest : What → Type 0
HasItsDigest what = ¬ IsSomeAnd (image_of what) (λ image. sha256 image.bytes ≢ image.digest)

-- What the staff asks on a day. A crash leaves either the old desk or the one after it, and
-- then an image that was put has the digest given for it. (The other reasons to refuse it do not
-- need to be named: the desk after it is lawful.)
pub record Carries {S X : Type 0} (g : Ghosts S) (old new : Held S) (day : ℤ) (what : What) (result : Result Response X) : Type 0 where
  pub lasts : Lasts g old new
  pub judged : IsOpen g new → IsCarriedOut (desk g old) day what result (desk g new)
  pub stays_open : IsOpen g old → LeavesOpen g new result
  pub crash : IsOpen g old → IsClean g new → (left : Trees) → g.recovers new.store left
      → IsLeft (desk g old) left ⊎ (HasItsDigest what × IsLeft (carried_out day what (desk g old)) left)
  pub durable : IsOpen g new → LeavesOnly g new (desk g new)

-- what a caller of an audience asks on a day: a question is answered, and what only the staff may ask is carried out
abbrev pub DoesAsAsked : {S X : Type 0} → Ghosts S → Held S → Held S → Audience → ℤ → What → Result Response X → Type 0
DoesAsAsked g old new audience day what result =
    (¬ IsForStaff what × Reads g old new result (IsResponseTo (desk g old) audience day what))
    ⊎ (IsForStaff what × Carries g old new day what result)

-- the verdicts on the files of an accession on a day, or nothing if it does not stand
abbrev pub AreVerdictsAt : Desk → ℤ → ℕ → Option Verdicts → Type 0
AreVerdictsAt desk day acc found = MatchOption found (get desk.images acc ≡ None) (IsVerdictsOf desk day acc)

-- an answer, or none and the desk as before
abbrev pub IsResponse : {X : Type 0} → Desk → ℤ → Request → Result Response X → Desk → Type 0
IsResponse old day request (Ok answer) new = IsAnswered old day request answer new
IsResponse old day request (Err fault) new = new ≡ old

-- A crash leaves the desk, or the one after the step.
abbrev pub LeavesStep : {S : Type 0} → Ghosts S → Held S → Held S → ℤ → Request → Type 0
LeavesStep g old new day request = (left : Trees) → g.recovers new.store left
    → IsLeft (desk g old) left ⊎ ((after : Desk) × IsStep (desk g old) day request after × IsLeft after left)

-- Any request.
pub record MakesResponse {S X : Type 0} (g : Ghosts S) (old new : Held S) (day : ℤ) (request : Request) (result : Result Response X) : Type 0 where
  pub lasts : Lasts g old new
  pub judged : IsOpen g new → IsResponse (desk g old) day request result (desk g new)
  pub crash : IsOpen g old → IsClean g new → LeavesStep g old new day request
  pub durable : IsOpen g new → LeavesOnly g new (desk g new)

-- the answers after which the desk may have changed
abbrev pub IsOfChange : Response → Type 0
IsOfChange Done = Unit {0}
IsOfChange (Checked outcome) = Unit {0}
IsOfChange other = ⊥

-- the reply says the answer; if there is no answer, or no memory for the reply, it says that the
-- desk is unavailable, but never after the desk has changed
abbrev pub IsWritten : {X : Type 0} → Result Response X → Reply → Type 0
IsWritten (Ok answer) reply = (reply ≡ reply_of answer) ⊎ ((reply ≡ UNAVAILABLE) × ¬ IsOfChange answer)
IsWritten (Err fault) reply = reply ≡ UNAVAILABLE

-- the answer after a call that changes the desk: that it is done, or what a check found, exactly
-- after Ok
abbrev pub IsResponseAfter : {X : Type 0} → Result ⊤ StoreFault → Result Response X → Type 0
IsResponseAfter (Ok done) (Ok Done) = Unit {0}
IsResponseAfter (Ok done) (Ok (Checked outcome)) = Unit {0}
IsResponseAfter (Err fault) (Ok (Refused refusal)) = Unit {0}
IsResponseAfter (Err fault) (Err none) = Unit {0}
IsResponseAfter stored answer = ⊥

-- One call that carries out a request on a day, or changes nothing, and what it returned. After Ok it has carried it
-- out, and after an error it has changed nothing (`Held.Changes` of `rd_store`).
pub record IsOneChange {S : Type 0} (g : Ghosts S) (old new : Held S) (day : ℤ) (what : What) (Returned : Result ⊤ StoreFault → Type 0) : Type 0 where
  pub result : Result ⊤ StoreFault
  pub changes : Changes g old new (carried_out day what (desk g old)) result
  pub returned : Returned result

-- The store is as calls that read left it; or it is as one call left it that came after them and carried
-- out the request on a day, or changed nothing. Only a request that may change the desk makes such a call.
pub record MakesOneChange {S : Type 0} (g : Ghosts S) (old new : Held S) (day : ℤ) (what : What) (Returned : Result ⊤ StoreFault → Type 0) : Type 0 where
  pub middle : Held S
  pub reads : Keeps g old middle
  pub last : (new ≡ middle) ⊎ (MayChange what × IsOneChange g middle new day what Returned)
