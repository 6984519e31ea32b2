-- The reply to a request, from the answer.
use Rattle.std.proofs.Common.{◌≡◌, ◌≢◌, ◌⊎◌, inl, inr, ◌∙◌, ℕ, ℤ, List, Option, Some, None, Result, Ok, Err, IfOk, IsOk, OnOk, refl, subst}
use Rattle.sqlite.specs.Store.{Ghosts}
use Rattle.sqlite.specs.Held.{Held}
use Rattle.rd_policy.specs.declared.audience.Audience.{Audience}
use Rattle.rd_store.specs.Held.{IsAtRest, IsOpen, LeavesOpen, desk}
use Rattle.rd_holdings.specs.State.{Desk}
use Rattle.rd_desk.specs.Calls.{IsOfChange, IsResponse, IsResponseAfter, IsWritten, MakesOneChange, MakesResponse}
use Rattle.rd_protocol.specs.Judged.{JudgedFile, audience_of}
use Rattle.rd_protocol.specs.Replies.{Answers, IsAnswered, IsReply, Tells, carried_out}
use Rattle.rd_protocol.specs.Requests.{IsForStaff}
use Rattle.rd_desk.specs.Served.{IsTurnedAway, Responds, Serves}
use Rattle.rd_protocol.specs.Texts.{UNAVAILABLE, reply_of}
use Rattle.rd_protocol.specs.declared.refusal.Refusal.TheVariants.{StaffOnly}
use Rattle.rd_protocol.specs.declared.request.Request.{Request}
use Rattle.rd_protocol.specs.declared.request.What.{What}
use Rattle.rd_protocol.specs.declared.request.What.TheVariants.{Images, Listing, Bytes, Catalogue, Survey, Deeds, Takedowns, Keys, Checks, Today, Verdicts, VerdictsOf, RehearseRule, RehearseDrop}
use Rattle.rd_protocol.specs.declared.response.Reply.{Reply}
use Rattle.rd_protocol.specs.declared.response.Response.{Response}
use Rattle.rd_protocol.specs.declared.response.Response.TheVariants as response
use Rattle.rd_protocol.proofs.StaffRefusals.{is_for_staff}
use Rattle.rd_protocol.proofs.RepeatedCommands.{answered_again, same_again}
use Rattle.rd_protocol.proofs.ReplyHiding.{hides}
use Rattle.rd_desk.proofs.OneChange.{one_change_written}
use Rattle.rd_protocol.proofs.ShownDesks.{tells_what_is_shown}

-- a request whose answer is not of a change changes nothing
changes_nothing : (old : Desk) (audience : Audience) (day : ℤ) (file : Option JudgedFile) (answer : Response) (what : What) → ¬ IsOfChange answer
    → Tells old audience day file answer what → carried_out day what old ≡ old
changes_nothing old audience day file response.Done what other tells = absurd (other tt)
changes_nothing old audience day file (response.Checked outcome) what other tells = absurd (other tt)
changes_nothing old audience day file (response.Refused refusal) what other tells = absurd tells
changes_nothing old audience day file (response.Images lines) Images other tells = refl
changes_nothing old audience day file (response.Images lines) what other tells = absurd tells
changes_nothing old audience day file (response.Listed listing) (Listing acc) other tells = refl
changes_nothing old audience day file (response.Listed listing) what other tells = absurd tells
changes_nothing old audience day file (response.File bytes) (Bytes acc slot) other tells = refl
changes_nothing old audience day file (response.File bytes) what other tells = absurd tells
changes_nothing old audience day file (response.Catalogue listings) Catalogue other tells = refl
changes_nothing old audience day file (response.Catalogue listings) what other tells = absurd tells
changes_nothing old audience day file (response.Surveyed survey) (Survey acc) other tells = refl
changes_nothing old audience day file (response.Surveyed survey) what other tells = absurd tells
changes_nothing old audience day file (response.Deeds lines) Deeds other tells = refl
changes_nothing old audience day file (response.Deeds lines) what other tells = absurd tells
changes_nothing old audience day file (response.Takedowns lines) Takedowns other tells = refl
changes_nothing old audience day file (response.Takedowns lines) what other tells = absurd tells
changes_nothing old audience day file (response.Keys lines) Keys other tells = refl
changes_nothing old audience day file (response.Keys lines) what other tells = absurd tells
changes_nothing old audience day file (response.Checks lines) Checks other tells = refl
changes_nothing old audience day file (response.Checks lines) what other tells = absurd tells
changes_nothing old audience day file (response.Today told) Today other tells = refl
changes_nothing old audience day file (response.Today told) what other tells = absurd tells
changes_nothing old audience day file (response.Verdicts all) (Verdicts on) other tells = refl
changes_nothing old audience day file (response.Verdicts all) (VerdictsOf on acc) other tells = refl
changes_nothing old audience day file (response.Verdicts all) what other tells = absurd tells
changes_nothing old audience day file (response.Rehearsed differences) (RehearseRule on rule) other tells = refl
changes_nothing old audience day file (response.Rehearsed differences) (RehearseDrop on band scope rank) other tells = refl
changes_nothing old audience day file (response.Rehearsed differences) what other tells = absurd tells

untold : (old : Desk) (day : ℤ) (request : Request) (answer : Response) (new : Desk) → ¬ IsOfChange answer → IsAnswered old day request answer new → new ≡ old
untold old day request (response.Refused refusal) new other answered = answered.1
untold old day request answer new other answered =
    answered.after ∙ changes_nothing old answered.audience day answered.file answer request.what other answered.tells

-- what is written is the reply, or that it is unavailable
replied : {X : Type 0} (old : Desk) (day : ℤ) (request : Request) (result : Result Response X) (reply : Reply) (new : Desk) → IsWritten result reply → IsResponse old day request result new
    → Answers old day request reply new
replied old day request (Ok answer) reply new (inl written) answered = inl (record { answer = answer; answered = answered; written = written })
replied old day request (Ok answer) reply new (inr (written, other)) answered = inr (record { written = written; after = untold old day request answer new other answered })
replied old day request (Err fault) reply new written same = inr (record { written = written; after = same })

-- what was asked and is asked again
replied_again : (old : Desk) (day : ℤ) (request : Request) (reply : Reply) (new : Desk) → Answers old day request reply new → reply ≢ UNAVAILABLE → IsForStaff request.what
    → audience_of new request.badge ≡ audience_of old request.badge → IsReply new day request reply new
replied_again old day request reply new (inl answered) told command key = same_again old day request reply new command key answered
replied_again old day request reply new (inr unavailable) told command key = absurd (told unavailable.written)

-- what is answered is answered again
responded_again : {X : Type 0} (old : Desk) (day : ℤ) (request : Request) (result : Result Response X) (new : Desk) → IsResponse old day request result new → IsForStaff request.what
    → audience_of new request.badge ≡ audience_of old request.badge → IfOk result (λ answer. IsAnswered new day request answer new)
responded_again old day request (Ok answer) new answered command key = answered_again old day request answer new command key answered
responded_again old day request (Err fault) new same command key = tt

module _ {S X : Type 0} (g : Ghosts S) (old new : Held S) (day : ℤ) (request : Request) (result : Result Response X) where
  ends : OnOk result (IsOpen g new) → IsOk result → IsOpen g new
  ends = at result
    where
      at : (result : Result Response X) → OnOk result (IsOpen g new) → IsOk result → IsOpen g new
      at (Ok answer) opens ok = opens
      at (Err fault) opens ok = cc

  pub responds : MakesResponse g old new day request result → IsAtRest g new
      → MakesOneChange g old new day request.what (λ told. IsResponseAfter told result)
      → LeavesOpen g new result ⊎ ((request.badge ≡ None) × IsForStaff request.what × (result ≡ Ok (response.Refused StaffOnly)) × (new ≡ old))
      → Responds g old new day request result
  responds makes rests changes ending = record {
    lasts = makes.lasts;
    answers = makes.judged;
    ends_open = λ clean ok. elim ending [
      | inl opens ↦ inl (ends (opens clean) ok)
      | inr away ↦ inr (record { nobody = away.0; for_staff = away.1; refused = away.2; same = away.3 })
    ];
    crash = makes.crash;
    durable = makes.durable;
    staffed = λ o. (rests.lawful o).staff;
    again = λ o. responded_again (desk g old) day request result (desk g new) (makes.judged o);
    one_change = changes;
  }

module _ {S X : Type 0} (g : Ghosts S) (old new : Held S) (day : ℤ) (request : Request) (result : Result Response X) (reply : Reply) (written : IsWritten result reply) where
  answered : reply ≢ UNAVAILABLE → IsOk result
  answered told = at result written
    where
      at : (result : Result Response X) → IsWritten result reply → IsOk result
      at (Ok answer) written = refl
      at (Err fault) written = absurd (told written)

  turned : reply ≢ UNAVAILABLE → IsTurnedAway old new request (λ refused. result ≡ Ok refused) → IsTurnedAway old new request (λ refused. reply ≡ reply_of refused)
  turned told away = record { nobody = away.nobody; for_staff = away.for_staff; refused = go (subst (λ (r : Result Response X). IsWritten r reply) away.refused written); same = away.same }
    where
      go : IsWritten {X = X} (Ok (response.Refused StaffOnly)) reply → reply ≡ reply_of (response.Refused StaffOnly)
      go (inl is) = is
      go (inr none) = absurd (told none.0)

  pub serves : Responds g old new day request result → Serves g old new day request reply
  serves responds = record {
    lasts = responds.lasts;
    answers = replies;
    ends_open = λ clean told. elim (responds.ends_open clean (answered told)) [
      | inl opens ↦ inl opens
      | inr away ↦ inr (turned told away)
    ];
    crash = responds.crash;
    durable = responds.durable;
    staffed = responds.staffed;
    again = λ o told command key. replied_again (desk g old) day request reply (desk g new) (replies o) told command key;
    hides = λ o. hides (desk g old) day request reply (desk g new) (replies o);
    tells = λ o. tells_what_is_shown (desk g old) day request reply (desk g new) (replies o);
    one_change = one_change_written g old new day request.what result reply written responds.one_change;
  }
    where
      replies : IsOpen g new → Answers (desk g old) day request reply (desk g new)
      replies o = replied (desk g old) day request result reply (desk g new) written (responds.answers o)

-- the store is open after Ok, or the caller was turned away
pub ending : {S X : Type 0} (g : Ghosts S) (old new : Held S) (request : Request) (result : Result Response X)
    → ((request.badge ≡ None → ¬ IsForStaff request.what) → LeavesOpen g new result)
    → (request.badge ≡ None → IsForStaff request.what → (result ≡ Ok (response.Refused StaffOnly)) × (new ≡ old))
    → LeavesOpen g new result ⊎ ((request.badge ≡ None) × IsForStaff request.what × (result ≡ Ok (response.Refused StaffOnly)) × (new ≡ old))
ending {X = X} g old new request result opens away = elim (is_for_staff request.what) [
  | inl command ↦ at command request.badge refl
  | inr query ↦ inl (opens (λ nobody. query))
]
  where
    at : IsForStaff request.what → (badge : Option (List ℕ)) → request.badge ≡ badge
        → LeavesOpen g new result ⊎ ((request.badge ≡ None) × IsForStaff request.what × (result ≡ Ok (response.Refused StaffOnly)) × (new ≡ old))
    at command None is = let turned = away is command in inr (is, command, turned.0, turned.1)
    at command (Some digest) is = inl (opens (λ nobody for_staff. cc))
