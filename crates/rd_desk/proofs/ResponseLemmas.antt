-- Calls one after the other, and what they say of a request.
use Rattle.std.proofs.Common.{◌≡◌, ◌≢◌, ◌⊎◌, inl, inr, ℕ, ℤ, List, Option, Some, None, Result, Ok, Err, IfOk, refl, sym, subst, ap, ◌∙◌}
use Rattle.sqlite.specs.Store.{Ghosts}
use Rattle.sqlite.specs.Tree.{Trees}
use Rattle.sqlite.specs.Held.{Held}
use Rattle.rd_policy.specs.declared.audience.Audience.{Audience}
use Rattle.rd_policy.specs.declared.audience.Audience.TheVariants.{Staff}
use Rattle.rd_store.specs.Held.{IsAtRest, IsClean, IsLeft, IsOpen, Keeps, LeavesOnly, Reads, desk}
use Rattle.rd_holdings.specs.Lawful.{IsLawful}
use Rattle.rd_holdings.specs.State.{Desk}
use Rattle.rd_store.proofs.Laws.{lasts_still, lasts_then}
use Rattle.rd_desk.specs.Calls.{Carries, DoesAsAsked, HasItsDigest, IsCarriedOut, IsResponse, IsResponseTo, MakesResponse}
use Rattle.rd_protocol.specs.Judged.{IsAccepted, audience_of}
use Rattle.rd_protocol.specs.Replies.{IsAnswered, IsDone, IsStep, Tells, carried_out}
use Rattle.rd_protocol.specs.Requests.{IsForStaff}
use Rattle.rd_protocol.specs.declared.request.Request.{Request}
use Rattle.rd_protocol.specs.declared.request.What.{What}
use Rattle.rd_protocol.specs.declared.response.Response.{Response}
use Rattle.rd_protocol.specs.declared.response.Response.TheVariants as response
use Rattle.rd_protocol.proofs.StaffRefusals.{nothing_asked, is_unread}
use Rattle.rd_protocol.proofs.Crashes.{left_accepted}

carried : (old : Desk) (day : ℤ) (request : Request) (answer : Response) (new : Desk) → IsForStaff request.what → audience_of old request.badge ≡ Some Staff
    → (IsAccepted old request None × Tells old Staff day None answer request.what × (new ≡ carried_out day request.what old)) → IsDone old day request answer new
carried old day request answer new command staff is = record {
  file = None;
  audience = Staff;
  asked = nothing_asked old day request command;
  caller = staff;
  accepted = is.0;
  tells = is.1;
  after = is.2;
}

-- what is carried out, or why it is refused, is what is answered
responded : {X : Type 0} (old : Desk) (day : ℤ) (request : Request) (result : Result Response X) (new : Desk) → IsForStaff request.what → audience_of old request.badge ≡ Some Staff
    → IsCarriedOut old day request.what result new → IsResponse old day request result new
responded old day request (Ok (response.Refused refusal)) new command staff is =
    (record { file = None; asked = nothing_asked old day request command; refused = is.0 request.badge staff }, is.1)
responded old day request (Ok answer) new command staff is = carried old day request answer new command staff (is.0 request.badge staff, is.1, is.2)
responded old day request (Err fault) new command staff same = same

-- a lawful desk that a crash left of such a request is the one before it, or the one after the step
left_step : (old : Desk) (day : ℤ) (request : Request) (left : Trees) → IsForStaff request.what → audience_of old request.badge ≡ Some Staff → IsLawful old
    → IsLeft old left ⊎ (HasItsDigest request.what × IsLeft (carried_out day request.what old) left)
    → IsLeft old left ⊎ ((after : Desk) × IsStep old day request after × IsLeft after left)
left_step old day request left command staff lawful (inl same) = inl same
left_step old day request left command staff lawful (inr (digest, after)) = elim (is_unread request.what) [
  | inl unread ↦ inl (subst (λ d. IsLeft d left) (ap (λ w. carried_out day w old) unread) after)
  | inr read ↦ elim (left_accepted day old request command read staff digest lawful after.lawful) [
    | inl same ↦ inl (subst (λ d. IsLeft d left) same after)
    | inr accepted ↦ inr (
      carried_out day request.what old,
      inl (record { file = None; asked = nothing_asked old day request command; accepted = accepted }, refl),
      after,
    )
  ]
]

module _ {S : Type 0} (g : Ghosts S) where
  -- a call that is not made
  pub keeps_still : (h : Held S) → IsAtRest g h → Keeps g h h
  keeps_still h rests = record { lasts = lasts_still g h; same = λ o. refl; crash = λ was clean. rests.leaves was; durable = rests.leaves }

  -- one reading call after another
  pub keeps_then : (a b c : Held S) → Keeps g a b → (IsOpen g a → IsClean g b → IsOpen g b) → Keeps g b c → Keeps g a c
  keeps_then a b c one opens two = record {
    lasts = lasts_then g a b c one.lasts two.lasts;
    same = λ o. two.same o ∙ one.same (two.lasts.was_open o);
    crash = λ was clean.
        let mid = opens was (two.lasts.clean clean) in
        subst (LeavesOnly g c) (one.same mid) (two.crash mid clean);
    durable = two.durable;
  }

  -- a store in which the caller's key was looked up is open where it was, and so is one that was not touched
  pub still_open : (a b : Held S) (badge : Option (List ℕ)) → (badge ≢ None → IsClean g b → IsOpen g b) → (badge ≡ None → b ≡ a) → IsOpen g a → IsClean g b → IsOpen g b
  still_open a b None opens same was clean = subst (IsOpen g) (sym (same refl)) was
  still_open a b (Some digest) opens same was clean = opens (λ is. cc) clean

  -- the audience that was found is that of the caller after it too
  pub known_still : (a b : Held S) (badge : Option (List ℕ)) (found : Option Audience) (audience : Audience) → Keeps g a b → (IsOpen g b → found ≡ audience_of (desk g a) badge) → found ≡ Some audience
      → IsOpen g b → audience_of (desk g b) badge ≡ Some audience
  known_still a b badge found audience keeps answer is o = subst (λ (d : Desk). audience_of d badge ≡ Some audience) (sym (keeps.same o)) (sym (answer o) ∙ is)

  module _ {X : Type 0} (day : ℤ) (request : Request) (result : Result Response X) where
    answered : (audience : Audience) (old new : Desk) (r : Result Response X) → new ≡ old → audience_of old request.badge ≡ Some audience → IfOk r (IsResponseTo old audience day request.what)
        → IsResponse old day request r new
    answered audience old new (Ok answer) same known told = subst (IsAnswered old day request answer) (sym same) (told request.badge known)
    answered audience old new (Err fault) same known told = same

    -- a query of a caller of this audience, as a request
    pub reads_respond : (a b : Held S) (audience : Audience) → (IsOpen g a → audience_of (desk g a) request.badge ≡ Some audience) → Reads g a b result (IsResponseTo (desk g a) audience day request.what)
        → MakesResponse g a b day request result
    reads_respond a b audience known reads = record {
      lasts = reads.keeps.lasts;
      judged = λ o. answered audience (desk g a) (desk g b) result (reads.keeps.same o) (known (reads.keeps.lasts.was_open o)) (reads.answer o);
      crash = λ was clean left may. inl (reads.keeps.crash was clean left may);
      durable = reads.keeps.durable;
    }

    -- what was done for the staff, as a request
    pub carries_respond : (a b : Held S) → IsForStaff request.what → (IsOpen g a → audience_of (desk g a) request.badge ≡ Some Staff) → IsAtRest g a
        → Carries g a b day request.what result → MakesResponse g a b day request result
    carries_respond a b command staff rests carries = record {
      lasts = carries.lasts;
      judged = λ o. let was = carries.lasts.was_open o in responded (desk g a) day request result (desk g b) command (staff was) (carries.judged o);
      crash = λ was clean left may. left_step (desk g a) day request left command (staff was) (rests.lawful was) (carries.crash was clean left may);
      durable = carries.durable;
    }

    -- what was done as a caller of this audience asked it, as a request
    pub does_respond : (a b : Held S) (audience : Audience) → (IsOpen g a → audience_of (desk g a) request.badge ≡ Some audience)
        → (IsForStaff request.what → audience ≡ Staff) → IsAtRest g a
        → DoesAsAsked g a b audience day request.what result → MakesResponse g a b day request result
    does_respond a b audience known may rests (inl question) = reads_respond a b audience known question.1
    does_respond a b audience known may rests (inr command) =
        carries_respond a b command.0 (λ o. known o ∙ ap Some (may command.0)) rests command.1

    -- a request after reading calls
    pub keeps_respond : (a b c : Held S) → Keeps g a b → (IsOpen g a → IsClean g b → IsOpen g b) → MakesResponse g b c day request result → MakesResponse g a c day request result
    keeps_respond a b c keeps opens responds = record {
      lasts = lasts_then g a b c keeps.lasts responds.lasts;
      judged = λ o. subst (λ d. IsResponse d day request result (desk g c)) (keeps.same (responds.lasts.was_open o)) (responds.judged o);
      crash = λ was clean left may.
          let mid = opens was (responds.lasts.clean clean) in
          subst (λ d. IsLeft d left ⊎ ((after : Desk) × IsStep d day request after × IsLeft after left)) (keeps.same mid) (responds.crash mid clean left may);
      durable = responds.durable;
    }

  -- what a question is answered with, and what is carried out, is what is asked
  module _ {X : Type 0} (a b : Held S) (audience : Audience) (day : ℤ) (what asked : What) (is : asked ≡ what) (result : Result Response X) where
    pub does_read : ¬ IsForStaff asked → Reads g a b result (IsResponseTo (desk g a) audience day asked) → DoesAsAsked g a b audience day what result
    does_read question reads = subst (λ w. DoesAsAsked g a b audience day w result) is (inl (question, reads))

    pub does_carry : IsForStaff asked → Carries g a b day asked result → DoesAsAsked g a b audience day what result
    does_carry command carries = subst (λ w. DoesAsAsked g a b audience day w result) is (inr (command, carries))
