-- A request, and what a crash leaves of the store and of the history.
use Rattle.std.proofs.Common.{◌≡◌, ◌≢◌, ◌⊎◌, ◌+◌, ◌≤◌, inl, inr, ℕ, ℤ, Bool, true, Some, None, Result, List, arith, length, refl, subst, sym}
use Rattle.sqlite.specs.Held.{Held}
use Rattle.sqlite.specs.Store.{Ghosts}
use Rattle.rd_tables.specs.Connections.{IsClean, IsOpen}
use Rattle.rd_policy.specs.Days.{HasDay}
use Rattle.rd_policy.specs.declared.audience.Audience.TheVariants.{Staff}
use Rattle.rd_chain.specs.Held.{IsAtRest, LeavesOnly, lines}
use Rattle.rd_store.specs.Held.{LeavesOnly as LeavesDesk, desk as desk_of}
use Rattle.rd_holdings.specs.State.{Desk}
use Rattle.rd_protocol.specs.Judged.{audience_of}
use Rattle.rd_protocol.specs.Replies.{IsStep}
use Rattle.rd_protocol.specs.declared.refusal.Refusal.TheVariants.{StaffOnly}
use Rattle.rd_protocol.specs.declared.request.Request.{Request}
use Rattle.rd_desk.specs.Calls.{LeavesStep}
use Rattle.rd_history.specs.Changes.{change_of}
use Rattle.rd_history.specs.Entries.{HasDigests, IsEntry}
use Rattle.rd_history.specs.Histories.{IsAsked, IsHistory, void_of, with_entry}
use Rattle.rd_history.specs.Left.{LeavesHistory, LeavesNear, StayNear}
use Rattle.rd_history.specs.Remembered.{Agrees, IsPending}
use Rattle.rd_history.specs.Settled.{IsNear, IsTold, TakesBack}
use Rattle.rd_history.specs.declared.entry.TheConstants.{LAST_NUMBER}
use Rattle.rd_history.specs.declared.entry.Cause.{Cause}
use Rattle.rd_history.specs.declared.entry.Entry.{Entry}
use Rattle.rd_history.specs.declared.settling.Unsettled.{Unsettled}
use Rattle.rd_history.proofs.Carried.{accepted_agree, pending_back, pending_done, pending_near}
use Rattle.rd_history.proofs.LeftLemmas.{agrees_near, more_leaves_near, told_near, void_within}

-- an entry was put behind lines as which the desk stands
pub is_pending : (desk : Desk) (front lines : List (List ℕ)) (entry : Entry) → IsTold desk front → IsEntry entry → HasDigests entry → IsAsked entry.change → lines ≡ with_entry front entry → length front + 1 ≤ LAST_NUMBER → IsHistory lines
    → IsPending desk lines entry
is_pending desk front lines entry told fits digests asked are room history = record {
  front = front;
  are = are;
  within = record { change = fits.change; moment = fits.moment; note = fits.note; number = (omega arith, room); staff = fits.staff; signed = fits.signed };
  digests = digests;
  asked = asked;
  told = told;
  history = history;
}

-- a step of a request that asks no change, or whose caller is not of the staff
near_step : (old : Desk) (day : ℤ) (request : Request) (after : Desk) (these : List (List ℕ)) → IsStep old day request after
    → (change_of request.what ≡ None) ⊎ (audience_of old request.badge ≢ Some Staff) → IsNear old these → IsNear after these
near_step old day request after these step why near = elim step [
  | inl done ↦ subst (λ d. IsNear d these) (sym done.1) (accepted_agree true old day request these (λ command stranger. done.0.accepted StaffOnly (command, stranger)) why near)
  | inr refused ↦ subst (λ d. IsNear d these) (sym refused.1) near
]

-- a step of a request whose entry was put
near_done : (old : Desk) (day : ℤ) (request : Request) (after : Desk) (these : List (List ℕ)) (entry : Entry) → IsPending old these entry → change_of request.what ≡ Some entry.change → IsStep old day request after → IsNear after these
near_done old day request after these entry pending asks step = elim step [
  | inl done ↦ subst (λ d. IsNear d these) (sym done.1) (pending_done old these entry pending day request.what asks true)
  | inr refused ↦ subst (λ d. IsNear d these) (sym refused.1) (pending_near old these entry pending)
]

module _ {S H : Type 0} (g : Ghosts S) (h : Ghosts H) (old new : Held S) (day : ℤ) (request : Request) where
  -- the old desk is left, or the one after a step
  stepped_near : (history : Held H) (these : List (List ℕ)) → LeavesStep g old new day request → LeavesOnly h history these → IsNear (desk_of g old) these
      → ((after : Desk) → IsStep (desk_of g old) day request after → IsNear after these) → LeavesNear g h new history
  stepped_near history these steps only near goes_on of_store of_history store_so history_so = elim (steps of_store store_so) [
    | inl same ↦ record { desk = desk_of g old; lines = these; store = same; history = only of_history history_so; near = near }
    | inr after ↦ record { desk = after.0; lines = these; store = after.2; history = only of_history history_so; near = goes_on after.0 after.1 }
  ]

  -- nothing was put into the history
  pub others_near : (history : Held H) (was : Bool) → (IsOpen g old → IsClean g new → LeavesStep g old new day request) → IsAtRest h history
      → (IsOpen g old → IsClean g new → (change_of request.what ≡ None) ⊎ (audience_of (desk_of g old) request.badge ≢ Some Staff))
      → StayNear g h old new history history (Agrees was (desk_of g old) (lines h history))
  others_near history was steps rest why store_was history_was store_clean history_clean agrees =
      let these = lines h history in
      let near = agrees_near was (desk_of g old) these agrees in
      stepped_near history these (steps store_was store_clean) (rest.leaves history_was) near
      (λ after step. near_step (desk_of g old) day request after these step (why store_was store_clean) near)

  -- an entry was put, and stays
  pub stays_near : (history : Held H) (entry : Entry) → IsPending (desk_of g old) (lines h history) entry → change_of request.what ≡ Some entry.change → LeavesStep g old new day request → LeavesOnly h history (lines h history)
      → LeavesNear g h new history
  stays_near history entry pending asks steps only =
      let these = lines h history in
      stepped_near history these steps only (pending_near (desk_of g old) these entry pending)
      (λ after step. near_done (desk_of g old) day request after these entry pending asks step)

-- an entry was put, and is taken back, or was to be taken back
pub back_near : {S H : Type 0} (g : Ghosts S) (h : Ghosts H) (store : Held S) (desk : Desk) (before after : Held H) (entry : Entry) (moment : ℤ) (cause : Cause) (r : Result (Unit {0}) Unsettled) → LeavesDesk g store desk
    → IsPending desk (lines h before) entry → HasDay moment → TakesBack h moment cause before after r → (IsOpen h before → IsClean h after → LeavesHistory h after) → IsOpen h before → IsClean h after → LeavesNear g h store after
back_near g h store desk before after entry moment cause r only pending day takes histories was clean =
    let these = lines h before in
    more_leaves_near g h store desk only before after (void_of moment cause) r takes.appends histories was clean (pending_near desk these entry pending)
    (λ room history. told_near desk (with_entry these (void_of moment cause)) (pending_back desk these entry pending moment cause (with_entry these (void_of moment cause)) (void_within moment cause (length these) day room) refl history))
