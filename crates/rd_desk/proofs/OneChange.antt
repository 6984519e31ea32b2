-- Calls that read, and one that changes the desk after them.
use Rattle.std.proofs.Common.{◌≡◌, ◌≢◌, ◌⊎◌, ◌↔◌, ℕ, ℤ, inl, inr, arith, false, true, Option, Some, Result, Ok, Err, IsErr, IsOk, OnOk, refl, sym, ap, subst, ◌∙◌}
use Rattle.std.specs.Prelude.{⊤}
use Rattle.std.specs.FinMap.{get}
use Rattle.sqlite.specs.Store.{Ghosts}
use Rattle.sqlite.specs.Held.{Held}
use Rattle.rd_store.specs.Held.{Changes, IsAtRest, IsClean, IsLeft, IsOpen, Keeps, desk}
use Rattle.rd_holdings.specs.State.{Desk, with_check}
use Rattle.rd_store.specs.declared.faults.StoreFault.{StoreFault}
use Rattle.rd_holdings.specs.declared.rows.ImageRow.{ImageRow}
use Rattle.rd_holdings.specs.declared.rows.Outcome.{Outcome}
use Rattle.rd_desk.specs.Calls.{IsOneChange, IsResponseAfter, IsWritten, MakesOneChange}
use Rattle.rd_protocol.specs.Replies.{with_checked}
use Rattle.rd_protocol.specs.Checks.{outcome_of}
use Rattle.rd_protocol.specs.Refusals.{status_of}
use Rattle.rd_protocol.specs.Requests.{MayChange}
use Rattle.rd_protocol.specs.declared.refusal.Refusal.{Refusal}
use Rattle.rd_protocol.specs.declared.refusal.Refusal.TheVariants.{UnknownKey}
use Rattle.rd_protocol.specs.declared.request.What.{What}
use Rattle.rd_protocol.specs.declared.response.Reply.{Reply}
use Rattle.rd_protocol.specs.declared.response.Response.{Response}
use Rattle.rd_protocol.specs.declared.response.Response.TheVariants as response
use Rattle.rd_desk.proofs.ResponseLemmas.{keeps_still, keeps_then}

module _ {S : Type 0} (g : Ghosts S) (day : ℤ) (what : What) (Returned : Result ⊤ StoreFault → Type 0) where
  -- calls that read, and no other
  pub reads_alone : (a b : Held S) → Keeps g a b → MakesOneChange g a b day what Returned
  reads_alone a b keeps = record { middle = b; reads = keeps; last = inl refl }

  -- no call at all
  pub no_call : (a : Held S) → IsAtRest g a → MakesOneChange g a a day what Returned
  no_call a rests = reads_alone a a (keeps_still g a rests)

  -- calls that read, and then one that changes the desk
  pub change_last : (a b c : Held S) → Keeps g a b → MayChange what → IsOneChange g b c day what Returned → MakesOneChange g a c day what Returned
  change_last a b c keeps may change = record { middle = b; reads = keeps; last = inr (may, change) }

  -- one that changes the desk
  pub change_alone : (a b : Held S) → IsAtRest g a → MayChange what → IsOneChange g a b day what Returned → MakesOneChange g a b day what Returned
  change_alone a b rests may change = change_last a a b (keeps_still g a rests) may change

  -- more calls that read, before all others
  pub reads_first : (a b c : Held S) → Keeps g a b → (IsOpen g a → IsClean g b → IsOpen g b) → MakesOneChange g b c day what Returned → MakesOneChange g a c day what Returned
  reads_first a b c keeps opens makes = record { middle = makes.middle; reads = keeps_then g a b makes.middle keeps opens makes.reads; last = makes.last }

-- a call that makes a desk of the old one makes each that is the same where the connection is open
pub changes_as : {S T X : Type 0} (g : Ghosts S) (old new : Held S) (after other : Desk) (result : Result T X) → (IsOpen g old → after ≡ other) → Changes g old new after result → Changes g old new other result
changes_as {X = X} g old new after other result same changes = record {
  lasts = changes.lasts;
  ok = λ o. subst (λ (d : Desk). OnOk result (desk g new ≡ d)) (same (changes.lasts.was_open o)) (changes.ok o);
  err = changes.err;
  ends_open = changes.ends_open;
  crash = λ was clean left recovered. subst (λ (d : Desk). IsLeft (desk g old) left ⊎ IsLeft d left) (same was) (changes.crash was clean left recovered);
  durable = changes.durable;
}

-- what a check records is what it makes of the desk, where the image that it read stands
pub check_recorded : (desk : Desk) (acc : ℕ) (day : ℤ) (found : Option ImageRow) (image : ImageRow) (outcome : Outcome) → found ≡ get desk.images acc → found ≡ Some image → outcome ≡ outcome_of image.bytes image.digest
    → with_check acc day outcome desk ≡ with_checked (get desk.images acc) acc day desk
check_recorded desk acc day found image outcome read is told =
    ap (λ (o : Outcome). with_check acc day o desk) told ∙ ap (λ (it : Option ImageRow). with_checked it acc day desk) (sym is ∙ read)

-- a call that failed, and no answer after it
pub failed_after : {X : Type 0} (told : Result ⊤ StoreFault) (fault : StoreFault) (result : Result Response X) → told ≡ Err fault → IsErr result → IsResponseAfter told result
failed_after (Ok done) fault result is none = cc
failed_after (Err why) fault (Ok answer) is none = let e : false ≡ true = none in cc
failed_after (Err why) fault (Err other) is none = tt

refused_status : (refusal : Refusal) → status_of refusal ≢ 200
refused_status UnknownKey is = omega (arith, is)
refused_status other is = omega (arith, is)

-- the status is 200 exactly if the answer is one after Ok
ok_status : {X : Type 0} (result : Result Response X) (reply : Reply) (told : Result ⊤ StoreFault) → IsWritten result reply → IsResponseAfter told result → IsOk told ↔ (reply.status ≡ 200)
ok_status (Ok response.Done) reply (Ok done) (inl is) of = (λ ok. ap (λ (r : Reply). r.status) is, λ status. refl)
ok_status (Ok response.Done) reply (Ok done) (inr none) of = absurd (none.1 tt)
ok_status (Ok (response.Checked outcome)) reply (Ok done) (inl is) of = (λ ok. ap (λ (r : Reply). r.status) is, λ status. refl)
ok_status (Ok (response.Checked outcome)) reply (Ok done) (inr none) of = absurd (none.1 tt)
ok_status (Ok (response.Refused refusal)) reply (Err fault) (inl is) of =
    (λ ok. cc, λ status. absurd (refused_status refusal (sym (ap (λ (r : Reply). r.status) is) ∙ status)))
ok_status (Ok (response.Refused refusal)) reply (Err fault) (inr none) of =
    (λ ok. cc, λ status. let e : 503 ≡ 200 = sym (ap (λ (r : Reply). r.status) none.0) ∙ status in absurd (omega (arith, e)))
ok_status (Err none) reply (Err fault) is of =
    (λ ok. cc, λ status. let e : 503 ≡ 200 = sym (ap (λ (r : Reply). r.status) is) ∙ status in absurd (omega (arith, e)))
ok_status result reply (Ok done) is of = absurd of
ok_status result reply (Err fault) is of = absurd of

-- the answer after one call, as it is written
pub one_change_written : {S X : Type 0} (g : Ghosts S) (old new : Held S) (day : ℤ) (what : What) (result : Result Response X) (reply : Reply) → IsWritten result reply
    → MakesOneChange g old new day what (λ told. IsResponseAfter told result) → MakesOneChange g old new day what (λ told. IsOk told ↔ (reply.status ≡ 200))
one_change_written g old new day what result reply written makes = record {
  middle = makes.middle;
  reads = makes.reads;
  last = elim makes.last [
    | inl same ↦ inl same
    | inr change ↦ inr (
      change.0,
      record { result = change.1.result; changes = change.1.changes; returned = ok_status result reply change.1.result written change.1.returned },
    )
  ];
}
