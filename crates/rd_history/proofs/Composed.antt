-- A request after calls that read.
use Rattle.std.proofs.Common.{◌≡◌, ◌≢◌, ◌⊎◌, inl, inr, ℕ, ℤ, List, None, Result, subst, sym}
use Rattle.sqlite.specs.Held.{Held}
use Rattle.sqlite.specs.Store.{Ghosts}
use Rattle.rd_store.specs.Held.{IsAtRest, IsClean, IsLeft, IsOpen, Keeps, desk}
use Rattle.rd_store.proofs.Laws.{lasts_then}
use Rattle.rd_holdings.specs.State.{Desk, IsStaff}
use Rattle.rd_protocol.specs.Hidden.{HidesTheRest, TellsWhatIsShown}
use Rattle.rd_protocol.specs.Judged.{audience_of}
use Rattle.rd_protocol.specs.Replies.{Answers, IsStep}
use Rattle.rd_protocol.specs.declared.request.Request.{Request}
use Rattle.rd_protocol.specs.declared.response.Reply.{Reply}
use Rattle.rd_protocol.specs.declared.response.Response.{Response}
use Rattle.rd_desk.proofs.OneChange.{reads_alone, reads_first}
use Rattle.rd_protocol.proofs.ReplyHiding.{hides}
use Rattle.rd_protocol.proofs.ShownDesks.{tells_what_is_shown}
use Rattle.rd_protocol.specs.Texts.{UNAVAILABLE}
use Rattle.rd_desk.specs.Calls.{IsResponse}
use Rattle.rd_desk.specs.Served.{Responds, Serves}

module _ {S : Type 0} (g : Ghosts S) (a b c : Held S) (day : ℤ) (request : Request) (keeps : Keeps g a b) (opens : IsOpen g a → IsClean g b → IsOpen g b) (named : request.badge ≢ None) where
  still : IsOpen g b → desk g b ≡ desk g a
  still o = keeps.same o

  pub serves_after : (reply : Reply) → Serves g b c day request reply → Serves g a c day request reply
  serves_after reply serves = record {
    lasts = lasts_then g a b c keeps.lasts serves.lasts;
    answers = λ o. subst (λ d. Answers d day request reply (desk g c)) (still (serves.lasts.was_open o)) (serves.answers o);
    ends_open = λ clean told. elim (serves.ends_open clean told) [
      | inl it ↦ inl it
      | inr away ↦ absurd (named away.nobody)
    ];
    crash = λ was clean left may.
        let mid = opens was (serves.lasts.clean clean) in
        subst (λ d. IsLeft d left ⊎ ((after : Desk) × IsStep d day request after × IsLeft after left)) (still mid) (serves.crash mid clean left may);
    durable = serves.durable;
    staffed = serves.staffed;
    again = λ o told command key. serves.again o told command (subst (λ (d : Desk). audience_of (desk g c) request.badge ≡ audience_of d request.badge) (sym (still (serves.lasts.was_open o))) key);
    hides = λ o. subst (λ d. HidesTheRest d day request reply) (still (serves.lasts.was_open o)) (serves.hides o);
    tells = λ o. subst (λ d. TellsWhatIsShown d day request reply) (still (serves.lasts.was_open o)) (serves.tells o);
    one_change = reads_first g day request.what _ a b c keeps opens serves.one_change;
  }

  pub responds_after : {X : Type 0} (result : Result Response X) → Responds g b c day request result → Responds g a c day request result
  responds_after result responds = record {
    lasts = lasts_then g a b c keeps.lasts responds.lasts;
    answers = λ o. subst (λ d. IsResponse d day request result (desk g c)) (still (responds.lasts.was_open o)) (responds.answers o);
    ends_open = λ clean ok. elim (responds.ends_open clean ok) [
      | inl it ↦ inl it
      | inr away ↦ absurd (named away.nobody)
    ];
    crash = λ was clean left may.
        let mid = opens was (responds.lasts.clean clean) in
        subst (λ d. IsLeft d left ⊎ ((after : Desk) × IsStep d day request after × IsLeft after left)) (still mid) (responds.crash mid clean left may);
    durable = responds.durable;
    staffed = responds.staffed;
    again = λ o command key. responds.again o command (subst (λ (d : Desk). audience_of (desk g c) request.badge ≡ audience_of d request.badge) (sym (still (responds.lasts.was_open o))) key);
    one_change = reads_first g day request.what _ a b c keeps opens responds.one_change;
  }

-- calls that read, and then nothing is available
pub serves_none : {S : Type 0} (g : Ghosts S) (a b : Held S) (day : ℤ) (request : Request) (reply : Reply) → Keeps g a b → IsAtRest g a → reply ≡ UNAVAILABLE → Serves g a b day request reply
serves_none g a b day request reply keeps rests none = record {
  lasts = keeps.lasts;
  answers = answers;
  ends_open = λ clean told. absurd (told none);
  crash = λ was clean left may. inl (keeps.crash was clean left may);
  durable = keeps.durable;
  staffed = λ o. subst (λ (d : Desk). (digest : List ℕ) × IsStaff d digest) (sym (keeps.same o)) (rests.lawful (keeps.lasts.was_open o)).staff;
  again = λ o told. absurd (told none);
  hides = λ o. hides (desk g a) day request reply (desk g b) (answers o);
  tells = λ o. tells_what_is_shown (desk g a) day request reply (desk g b) (answers o);
  one_change = reads_alone g day request.what _ a b keeps;
}
  where
    answers : IsOpen g b → Answers (desk g a) day request reply (desk g b)
    answers o = inr (record { written = none; after = keeps.same o })
