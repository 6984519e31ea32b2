-- What goes to a visitor rests on nothing that is hidden from them.
use Rattle.std.proofs.Common.{◌≡◌, ◌∙◌, inl, inr, ℕ, ℤ, Bool, true, false, List, [], ◌∷◌, ◌++◌, Option, length, refl, sym, ap}
use Rattle.sqlite.specs.Store.{Ghosts}
use Rattle.sqlite.specs.Held.{Held, state}
use Rattle.rd_policy.specs.Zones.{day_number}
use Rattle.rd_policy.specs.declared.zone.Zone.{Zone}
use Rattle.rd_store.specs.Held.{IsOpen, desk}
use Rattle.rd_holdings.specs.State.{Desk}
use Rattle.rd_protocol.specs.Hidden.{ReadsTheSame}
use Rattle.rd_protocol.specs.declared.response.Reply.{Reply}
use Rattle.rd_protocol.proofs.ShownDesks.{shown_decides}
use Rattle.rd_messages.specs.Asked.{request, fault}
use Rattle.rd_http.specs.Hidden.{HiddenBytesReachNoVisitor, HidesFromVisitor, RepliesAndHides}
use Rattle.rd_messages.specs.ReplyText.{challenge_of, head_text, reply_bytes}
use Rattle.rd_http.specs.Cut.{AreRepliedUntilShut}
use Rattle.rd_http.specs.Runs.{Ends, HasRun, IsVisit, Runs}
use Rattle.rd_messages.specs.DoorVisits.{Coming, VisitsSoFar, Visit}
use Rattle.rd_http.specs.Visits.{IsAnswer, IsReplied}
use Rattle.rd_http.specs.declared.serve.Served.{Served}
use Rattle.rd_http.proofs.RunLemmas.{ended_replied, replied}
use Rattle.rd_messages.specs.Answers.{answer_bytes}

-- replies that read the same have the same text
same_text : (reply other : Reply) → ReadsTheSame reply other → answer_bytes reply ≡ answer_bytes other
unfolding reply_bytes
same_text reply other same = λ i. head_text (same.status i) (same.form i) (length (same.bytes i)) (challenge_of (same.status i)) ++ same.bytes i

pub reach_none : HiddenBytesReachNoVisitor
reach_none stream old new day text (inl (request asked, is, (reply, answered, told))) audience other visit shown =
    let who = visit asked is in
    let there = shown_decides old other audience day asked reply new who.0 who.1 shown answered in
    inl (request asked, is, (there.0, there.2, told ∙ same_text reply there.0 there.1))
reach_none stream old new day text (inl (fault reason, is, (same, told))) audience other visit shown = inl (fault reason, is, (refl, told))
reach_none stream old new day text (inr wanting) audience other visit shown =
    inr (record { framed = wanting.framed; same = refl; text_is = wanting.text_is })

-- the same of what is answered over a store
pub answer_hides : {S : Type 0} (g : Ghosts S) (zone : Zone) (stream : List ℕ) (old new : Held S) (day : ℤ) (text : List ℕ) → IsAnswer g stream old new day text → IsOpen g new
    → HidesFromVisitor stream (desk g old) day text
answer_hides g zone stream old new day text answer is_open =
    reach_none stream (desk g old) (desk g new) day text (replied g zone stream old new day text answer is_open)

-- ---- a run

module _ (zone : Zone) where
  ended_hidden : (came : List ℕ) (old new : Desk) (day : ℤ) (out : List ℕ) (tf pf : Bool) → Ends IsReplied zone came old new day out tf pf
      → Ends RepliesAndHides zone came old new day out tf pf
  ended_hidden came old new day out false false replied = (replied, reach_none came old new day out replied)
  ended_hidden came old new day out false true (text, replied, cut) = (text, (replied, reach_none came old new day text replied), cut)
  ended_hidden came old new day out true pf ended = ended

  runs_hidden : (visits : List Visit) (old new : Desk) → Runs IsReplied zone visits old new → Runs RepliesAndHides zone visits old new
  runs_hidden [] old new same = same
  runs_hidden (visit ∷ visits) old new (mid, is, runs) = (
    mid,
    record {
      day = is.day;
      ends = ended_hidden visit.came old mid (day_number visit.moment zone) visit.out visit.read_failed visit.write_failed is.ends;
    },
    runs_hidden visits mid new runs,
  )

  -- what goes out in a run hides the rest from each visitor
  pub run_hidden : (coming left : Option (List Coming)) (told : VisitsSoFar) (later : Option VisitsSoFar) (served : Served) (old new : Desk)
      → HasRun IsReplied zone told later coming left served old new → HasRun RepliesAndHides zone told later coming left served old new
  run_hidden coming left told later served old new run = record {
    visits = run.visits;
    last = run.last;
    are = run.are;
    order = run.order;
    runs = runs_hidden run.visits old new run.runs;
    counted = run.counted;
    read_faults = run.read_faults;
    write_faults = run.write_faults;
    ended = run.ended;
  }

-- ---- until the connection is shut

module _ {S : Type 0} (g : Ghosts S) (zone : Zone) where
  one_replied : (visit : Visit) (old mid : Held S) → IsVisit (IsAnswer g) zone visit old mid → IsOpen g mid → IsVisit RepliesAndHides zone visit (desk g old) (desk g mid)
  one_replied visit old mid is is_open = record {
    day = is.day;
    ends = ended_hidden zone visit.came (desk g old) (desk g mid) (day_number visit.moment zone) visit.out visit.read_failed visit.write_failed
        (ended_replied g zone visit.came old mid (day_number visit.moment zone) visit.out visit.read_failed visit.write_failed is.ends is_open);
  }

  one_more : (visit : Visit) (visits : List Visit) (old mid new : Held S) → IsVisit RepliesAndHides zone visit (desk g old) (desk g mid) → AreRepliedUntilShut g zone visits mid new
      → AreRepliedUntilShut g zone (visit ∷ visits) old new
  one_more visit visits old mid new is (inl all) = inl (desk g mid, is, all)
  one_more visit visits old mid new is (inr cut) = inr (record {
    before = visit ∷ cut.before;
    last = cut.last;
    later = cut.later;
    mid = cut.mid;
    shut = cut.shut;
    are = ap (λ vs. visit ∷ vs) cut.are;
    replied = (desk g mid, is, cut.replied);
    was_open = cut.was_open;
    answered = cut.answered;
    is_shut = cut.is_shut;
    rest = cut.rest;
  })

  by_end : (visit : Visit) (visits : List Visit) (old mid new : Held S) (b : Bool) → (state g mid).is_open ≡ b → IsOpen g old → IsVisit (IsAnswer g) zone visit old mid → Runs (IsAnswer g) zone visits mid new
      → (IsOpen g mid → AreRepliedUntilShut g zone visits mid new) → AreRepliedUntilShut g zone (visit ∷ visits) old new
  by_end visit visits old mid new true end was_open is runs later = one_more visit visits old mid new (one_replied visit old mid is end) (later end)
  by_end visit visits old mid new false end was_open is runs later = inr (record {
    before = [];
    last = visit;
    later = visits;
    mid = old;
    shut = mid;
    are = refl;
    replied = refl;
    was_open = was_open;
    answered = is;
    is_shut = λ is_open. let e : true ≡ false = sym is_open ∙ end in cc;
    rest = runs;
  })

  pub replied_until_shut : (visits : List Visit) (old new : Held S) → IsOpen g old → Runs (IsAnswer g) zone visits old new → AreRepliedUntilShut g zone visits old new
  replied_until_shut [] old new is_open same = inl (ap (desk g) same)
  replied_until_shut (visit ∷ visits) old new is_open (mid, is, runs) = by_end visit visits old mid new (state g mid).is_open refl is_open is runs (λ o. replied_until_shut visits mid new o runs)
