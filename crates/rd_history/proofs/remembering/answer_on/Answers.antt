use Rattle.std.proofs.Common.{◌≡◌, ◌≢◌, ◌∙◌, FitsSigned, None, Option, Some, List, ℕ, ap, inl, inr, refl, rules, subst, sym, w32, w64}
use Rattle.std.proofs.lemmas.Int.{to_z-of_z}
use Rattle.rd_chain.specs.Held.{lines}
use Rattle.rd_policy.specs.declared.audience.Audience.{Audience}
use Rattle.rd_policy.specs.declared.audience.Audience.TheVariants.{Public, Staff}
use Rattle.rd_protocol.specs.Judged.{audience_of}
use Rattle.rd_store.proofs.CopyLemmas.{keeps_here, keeps_then}
use Rattle.rd_store.specs.Held.{IsClean, IsOpen, desk}
use Rattle.rd_desk.proofs.ReplyLemmas.{serves}
use Rattle.rd_desk.specs.Calls.{IsResponse}
use Rattle.rd_desk.specs.Served.{Serves}
use Rattle.rd_desk.specs.declared.asking.Unavailable.{Unavailable}
use Rattle.rd_history.specs.Changes.{change_of}
use Rattle.rd_history.specs.Remembered.{Adds, Agrees, EndsAs, IsPending, entry_of}
use Rattle.rd_history.specs.declared.entry.Change.{Change}
use Rattle.rd_history.specs.declared.entry.Entry.{Entry}
use Rattle.rd_history.proofs.Carried.{adds_none, adds_then, agrees_after, ends_grow, grows_then, puts_grow, said_of, unavailable, unrecorded}
use Rattle.rd_history.proofs.Crashed.{others_near}
use Rattle.rd_history.proofs.Composed.{responds_after, serves_after, serves_none}
use Rattle.rd_history.proofs.remembering.answer_on.Goals as goal

pub returns-in_default-clause-remembers : goal.returns-in_default-clause-remembers
returns-in_default-clause-remembers g c =
    let store = c.args.desk.now.store in
    let new = c.answer_on.new.self.store in
    let history = c.args.recorder.now.history in
    let request = c.args.request.now in
    let served = c.answer_on.ensures.serves in
    let stranger : audience_of (desk g.S.Store store) request.badge ≢ Some Staff = λ staff.
    let e : ◌≡◌ {A = Option Audience} (Some Public) (Some Staff) = subst (λ b. audience_of (desk g.S.Store store) b ≡ Some Staff) c.in_default.is staff in cc in
    unrecorded g.S.Store g.H.Store store new history c.args.recorder.now.is_unsettled c.args.day c.args.signature request c.answer_on.result
    (λ so. agrees_after c.args.recorder.now.is_unsettled (desk g.S.Store store) _ request c.answer_on.result (desk g.S.Store new) (lines g.H.Store history) (served.answers so) (inr stranger))
    (λ so staff. absurd (stranger staff))
    (others_near g.S.Store g.H.Store store new _ request history c.args.recorder.now.is_unsettled served.crash c.between_calls-2.ensures.rest (λ was clean. inr stranger))

pub returns-in_default-change_of-clause-serves : goal.returns-in_default-change_of-clause-serves
returns-in_default-change_of-clause-serves g c =
    let store = c.args.desk.now.store in
    serves_none g.S.Store store store c.args.day c.args.request.now c.unavailable.result (keeps_here g.S.Store store c.between_calls.ensures) c.between_calls.ensures c.unavailable.ensures

pub returns-in_default-change_of-clause-remembers : goal.returns-in_default-change_of-clause-remembers
returns-in_default-change_of-clause-remembers g c =
    let store = c.args.desk.now.store in
    unavailable g.S.Store g.H.Store store store c.args.recorder.now.history c.args.recorder.now.is_unsettled c.args.day c.args.signature c.args.request.now c.unavailable.result (keeps_here g.S.Store store c.between_calls.ensures) c.between_calls-2.ensures.rest c.unavailable.ensures

pub returns-in_default-asked-clause-remembers : goal.returns-in_default-asked-clause-remembers
returns-in_default-asked-clause-remembers g c =
    let store = c.args.desk.now.store in
    let new = c.answer_on-in_default-asked.new.self.store in
    let history = c.args.recorder.now.history in
    let request = c.args.request.now in
    let served = c.answer_on-in_default-asked.ensures.serves in
    let none : change_of request.what ≡ None = sym c.in-Ok.ensures ∙ c.in_default-asked.is in
    unrecorded g.S.Store g.H.Store store new history c.args.recorder.now.is_unsettled c.args.day c.args.signature request c.answer_on-in_default-asked.result
    (λ so. agrees_after c.args.recorder.now.is_unsettled (desk g.S.Store store) _ request c.answer_on-in_default-asked.result (desk g.S.Store new) (lines g.H.Store history) (served.answers so) (inl none))
    (λ so staff. inl none)
    (others_near g.S.Store g.H.Store store new _ request history c.args.recorder.now.is_unsettled served.crash c.between_calls-2.ensures.rest (λ was clean. inl none))

pub returns-in_default-audience_of-clause-serves : goal.returns-in_default-audience_of-clause-serves
returns-in_default-audience_of-clause-serves g c =
    serves_none g.S.Store c.args.desk.now.store c.audience_of.new.self c.args.day c.args.request.now c.unavailable-in_default-audience_of.result c.audience_of.ensures.reads.keeps c.between_calls.ensures c.unavailable-in_default-audience_of.ensures

pub returns-in_default-audience_of-clause-remembers : goal.returns-in_default-audience_of-clause-remembers
returns-in_default-audience_of-clause-remembers g c =
    let store = c.args.desk.now.store in
    unavailable g.S.Store g.H.Store store c.audience_of.new.self c.args.recorder.now.history c.args.recorder.now.is_unsettled c.args.day c.args.signature c.args.request.now c.unavailable-in_default-audience_of.result c.audience_of.ensures.reads.keeps c.between_calls-2.ensures.rest c.unavailable-in_default-audience_of.ensures

pub returns-then-ne-clause-serves : goal.returns-then-ne-clause-serves
returns-then-ne-clause-serves g c =
    let fits : FitsSigned w32 c.args.day = search rules in
    let store = c.args.desk.now.store in
    let mid = c.audience_of.new.self in
    let new = c.answer_on-then-ne.new.self.store in
    let request = c.args.request.now in
    let opens : IsOpen g.S.Store store → IsClean g.S.Store mid → IsOpen g.S.Store mid = λ was clean. c.in-Ok-audience_of.ensures.reads.ends_open clean in
    let named : request.badge ≢ None = λ none. let e : ◌≡◌ {A = Option (List ℕ)} (Some c.in-Some.badge) None = sym c.in-Some.is ∙ none in cc in
    subst (λ day. Serves g.S.Store store new day request c.answer_on-then-ne.result) (to_z-of_z w32 c.args.day fits)
    (serves_after g.S.Store store mid new _ request c.audience_of.ensures.reads.keeps opens named c.answer_on-then-ne.result c.answer_on-then-ne.ensures.serves)

pub returns-then-ne-clause-remembers : goal.returns-then-ne-clause-remembers
returns-then-ne-clause-remembers g c =
    let store = c.args.desk.now.store in
    let d = desk g.S.Store store in
    let new = c.answer_on-then-ne.new.self.store in
    let history = c.args.recorder.now.history in
    let request = c.args.request.now in
    let served = returns-then-ne-clause-serves g c in
    let other : c.in-Ok-audience_of.audience ≢ Some Staff = search rules in
    let lasts = c.answer_on-then-ne.ensures.serves.lasts in
    let stranger : IsOpen g.S.Store c.audience_of.new.self → audience_of d request.badge ≢ Some Staff = λ mid_open staff.
    let read : c.in-Ok-audience_of.audience ≡ audience_of d request.badge = subst (λ b. c.in-Ok-audience_of.audience ≡ audience_of d b) (sym c.in-Some.is) (c.in-Ok-audience_of.ensures.reads.answer mid_open) in
    other (read ∙ staff) in
    unrecorded g.S.Store g.H.Store store new history c.args.recorder.now.is_unsettled c.args.day c.args.signature request c.answer_on-then-ne.result
    (λ so. agrees_after c.args.recorder.now.is_unsettled d _ request c.answer_on-then-ne.result (desk g.S.Store new) (lines g.H.Store history) (served.answers so) (inr (stranger (lasts.was_open so))))
    (λ so staff. absurd (stranger (lasts.was_open so) staff))
    (others_near g.S.Store g.H.Store store new c.args.day request history c.args.recorder.now.is_unsettled served.crash c.between_calls-2.ensures.rest
    (λ was clean. inr (stranger (c.in-Ok-audience_of.ensures.reads.ends_open (lasts.clean clean)))))

pub returns-in_default-entry-clause-serves : goal.returns-in_default-entry-clause-serves
returns-in_default-entry-clause-serves g c =
    serves_none g.S.Store c.args.desk.now.store c.audience_of.new.self c.args.day c.args.request.now c.unavailable-in_default-entry.result c.audience_of.ensures.reads.keeps c.between_calls.ensures c.unavailable-in_default-entry.ensures

pub returns-in_default-entry-clause-remembers : goal.returns-in_default-entry-clause-remembers
returns-in_default-entry-clause-remembers g c =
    let store = c.args.desk.now.store in
    unavailable g.S.Store g.H.Store store c.audience_of.new.self c.args.recorder.now.history c.args.recorder.now.is_unsettled c.args.day c.args.signature c.args.request.now c.unavailable-in_default-entry.result c.audience_of.ensures.reads.keeps c.between_calls-2.ensures.rest c.unavailable-in_default-entry.ensures

pub returns-in-Ok-put_ahead-clause-serves : goal.returns-in-Ok-put_ahead-clause-serves
returns-in-Ok-put_ahead-clause-serves g c =
    let fits : FitsSigned w32 c.args.day = search rules in
    let store = c.args.desk.now.store in
    let mid = c.put_ahead.new.store in
    let new = c.carry_out-answer.new.desk.store in
    let request = c.args.request.now in
    let keeps = keeps_then g.S.Store store c.audience_of.new.self mid c.audience_of.ensures.reads.keeps (λ clean. c.in-Ok-audience_of.ensures.reads.ends_open clean) c.put_ahead.ensures.store in
    let opens : IsOpen g.S.Store store → IsClean g.S.Store mid → IsOpen g.S.Store mid = λ was clean. c.in-Ok-put_ahead.ensures.opens (λ clean_then. c.in-Ok-audience_of.ensures.reads.ends_open clean_then) clean in
    let named : request.badge ≢ None = λ none. let e : ◌≡◌ {A = Option (List ℕ)} (Some c.in-Some.badge) None = sym c.in-Some.is ∙ none in cc in
    let responds = responds_after g.S.Store store mid new _ request keeps opens named c.carry_out-answer.result c.carry_out-answer.ensures.responds in
    subst (λ day. Serves g.S.Store store new day request c.reply_with.result) (to_z-of_z w32 c.args.day fits)
    (serves g.S.Store store new _ request c.carry_out-answer.result c.reply_with.result c.reply_with.ensures responds)

pub returns-in-Ok-put_ahead-clause-remembers : goal.returns-in-Ok-put_ahead-clause-remembers
returns-in-Ok-put_ahead-clause-remembers g c =
    let d = desk g.S.Store c.args.desk.now.store in
    let these = lines g.H.Store c.args.recorder.now.history in
    let mid = c.put_ahead.new.recorder.history in
    let new = c.carry_out-answer.new.recorder.history in
    let after = desk g.S.Store c.carry_out-answer.new.desk.store in
    let was = c.args.recorder.now.is_unsettled in
    let is = c.carry_out-answer.new.recorder.is_unsettled in
    let request = c.args.request.now in
    let entry = c.in-Ok-entry.entry in
    let change = c.in-Some-asked.change in
    let signature = c.args.signature in
    let reply = c.reply_with.result in
    let days : FitsSigned w32 c.args.day = search rules in
    let moments : FitsSigned w64 signature.moment = search rules in
    let asked : change_of request.what ≡ Some change = sym c.in-Ok.ensures ∙ c.in-Some-asked.is in
    let asks : change_of request.what ≡ Some entry.change = asked ∙ ap Some (sym (ap (λ (e : Entry). e.change) c.in-Ok-entry.ensures.entry)) in
    let is_staff : c.in-Ok-audience_of.audience ≡ Some Staff = search rules in
    let found_same : IsOpen g.S.Store c.put_ahead.new.store → desk g.S.Store c.audience_of.new.self ≡ d = λ so. c.audience_of.ensures.reads.keeps.same (c.put_ahead.ensures.store.lasts.was_open so) in
    let mid_same : IsOpen g.S.Store c.put_ahead.new.store → desk g.S.Store c.put_ahead.new.store ≡ desk g.S.Store c.audience_of.new.self = λ so. c.put_ahead.ensures.store.same so in
    let mid_open : IsOpen g.S.Store c.carry_out-answer.new.desk.store → IsOpen g.S.Store c.put_ahead.new.store = λ so. c.carry_out-answer.ensures.responds.lasts.was_open so in
    record {
      told = λ so ho agrees.
          let ahead : IsPending (desk g.S.Store c.audience_of.new.self) (lines g.H.Store mid) entry =
          c.in-Ok-put_ahead.ensures.ahead (mid_open so) (c.carry_out-answer.ensures.lasts.was_open ho) (subst (λ e. Agrees was e these) (sym (found_same (mid_open so))) agrees) in
          c.carry_out-answer.ensures.told so ho entry asks (subst (λ e. IsPending e (lines g.H.Store mid) entry) (sym (mid_same (mid_open so))) ahead);
      adds = λ so ho staff.
          let answered : IsResponse {X = Unavailable} d c.args.day request c.carry_out-answer.result after =
          subst (λ e. IsResponse {X = Unavailable} e c.args.day request c.carry_out-answer.result after) (mid_same (mid_open so) ∙ found_same (mid_open so))
          (rw (to_z-of_z w32 c.args.day days) at (c.carry_out-answer.ensures.responds.answers so)) in
          let ends : EndsAs is entry.moment (lines g.H.Store mid) (lines g.H.Store new) c.carry_out-answer.result =
          subst (λ m. EndsAs is m (lines g.H.Store mid) (lines g.H.Store new) c.carry_out-answer.result)
          (to_z-of_z w64 signature.moment moments ∙ sym (ap (λ (e : Entry). e.moment) c.in-Ok-entry.ensures.entry)) (c.carry_out-answer.ensures.ends ho) in
          let added = adds_then d c.args.day request reply entry was c.put_ahead.new.recorder.is_unsettled is these (lines g.H.Store mid) (lines g.H.Store new) _ c.carry_out-answer.result after
          asks staff answered c.reply_with.ensures (c.in-Ok-put_ahead.ensures.puts (c.carry_out-answer.ensures.lasts.was_open ho)) ends in
          said_of (change_of request.what) request.badge (λ change badge. Adds d c.args.day request reply (entry_of signature badge change) was is these (lines g.H.Store new)) change c.in-Some.badge asked c.in-Some.is
          (subst (λ e. Adds d c.args.day request reply e was is these (lines g.H.Store new)) c.in-Ok-entry.ensures.entry added);
      grows = λ ho. grows_then these (lines g.H.Store mid) (lines g.H.Store new)
          (puts_grow was c.put_ahead.new.recorder.is_unsettled these (lines g.H.Store mid) entry c.put_ahead.result (c.put_ahead.ensures.puts (c.carry_out-answer.ensures.lasts.was_open ho)))
          (ends_grow is _ (lines g.H.Store mid) (lines g.H.Store new) c.carry_out-answer.result (c.carry_out-answer.ensures.ends ho));
      others = λ none. let e : ◌≡◌ {A = Option Change} (Some change) None = sym asked ∙ none in absurd cc;
      strangers = λ so stranger.
          let found_open = c.put_ahead.ensures.store.lasts.was_open (mid_open so) in
          let read : c.in-Ok-audience_of.audience ≡ audience_of d request.badge = subst (λ b. c.in-Ok-audience_of.audience ≡ audience_of d b) (sym c.in-Some.is) (c.in-Ok-audience_of.ensures.reads.answer found_open) in
          absurd (stranger (sym read ∙ is_staff));
      crash = λ store_was history_was store_clean history_clean agrees.
          let named : request.badge ≢ None = λ none. let e : ◌≡◌ {A = Option (List ℕ)} (Some c.in-Some.badge) None = sym c.in-Some.is ∙ none in cc in
          let store_open = c.in-Ok-put_ahead.ensures.opens (λ clean. c.in-Ok-audience_of.ensures.reads.ends_open clean) (c.carry_out-answer.ensures.responds.lasts.clean store_clean) in
          let history_open = c.in-Ok-put_ahead.ensures.ends_open (c.carry_out-answer.ensures.lasts.clean history_clean) in
          let ahead : IsPending (desk g.S.Store c.audience_of.new.self) (lines g.H.Store mid) entry =
          c.in-Ok-put_ahead.ensures.ahead store_open history_open (subst (λ e. Agrees was e these) (sym (found_same store_open)) agrees) in
          c.carry_out-answer.ensures.crash entry asks named store_open history_open store_clean history_clean (subst (λ e. IsPending e (lines g.H.Store mid) entry) (sym (mid_same store_open)) ahead);
    }

pub returns-in-Err-clause-serves : goal.returns-in-Err-clause-serves
returns-in-Err-clause-serves g c =
    let keeps = keeps_then g.S.Store c.args.desk.now.store c.audience_of.new.self c.put_ahead.new.store c.audience_of.ensures.reads.keeps (λ clean. c.in-Ok-audience_of.ensures.reads.ends_open clean) c.put_ahead.ensures.store in
    serves_none g.S.Store c.args.desk.now.store c.put_ahead.new.store c.args.day c.args.request.now c.unavailable-in-Err.result keeps c.between_calls.ensures c.unavailable-in-Err.ensures

pub returns-in-Err-clause-remembers : goal.returns-in-Err-clause-remembers
returns-in-Err-clause-remembers g c =
    let d = desk g.S.Store c.args.desk.now.store in
    let these = lines g.H.Store c.args.recorder.now.history in
    let new = lines g.H.Store c.put_ahead.new.recorder.history in
    let was = c.args.recorder.now.is_unsettled in
    let is = c.put_ahead.new.recorder.is_unsettled in
    let request = c.args.request.now in
    let entry = c.in-Ok-entry.entry in
    let change = c.in-Some-asked.change in
    let signature = c.args.signature in
    let reply = c.unavailable-in-Err.result in
    let asked : change_of request.what ≡ Some change = sym c.in-Ok.ensures ∙ c.in-Some-asked.is in
    let is_staff : c.in-Ok-audience_of.audience ≡ Some Staff = search rules in
    let found_open : IsOpen g.S.Store c.put_ahead.new.store → IsOpen g.S.Store c.audience_of.new.self = λ so. c.put_ahead.ensures.store.lasts.was_open so in
    record {
      told = λ so ho agrees. subst (λ e. Agrees is e new) (sym (c.put_ahead.ensures.store.same so))
          (c.in-Err.ensures.ahead so ho (subst (λ e. Agrees was e these) (sym (c.audience_of.ensures.reads.keeps.same (found_open so))) agrees));
      adds = λ so ho staff.
          said_of (change_of request.what) request.badge (λ change badge. Adds d c.args.day request reply (entry_of signature badge change) was is these new) change c.in-Some.badge asked c.in-Some.is
          (subst (λ e. Adds d c.args.day request reply e was is these new) c.in-Ok-entry.ensures.entry
          (adds_none d c.args.day request reply entry was is these new _ c.unavailable-in-Err.ensures (c.in-Err.ensures.puts ho)));
      grows = λ ho. puts_grow was is these new entry c.put_ahead.result (c.put_ahead.ensures.puts ho);
      others = λ none. let e : ◌≡◌ {A = Option Change} (Some change) None = sym asked ∙ none in absurd cc;
      strangers = λ so stranger.
          let read : c.in-Ok-audience_of.audience ≡ audience_of d request.badge = subst (λ b. c.in-Ok-audience_of.audience ≡ audience_of d b) (sym c.in-Some.is) (c.in-Ok-audience_of.ensures.reads.answer (found_open so)) in
          absurd (stranger (sym read ∙ is_staff));
      crash = λ store_was history_was store_clean history_clean agrees.
          let found = c.in-Ok-audience_of.ensures.reads.ends_open (c.put_ahead.ensures.store.lasts.clean store_clean) in
          c.in-Err.ensures.crash refl found history_was store_clean history_clean (subst (λ e. Agrees was e these) (sym (c.audience_of.ensures.reads.keeps.same found)) agrees);
    }
