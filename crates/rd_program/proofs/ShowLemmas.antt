-- What is shown and what is found of a desk, and why it is not.
use Rattle.std.proofs.Common.{◌≡◌, ◌≢◌, ◌⊎◌, ◌∙◌, ℕ, ℤ, Bool, List, Option, Some, None, Result, Ok, Err, IfErr, IfOk, IfSome, IsOk, OnOk, ap, arith, false, option_map, true, inl, inr, refl, subst, sym}
use Rattle.std.specs.Io.KnownBytes.{Appends, Keeps}
use Rattle.std.proofs.KnownBytes.{Keeps-refl}
use Rattle.std.proofs.lemmas.Result.{IfErr-weaker, on_ok_weaker}
use Rattle.std.specs.Borrow.{Bor}
use Rattle.std.specs.Prelude.{IsErrAnd, IsSome}
use Rattle.sha2.specs.Sha256.{sha256}
use Rattle.sqlite.specs.Held.{Held}
use Rattle.sqlite.specs.Store.{Ghosts}
use Rattle.rd_store.specs.Held.{IsClean, IsOpen, Lasts, desk}
use Rattle.rd_store.specs.Migrated.{IsMigrated}
use Rattle.rd_holdings.specs.State.{Desk}
use Rattle.rd_policy.specs.declared.zone.Zone.{Zone}
use Rattle.rd_holdings.specs.declared.rows.Outcome.{Outcome}
use Rattle.rd_protocol.specs.Requests.{IsForStaff}
use Rattle.rd_protocol.specs.Replies.{IsAnswered, IsStep, carried_out}
use Rattle.rd_protocol.specs.Texts.{reply_of}
use Rattle.rd_protocol.specs.declared.refusal.Refusal.{Refusal as Reason}
use Rattle.rd_protocol.specs.declared.refusal.Refusal.TheVariants as desk_refusal
use Rattle.rd_protocol.specs.declared.request.Request.{Request}
use Rattle.rd_protocol.specs.declared.request.What.{What}
use Rattle.rd_protocol.specs.declared.request.What.TheVariants as request
use Rattle.rd_protocol.specs.declared.response.Reply.{Reply}
use Rattle.rd_protocol.specs.declared.response.Response.{Response}
use Rattle.rd_protocol.specs.declared.response.Response.TheVariants as response
use Rattle.rd_desk.specs.Calls.{IsResponse}
use Rattle.rd_desk.specs.Served.{IsTurnedAway, Responds}
use Rattle.rd_commands.specs.Asks.{IsCheckOf}
use Rattle.rd_commands.specs.declared.done.Done.{Done}
use Rattle.rd_commands.specs.declared.words.OneQuestionAsk.{OneQuestionAsk}
use Rattle.rd_commands.specs.declared.words.Question.{Question}
use Rattle.rd_commands.specs.declared.words.Shown.{Shown}
use Rattle.rd_commands.specs.declared.words.Question.TheVariants as question
use Rattle.rd_commands.specs.declared.refusal.Refusal.{Refusal}
use Rattle.rd_commands.specs.declared.refusal.Refusal.TheVariants.{NoAccession, StaffOnly, Store, UnknownKey}
use Rattle.rd_program.specs.Answers.{answer_to_show, outcome_of, refusal_for}
use Rattle.rd_program.specs.Leaves.{IsDayAt, IsSame, LeavesDesk, StepsOf, moment_of}
use Rattle.rd_program.specs.Serving.{IsClockRefusal, IsOpenRefusal}
use Rattle.rd_program.specs.Showing.{AnswersOneQuestion, EndsWith, Finds, FindsStore, IsDueIn, IsDueOn, IsRefusedFor, IsShowRefusal, IsToShow, OfDesk, HoldsOfDesks, RefusesShow, Shows, ShowsStore, asked_of, badge_of, found_by, names_accession, request_of, shown_text, what_to_show}
use Rattle.rd_program.proofs.LeftStores.{from_opened, of_opening}
use Rattle.rd_program.proofs.DeskSteps.{response_step}

-- ---- the desk is as it was

carried_same : (day : ℤ) (what : What) (stood : Desk) → IsToShow what → carried_out day what stood ≡ stood
carried_same day request.Catalogue stood to = refl
carried_same day request.Deeds stood to = refl
carried_same day request.Takedowns stood to = refl
carried_same day request.Keys stood to = refl
carried_same day request.Checks stood to = refl
carried_same day (request.Verdicts on) stood to = refl
carried_same day (request.VerdictsOf on acc) stood to = refl
carried_same day other stood to = absurd to

same_after : (badge : Option (List ℕ)) (what : What) (day : ℤ) (old new : Desk) → IsToShow what
    → (new ≡ old) ⊎ IsStep old day (request_of badge what) new → new ≡ old
same_after badge what day old new to (inl same) = same
same_after badge what day old new to (inr (inl accepted)) = accepted.1 ∙ carried_same day what old to
same_after badge what day old new to (inr (inr refused)) = refused.1

-- ---- what the program makes of an answer

pub shown_is : {X : Type 0} (named : Bool) (r : Result Response X) (answer : Response) → answer_to_show named r ≡ Ok answer
    → (r ≡ Ok answer) × ((reply_of answer).status ≡ 200)
shown_is named (Ok (response.Refused reason)) answer is = absurd (cc is)
shown_is named (Ok other) answer is = let same : other ≡ answer = cc is in (ap Ok same, subst (λ a. (reply_of a).status ≡ 200) same refl)
shown_is named (Err fault) answer is = absurd (cc is)

pub found_is : {X : Type 0} (r : Result Response X) (outcome : Outcome) → outcome_of r ≡ Ok outcome → r ≡ Ok (response.Checked outcome)
found_is (Ok (response.Refused reason)) outcome is = absurd (cc is)
found_is (Ok (response.Checked told)) outcome is = let same : told ≡ outcome = cc is in ap (λ o. Ok (response.Checked o)) same
found_is (Ok other) outcome is = absurd (cc is)
found_is (Err fault) outcome is = absurd (cc is)

-- ---- an answer of a desk

module _ {S X : Type 0} (g : Ghosts S) (old new : Held S) (day : ℤ) (badge : Option (List ℕ)) (what : What) (result : Result Response X)
    (responds : Responds g old new day (request_of badge what) result) where
  answered_same : IsToShow what → IsOpen g new → desk g new ≡ desk g old
  answered_same to is_open =
      same_after badge what day (desk g old) (desk g new) to (response_step (desk g old) day (request_of badge what) result (desk g new) (responds.answers is_open))

  pub shows_same : IsToShow what → LeavesDesk g IsSame old new
  shows_same to = record { lasts = responds.lasts; reached = answered_same to }

  -- an open desk has answered so
  answered : (answer : Response) → result ≡ Ok answer → IsOpen g new → IsAnswered (desk g old) day (request_of badge what) answer (desk g new)
  answered answer is is_open = subst (λ r. IsResponse (desk g old) day (request_of badge what) r (desk g new)) is (responds.answers is_open)

  -- after an answer the desk is open, unless the caller was turned away
  open_unless : IsClean g new → (answer : Response) → result ≡ Ok answer → (IsTurnedAway old new (request_of badge what) (λ refused. result ≡ Ok refused) → ⊥)
      → IsOpen g new
  open_unless clean answer is none = elim (responds.ends_open clean (subst IsOk (sym is) refl)) [ inl is_open ↦ is_open | inr away ↦ absurd (none away) ]

  -- ---- what is shown and what is found

  pub shows_desk : (named : Bool) (answer : Response) (reply : Reply) (out written : Option (List ℕ)) → IsToShow what → answer_to_show named result ≡ Ok answer
      → reply ≡ reply_of answer → Appends out written (shown_text reply)
      → OfDesk g (λ stood after. Shows (λ d. d ≡ day) (request_of badge what) stood out written) old new
  shows_desk named answer reply out written to told is wrote = λ clean.
      let found = shown_is named result answer told in
      let is_open : IsOpen g new = open_unless clean answer found.0 (λ away.
      let both : Ok answer ≡ Ok (response.Refused desk_refusal.StaffOnly) = sym found.0 ∙ away.refused in
      let same : answer ≡ response.Refused desk_refusal.StaffOnly = cc both in
      let status : 403 ≡ 200 = subst (λ a. (reply_of a).status ≡ 200) same found.1 in omega (arith, status)) in (
        is_open,
        record {
          day = day;
          on = refl;
          reply = reply;
          is = record {
            answer = answer;
            answered = subst (λ d. IsAnswered (desk g old) day (request_of badge what) answer d) (answered_same to is_open) (answered answer found.0 is_open);
            written = is;
          };
          done = subst (λ r. r.status ≡ 200) (sym is) found.1;
          written = wrote;
        },
      )

  pub finds_desk : (outcome : Outcome) → outcome_of result ≡ Ok outcome → OfDesk g (Finds (λ d. d ≡ day) (request_of badge what) outcome) old new
  finds_desk outcome told = λ clean.
      let found = found_is result outcome told in
      let is_open : IsOpen g new = open_unless clean (response.Checked outcome) found (λ away.
      let both : Ok (response.Checked outcome) ≡ Ok (response.Refused desk_refusal.StaffOnly) = sym found ∙ away.refused in absurd (cc both)) in
      (is_open, record { day = day; on = refl; is = answered (response.Checked outcome) found is_open })

  -- ---- why not

  -- a caller who shows a badge, or asks for what anyone may ask for, is judged by the desk
  refused_for : IsSome badge ⊎ ¬ IsForStaff what → (reason : Reason) → result ≡ Ok (response.Refused reason)
      → OfDesk g (λ stood after. IsRefusedFor (λ d. d ≡ day) (request_of badge what) reason stood) old new
  refused_for there reason is = λ clean.
      let is_open : IsOpen g new = open_unless clean (response.Refused reason) is (λ away. elim there as (λ _. ⊥) [
        | inl some ↦ let none : false ≡ true = subst IsSome away.nobody some in cc none
        | inr other ↦ other away.for_staff
      ]) in
      (is_open, (day, refl, (answered (response.Refused reason) is is_open).0))

  due_for : IsSome badge ⊎ ¬ IsForStaff what → (named : Bool) (reason : Reason) → result ≡ Ok (response.Refused reason)
      → IsDueOn g (λ d. d ≡ day) (request_of badge what) old new (refusal_for named reason)
  due_for there named desk_refusal.UnknownKey is = refused_for there desk_refusal.UnknownKey is
  due_for there named desk_refusal.StaffOnly is = refused_for there desk_refusal.StaffOnly is
  due_for there true desk_refusal.NoAccession is = refused_for there desk_refusal.NoAccession is
  due_for there named other is = tt

  pub shown_due : (of_one : Bool) → IsSome badge ⊎ ¬ IsForStaff what → (refusal : Refusal) → answer_to_show of_one result ≡ Err refusal
      → IsDueOn g (λ d. d ≡ day) (request_of badge what) old new refusal
  shown_due of_one there refusal told = go result refl told
    where
      go : (r : Result Response X) → result ≡ r → answer_to_show of_one r ≡ Err refusal → IsDueOn g (λ d. d ≡ day) (request_of badge what) old new refusal
      go (Ok (response.Refused reason)) is named =
          let same : refusal_for of_one reason ≡ refusal = cc named in
          subst (IsDueOn g (λ d. d ≡ day) (request_of badge what) old new) same (due_for there of_one reason is)
      go (Ok other) is named = absurd (cc named)
      go (Err fault) is named = let same : Store ≡ refusal = cc named in subst (IsDueOn g (λ d. d ≡ day) (request_of badge what) old new) same tt

  pub found_due : IsSome badge ⊎ ¬ IsForStaff what → (refusal : Refusal) → outcome_of result ≡ Err refusal → IsDueOn g (λ d. d ≡ day) (request_of badge what) old new refusal
  found_due there refusal told = go result refl told
    where
      go : (r : Result Response X) → result ≡ r → outcome_of r ≡ Err refusal → IsDueOn g (λ d. d ≡ day) (request_of badge what) old new refusal
      go (Ok (response.Refused reason)) is named =
          let same : refusal_for true reason ≡ refusal = cc named in
          subst (IsDueOn g (λ d. d ≡ day) (request_of badge what) old new) same (due_for there true reason is)
      go (Ok (response.Checked told)) is named = absurd (cc named)
      go (Ok other) is named = let same : Store ≡ refusal = cc named in subst (IsDueOn g (λ d. d ≡ day) (request_of badge what) old new) same tt
      go (Err fault) is named = let same : Store ≡ refusal = cc named in subst (IsDueOn g (λ d. d ≡ day) (request_of badge what) old new) same tt

-- ---- on other days

module _ (Days More : ℤ → Type 0) (weaker : (day : ℤ) → Days day → More day) (asked : Request) where
  shows_on : (stood : Desk) (out written : Option (List ℕ)) → Shows Days asked stood out written → Shows More asked stood out written
  shows_on stood out written shows = record {
    day = shows.day;
    on = weaker shows.day shows.on;
    reply = shows.reply;
    is = shows.is;
    done = shows.done;
    written = shows.written;
  }

  finds_on : (outcome : Outcome) (stood after : Desk) → Finds Days asked outcome stood after → Finds More asked outcome stood after
  finds_on outcome stood after finds = record { day = finds.day; on = weaker finds.day finds.on; is = finds.is }

  refused_on : (reason : Reason) (stood : Desk) → IsRefusedFor Days asked reason stood → IsRefusedFor More asked reason stood
  refused_on reason stood refused = (refused.0, weaker refused.0 refused.1, refused.2)

  module _ {S : Type 0} (g : Ghosts S) (old new : Held S) where
    of_desk : (P Q : Desk → Desk → Type 0) → ((stood after : Desk) → P stood after → Q stood after) → OfDesk g P old new → OfDesk g Q old new
    of_desk P Q more holds = λ clean. let at = holds clean in (at.0, more (desk g old) (desk g new) at.1)

    pub shows_desk_on : (out written : Option (List ℕ)) → OfDesk g (λ stood after. Shows Days asked stood out written) old new
        → OfDesk g (λ stood after. Shows More asked stood out written) old new
    shows_desk_on out written = of_desk _ _ (λ stood after. shows_on stood out written)

    pub finds_desk_on : (outcome : Outcome) → OfDesk g (Finds Days asked outcome) old new → OfDesk g (Finds More asked outcome) old new
    finds_desk_on outcome = of_desk _ _ (finds_on outcome)

    pub due_on : (refusal : Refusal) → IsDueOn g Days asked old new refusal → IsDueOn g More asked old new refusal
    due_on UnknownKey = of_desk _ _ (λ stood after. refused_on desk_refusal.UnknownKey stood)
    due_on StaffOnly = of_desk _ _ (λ stood after. refused_on desk_refusal.StaffOnly stood)
    due_on NoAccession = of_desk _ _ (λ stood after. refused_on desk_refusal.NoAccession stood)
    due_on other = λ due. tt

-- ---- by what is refused

pub show_due : (what : What) (refusal : Refusal) (old new : Option (List ℕ)) → IsShowRefusal (names_accession what) refusal → Keeps old new → RefusesShow what old new refusal
show_due what refusal old new (inl is) kept = (inl (inr (inr (inl is)), kept), λ none. absurd (cc (sym is ∙ none)))
show_due what refusal old new (inr (inl is)) kept = (inl (inr (inr (inr (inl is))), kept), λ none. absurd (cc (sym is ∙ none)))
show_due what refusal old new (inr (inr (inl is))) kept = (inl (inr (inr (inr (inr (inl is.0)))), kept), λ none. is.1)
show_due what refusal old new (inr (inr (inr is))) kept = (inl (inr (inr (inr (inr (inr (inr (inr is)))))), kept), λ none. absurd (cc (sym is ∙ none)))

-- ---- the store that it was asked of

module _ {S : Type 0} (g : Ghosts S) (old new : Option (Held S)) (opened last conn : Held S) where
  -- what holds of the connection that stood and of the last is what the command ends with
  pub ends_with : (P : Held S → Held S → Type 0) → IfSome old (λ before. IsMigrated g before opened) → ((before : Held S) → IsMigrated g before opened → P before last)
      → conn ≡ last → IfSome new (λ held. Some conn ≡ Some held) → EndsWith old new P
  ends_with P is makes same took = elim old as (λ o. IfSome o (λ before. IsMigrated g before opened) → EndsWith o new P) [
    | Some before ↦ λ at. (last, makes before at, taken new took)
    | None ↦ λ at. tt
  ] is
    where
      taken : (held : Option (Held S)) → IfSome held (λ h. Some conn ≡ Some h) → IfSome held (λ h. last ≡ h)
      taken (Some h) is = let one : conn ≡ h = cc in sym same ∙ one
      taken None is = tt

  of_stood : (P : Desk → Desk → Type 0) (before : Held S) → IsMigrated g before opened → Lasts g opened last → OfDesk g P opened last → HoldsOfDesks g P before last
  of_stood P before at lasts holds = λ clean. let found = holds clean in (desk g opened, at.is (lasts.was_open found.0), found.1)

  pub ends_showing : (Days : ℤ → Type 0) (asked : Request) (out written : Option (List ℕ)) → IfSome old (λ before. IsMigrated g before opened)
      → LeavesDesk g IsSame opened last → OfDesk g (λ stood after. Shows Days asked stood out written) opened last → conn ≡ last
      → IfSome new (λ held. Some conn ≡ Some held) → EndsWith old new (ShowsStore g Days asked out written)
  ends_showing Days asked out written is leaves shows =
      ends_with (ShowsStore g Days asked out written) is (λ before at. record {
        leaves = from_opened g IsSame before opened last at leaves;
        shows = of_stood (λ stood after. Shows Days asked stood out written) before at leaves.lasts shows;
      })

  pub ends_of_stood : (P : Desk → Desk → Type 0) → IfSome old (λ before. IsMigrated g before opened) → Lasts g opened last → OfDesk g P opened last
      → conn ≡ last → IfSome new (λ held. Some conn ≡ Some held) → EndsWith old new (HoldsOfDesks g P)
  ends_of_stood P is lasts holds = ends_with (HoldsOfDesks g P) is (λ before at. of_stood P before at lasts holds)

  pub due_in : (Days : ℤ → Type 0) (asked : Request) (refusal : Refusal) → IfSome old (λ before. IsMigrated g before opened) → Lasts g opened last
      → IsDueOn g Days asked opened last refusal → conn ≡ last → IfSome new (λ held. Some conn ≡ Some held) → IsDueIn g Days asked old new refusal
  due_in Days asked UnknownKey is lasts due same took = ends_of_stood (λ stood after. IsRefusedFor Days asked desk_refusal.UnknownKey stood) is lasts due same took
  due_in Days asked StaffOnly is lasts due same took = ends_of_stood (λ stood after. IsRefusedFor Days asked desk_refusal.StaffOnly stood) is lasts due same took
  due_in Days asked NoAccession is lasts due same took = ends_of_stood (λ stood after. IsRefusedFor Days asked desk_refusal.NoAccession stood) is lasts due same took
  due_in Days asked refusal is lasts due same took = tt

-- no caller is refused where no desk was opened
pub open_due : {S : Type 0} (g : Ghosts S) (Days : ℤ → Type 0) (asked : Request) (old new : Option (Held S)) (refusal : Refusal) → IsOpenRefusal refusal
    → IsDueIn g Days asked old new refusal
open_due g Days asked old new refusal opening = of_opening (IsDueIn g Days asked old new) refusal opening tt tt tt tt tt

pub open_no_accession : (refusal : Refusal) → IsOpenRefusal refusal → refusal ≢ NoAccession
open_no_accession refusal opening = of_opening (λ r. r ≢ NoAccession) refusal opening (λ is. cc is) (λ is. cc is) (λ is. cc is) (λ is. cc is) (λ is. cc is)

pub clock_no_accession : (refusal : Refusal) → IsClockRefusal refusal → refusal ≢ NoAccession
clock_no_accession refusal (inl is) same = cc (sym is ∙ same)
clock_no_accession refusal (inr is) same = cc (sym is ∙ same)

pub clock_due : {S : Type 0} (g : Ghosts S) (Days : ℤ → Type 0) (asked : Request) (old new : Held S) (refusal : Refusal) → IsClockRefusal refusal
    → IsDueOn g Days asked old new refusal
clock_due g Days asked old new refusal (inl is) = subst (IsDueOn g Days asked old new) (sym is) tt
clock_due g Days asked old new refusal (inr is) = subst (IsDueOn g Days asked old new) (sym is) tt

-- a check and what is shown are not the catalogue, so there is a key
pub key_of_check : (key : Option (Bor (List ℕ))) (acc : ℕ) (asked : Question) → asked ≡ question.Check acc → IsSome key ⊎ (asked ≡ question.Catalogue) → IsSome key
key_of_check key acc asked is (inl some) = some
key_of_check key acc asked is (inr catalogue) = let no : question.Check acc ≡ question.Catalogue = sym is ∙ catalogue in absurd (cc no)

pub key_of_show : (key : Option (Bor (List ℕ))) (shown : Shown) (asked : Question) → asked ≡ question.Show shown → IsSome key ⊎ (asked ≡ question.Catalogue) → IsSome key
key_of_show key shown asked is (inl some) = some
key_of_show key shown asked is (inr catalogue) = let no : question.Show shown ≡ question.Catalogue = sym is ∙ catalogue in absurd (cc no)

pub badge_there : (key : Option (Bor (List ℕ))) → IsSome key → IsSome (option_map sha256 (option_map (λ k. k.now) key))
badge_there (Some key) some = refl
badge_there None some = cc some

-- what holds of a refusal holds of it where it is passed on
pub passed_on : {T : Type 0} (r : Result T Refusal) (refusal : Refusal) (P : Refusal → Type 0) → IsErrAnd r (λ other. other ≡ refusal) → P refusal → IfErr r P
passed_on (Ok value) refusal P is fact = absurd is
passed_on (Err other) refusal P is fact = subst P (sym is) fact

-- ---- by what is asked for

-- a check is nothing to show
pub no_check : (acc : ℕ) (what : What) → what_to_show (question.Check acc) ≡ Some what → ⊥
no_check acc what is = cc is

module _ {T : Type 0} (r : Result T Refusal) {S : Type 0} (g : Ghosts S) (old new : Held S) (day : ℤ) (More : ℤ → Type 0) (on : More day)
    (badge asked : Option (List ℕ)) (same : badge ≡ asked) where
  on_day : (d : ℤ) → d ≡ day → More d
  on_day d is = subst More (sym is) on

  pub shows_asked : (what other : What) (out written : Option (List ℕ)) → what ≡ other
      → OnOk r (OfDesk g (λ stood after. Shows (λ d. d ≡ day) (request_of badge what) stood out written) old new)
      → OnOk r (OfDesk g (λ stood after. Shows More (request_of asked other) stood out written) old new)
  shows_asked what other out written is shows =
      subst (λ w. OnOk r (OfDesk g (λ stood after. Shows More (request_of asked w) stood out written) old new)) is
      (subst (λ b. OnOk r (OfDesk g (λ stood after. Shows More (request_of b what) stood out written) old new)) same
      (on_ok_weaker r (shows_desk_on (λ d. d ≡ day) More on_day (request_of badge what) g old new out written) shows))

  pub due_asked : (what other : What) → what ≡ other → IfErr r (IsDueOn g (λ d. d ≡ day) (request_of badge what) old new)
      → IfErr r (IsDueOn g More (request_of asked other) old new)
  due_asked what other is due =
      subst (λ w. IfErr r (IsDueOn g More (request_of asked w) old new)) is
      (subst (λ b. IfErr r (IsDueOn g More (request_of b what) old new)) same
      (IfErr-weaker r _ _ (due_on (λ d. d ≡ day) More on_day (request_of badge what) g old new) due))

pub finds_asked : (r : Result Done Refusal) {S : Type 0} (g : Ghosts S) (old new : Held S) (day : ℤ) (More : ℤ → Type 0) (on : More day)
    (badge asked : Option (List ℕ)) (acc other : ℕ) → badge ≡ asked → acc ≡ other
    → IfOk r (λ done. OfDesk g (Finds (λ d. d ≡ day) (request_of badge (request.Check acc)) (found_by done)) old new)
    → IfOk r (λ done. OfDesk g (Finds More (request_of asked (request.Check other)) (found_by done)) old new)
finds_asked (Ok done) g old new day More on badge asked acc other same is finds =
    subst (λ a. OfDesk g (Finds More (request_of asked (request.Check a)) (found_by done)) old new) is
    (subst (λ b. OfDesk g (Finds More (request_of b (request.Check acc)) (found_by done)) old new) same
    (finds_desk_on (λ d. d ≡ day) More (λ d at. subst More (sym at) on) (request_of badge (request.Check acc)) g old new (found_by done) finds))
finds_asked (Err refusal) g old new day More on badge asked acc other same is finds = tt

-- what is found of an open desk is found of the one that stood
pub finds_ended : (r : Result Done Refusal) {S : Type 0} (g : Ghosts S) (old new : Option (Held S)) (opened last conn : Held S) (Days : ℤ → Type 0) (asked : Request)
    → IfSome old (λ before. IsMigrated g before opened) → Lasts g opened last → conn ≡ last → IfSome new (λ held. Some conn ≡ Some held)
    → IfOk r (λ done. OfDesk g (Finds Days asked (found_by done)) opened last) → IfOk r (λ done. EndsWith old new (HoldsOfDesks g (Finds Days asked (found_by done))))
finds_ended (Ok done) g old new opened last conn Days asked is lasts same took finds =
    ends_of_stood g old new opened last conn (Finds Days asked (found_by done)) is lasts finds same took
finds_ended (Err refusal) g old new opened last conn Days asked is lasts same took finds = tt

-- the refusal of an opening shows nothing, and is no judgement of the desk
pub not_opened_once : {S : Type 0} (g : Ghosts S) (clock : Option ℤ) (stood left : Option (Held S)) (out : Option (List ℕ)) (ask : OneQuestionAsk) (r : Result Done Refusal)
    (refusal : Refusal) → IsErrAnd r (λ other. other ≡ refusal) → IsOpenRefusal refusal → AnswersOneQuestion g clock stood left out out ask r
not_opened_once g clock stood left out ask (Ok done) refusal is opening = absurd is
not_opened_once g clock stood left out ask (Err other) refusal is opening =
    let why : IsOpenRefusal other = subst IsOpenRefusal (sym is) opening in
    record {
      shown = λ what asked. tt;
      not_shown = λ what asked. (inl (inl why, Keeps-refl out), λ none. absurd (open_no_accession other why none));
      found = λ acc asked. tt;
      due = λ judged. open_due g (IsDayAt (moment_of ask.when.seconds clock) ask.when.zone) (request_of (badge_of ask) (asked_of ask.question)) stood left other why;
    }

-- what was asked of an open desk was asked of the one that stood
pub answers_once : {S : Type 0} (g : Ghosts S) (ask : OneQuestionAsk) (r : Result Done Refusal) (old new : Option (Held S)) (opened last conn : Held S) (clock later : Option ℤ)
    (zone : Zone) (out written : Option (List ℕ)) → IfSome old (λ before. IsMigrated g before opened) → Lasts g opened last → conn ≡ last
    → IfSome new (λ held. Some conn ≡ Some held) → later ≡ clock → zone ≡ ask.when.zone
    → ((what : What) → what_to_show ask.question ≡ Some what
    → OnOk r (OfDesk g (λ stood after. Shows (IsDayAt (moment_of ask.when.seconds later) zone) (request_of (badge_of ask) what) stood out written) opened last))
    → ((what : What) → what_to_show ask.question ≡ Some what → IfErr r (RefusesShow what out written))
    → ((acc : ℕ) → IsCheckOf acc ask.question
    → IfOk r (λ done. OfDesk g (Finds (IsDayAt (moment_of ask.when.seconds later) zone) (request_of (badge_of ask) (request.Check acc)) (found_by done)) opened last))
    → (IsSome ask.key ⊎ (ask.question ≡ question.Catalogue) → IfErr r (IsDueOn g (IsDayAt (moment_of ask.when.seconds later) zone) (request_of (badge_of ask) (asked_of ask.question)) opened last))
    → LeavesDesk g (StepsOf (badge_of ask) (IsDayAt (moment_of ask.when.seconds later) zone) ask.question) opened last
    → AnswersOneQuestion g clock old new out written ask r
answers_once {S} g ask r old new opened last conn clock later zone out written is lasts same took at by shown not_shown found due steps = record {
  shown = λ what asked.
      subst (λ (d : ℤ → Type 0). OnOk r (EndsWith old new (ShowsStore g d (request_of (badge_of ask) what) out written))) days
      (on_ok_weaker r (λ shows. ends_showing g old new opened last conn (IsDayAt (moment_of ask.when.seconds later) zone) (request_of (badge_of ask) what) out written is
      (steps_to_show ask.question what asked steps) shows same took) (shown what asked));
  not_shown = not_shown;
  found = λ acc asked.
      subst (λ (d : ℤ → Type 0). IfOk r (λ done. EndsWith old new (FindsStore g d (badge_of ask) acc (found_by done)))) days
      (finds_ended r g old new opened last conn (IsDayAt (moment_of ask.when.seconds later) zone) (request_of (badge_of ask) (request.Check acc)) is lasts same took (found acc asked));
  due = λ judged.
      subst (λ (d : ℤ → Type 0). IfErr r (IsDueIn g d (request_of (badge_of ask) (asked_of ask.question)) old new)) days
      (IfErr-weaker r _ _ (λ refusal why. due_in g old new opened last conn (IsDayAt (moment_of ask.when.seconds later) zone) (request_of (badge_of ask) (asked_of ask.question))
      refusal is lasts why same took) (due judged));
}
  where
    days : IsDayAt (moment_of ask.when.seconds later) zone ≡ IsDayAt (moment_of ask.when.seconds clock) ask.when.zone
    days = ap (λ m. IsDayAt (moment_of ask.when.seconds m) zone) at ∙ ap (IsDayAt (moment_of ask.when.seconds clock)) by

    steps_to_show : (asked : Question) (what : What) → what_to_show asked ≡ Some what
        → LeavesDesk g (StepsOf (badge_of ask) (IsDayAt (moment_of ask.when.seconds later) zone) asked) opened last → LeavesDesk g IsSame opened last
    steps_to_show question.Catalogue what is steps = steps
    steps_to_show (question.Show shown) what is steps = steps
    steps_to_show (question.Check acc) what is steps = absurd (cc is)
