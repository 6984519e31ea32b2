-- What a desk carries out, its history tells.
use Rattle.std.proofs.Common.{◌≡◌, ◌≢◌, ◌∙◌, ◌⊎◌, ◌↔◌, ◌+◌, inl, inr, ℕ, ℤ, Bool, true, false, true≢false, cond, IfSome, IsSomeAnd, Option, None, Some, Result, Ok, Err, IsErr, is_err, List, [], ◌∷◌, ◌++◌, ap, arith, length, nat_cmp, not, option_map, refl, subst, sym, append_assoc, append-nil}
use Rattle.std.specs.FinMap.{get, get-insert, insert, remove}
use Rattle.std.specs.Ordering.{eq_by_cmp}
use Rattle.sqlite.specs.Held.{Held}
use Rattle.sqlite.specs.Store.{Ghosts}
use Rattle.rd_tables.specs.Connections.{IsOpen}
use Rattle.rd_chain.proofs.Laws.{lines_kept}
use Rattle.rd_chain.specs.Held.{IsAtRest, lines as lines_of_held}
use Rattle.rd_desk.specs.Calls.{IsResponse, IsWritten}
use Rattle.rd_store.specs.Held.{Keeps, desk as desk_of}
use Rattle.rd_holdings.proofs.KeyOrders.{number_order}
use Rattle.rd_holdings.specs.State.{Desk, place_of, put_or_kept as desk_with, terms_of}
use Rattle.rd_holdings.specs.declared.rows.ImageRow.{ImageRow}
use Rattle.rd_protocol.proofs.ReplyBodies.{told_done}
use Rattle.rd_protocol.specs.Judged.{Holds, IsAsked, IsRefusedOn, JudgedFile, audience_of, file_of}
use Rattle.rd_protocol.specs.Replies.{Answers, IsAnswered, carried_out, with_checked}
use Rattle.rd_protocol.specs.Requests.{IsForStaff, IsPutOrDrop}
use Rattle.rd_protocol.specs.Refusals.{name_of, status_of}
use Rattle.rd_protocol.specs.Texts.{UNAVAILABLE, reply_of}
use Rattle.rd_protocol.specs.declared.refusal.Refusal.{Refusal}
use Rattle.rd_protocol.specs.declared.refusal.Refusal.TheVariants.{BadBody, Denied, Faulty, ListedOnly, NoFile, StaffOnly, UnknownKey}
use Rattle.rd_protocol.specs.declared.request.Request.{Request}
use Rattle.rd_protocol.specs.declared.request.What.{What}
use Rattle.rd_protocol.specs.declared.request.What.TheVariants as what
use Rattle.rd_protocol.specs.declared.response.Reply.{Reply}
use Rattle.rd_protocol.specs.declared.response.Response.{Response}
use Rattle.rd_protocol.specs.declared.response.Response.TheVariants.{Done, Refused}
use Rattle.rd_policy.specs.declared.audience.Audience.{Audience}
use Rattle.rd_policy.specs.declared.audience.Audience.TheVariants.{Public, Room, Staff}
use Rattle.rd_history.specs.Changes.{change_of}
use Rattle.rd_history.specs.Entries.{IsEntry, cause_word}
use Rattle.rd_history.specs.Histories.{AreLinesOf, IsHistory, line_at, void_of, with_entry}
use Rattle.rd_history.specs.Laws.{DoneChangesStay}
use Rattle.rd_history.specs.Left.{StayNear}
use Rattle.rd_history.specs.Remembered.{Adds, Agrees, AreSettled, EndsAs, Grows, IsAhead, IsPending, PutsAhead, Remembers, cause_by, entry_of}
use Rattle.rd_history.specs.declared.remembering.Signature.{Signature}
use Rattle.rd_history.specs.Settled.{Settles, StandsAs, StandsNear, TakesBack, deposit_of}
use Rattle.rd_history.specs.Standings.{Deposit, Standing, changed, put_or_kept, standing_after}
use Rattle.rd_history.specs.declared.entry.Cause.{Cause}
use Rattle.rd_history.specs.declared.entry.Cause.TheVariants.{Lost}
use Rattle.rd_history.specs.declared.settling.Unsettled.{Unsettled}
use Rattle.rd_history.specs.declared.entry.Change.{Change}
use Rattle.rd_history.specs.declared.entry.Change.TheVariants.{Deed, Image, Rule, DropRule, Key, DropKey}
use Rattle.rd_history.specs.declared.entry.Entry.{Entry}
use Rattle.rd_history.proofs.LeftLemmas.{keeps_near}
use Rattle.rd_history.proofs.NearLemmas.{entry_more}
use Rattle.rd_history.proofs.SoLemmas.{same_in, stands_after}
use Rattle.rd_history.proofs.ToldLemmas.{voids_take_back}

-- ---- what stands

pub image_carried : (desk : Desk) (now : Standing) (acc : ℕ) (image : ImageRow) (here : Option ImageRow) (there : Option Deposit) → get desk.images acc ≡ here → get now.images acc ≡ there → StandsAs desk now
    → StandsAs (desk_with here acc image desk) (put_or_kept there acc (deposit_of image) now)
image_carried desk now acc image None None here there stands = record { deeds = stands.deeds; images = images; rules = stands.rules; keys = stands.keys }
  where
    either : (b : Bool) (q : ℕ) → option_map deposit_of (cond b (Some image) (get desk.images q)) ≡ cond b (Some (deposit_of image)) (get now.images q)
    either true q = refl
    either false q = stands.images q

    images : (q : ℕ) → option_map deposit_of (get (insert desk.images acc image) q) ≡ get (insert now.images acc (deposit_of image)) q
    images q =
        ap (option_map deposit_of) (get-insert number_order.total desk.images acc image q)
        ∙ either (eq_by_cmp nat_cmp q acc) q
        ∙ sym (get-insert number_order.total now.images acc (deposit_of image) q)
image_carried desk now acc image (Some row) (Some deposit) here there stands = stands
image_carried desk now acc image None (Some deposit) here there stands = absurd (let e : ◌≡◌ {A = Option Deposit} None (Some deposit) = sym (ap (option_map deposit_of) here) ∙ stands.images acc ∙ there in cc)
image_carried desk now acc image (Some row) None here there stands = absurd (let e : ◌≡◌ {A = Option Deposit} (Some (deposit_of row)) None = sym (ap (option_map deposit_of) here) ∙ stands.images acc ∙ there in cc)

-- what is asked is carried out alike in a desk and in what stands
pub carried_stands : (day : ℤ) (asked : What) (change : Change) (desk : Desk) (now : Standing) → change_of asked ≡ Some change → StandsAs desk now → StandsAs (carried_out day asked desk) (changed change now)
carried_stands day asked change desk now is stands = go asked is
  where
    for : (asked : What) (found : Change) → ◌≡◌ {A = Option Change} (Some found) (Some change) → StandsAs (carried_out day asked desk) (changed found now) → StandsAs (carried_out day asked desk) (changed change now)
    for asked found is so = subst (λ c. StandsAs (carried_out day asked desk) (changed c now)) (same_in found change is) so

    go : (asked : What) → change_of asked ≡ Some change → StandsAs (carried_out day asked desk) (changed change now)
    go (what.PutImage acc kind deed digest bytes) is =
        for (what.PutImage acc kind deed digest bytes) (Image acc kind deed digest) is
        (image_carried desk now acc (record { kind = kind; deed = deed; digest = digest; bytes = bytes }) (get desk.images acc) (get now.images acc) refl refl stands)
    go (what.PutDeed num donor signed) is =
        for (what.PutDeed num donor signed) (Deed num donor signed) is
        (record { deeds = ap (λ m. insert m num (record { donor = donor; signed = signed })) stands.deeds; images = stands.images; rules = stands.rules; keys = stands.keys })
    go (what.PutRule rule) is =
        for (what.PutRule rule) (Rule rule) is
        (record { deeds = stands.deeds; images = stands.images; rules = ap (λ m. insert m (place_of rule) (terms_of rule)) stands.rules; keys = stands.keys })
    go (what.DropRule band scope rank) is =
        for (what.DropRule band scope rank) (DropRule band scope rank) is
        (record { deeds = stands.deeds; images = stands.images; rules = ap (λ m. remove m (record { band = band; scope = scope; rank = rank })) stands.rules; keys = stands.keys })
    go (what.PutKey digest audience) is =
        for (what.PutKey digest audience) (Key digest audience) is
        (record { deeds = stands.deeds; images = stands.images; rules = stands.rules; keys = ap (λ m. insert m digest audience) stands.keys })
    go (what.DropKey digest) is =
        for (what.DropKey digest) (DropKey digest) is
        (record { deeds = stands.deeds; images = stands.images; rules = stands.rules; keys = ap (λ m. remove m digest) stands.keys })
    go other is = absurd cc

check_stands : (found : Option ImageRow) (acc : ℕ) (day : ℤ) (desk : Desk) (now : Standing) → StandsAs desk now → StandsAs (with_checked found acc day desk) now
check_stands None acc day desk now stands = stands
check_stands (Some image) acc day desk now stands = record { deeds = stands.deeds; images = stands.images; rules = stands.rules; keys = stands.keys }

-- what asks no change leaves what stands
pub others_stand : (day : ℤ) (asked : What) (desk : Desk) (now : Standing) → change_of asked ≡ None → StandsAs desk now → StandsAs (carried_out day asked desk) now
others_stand day (what.Check acc) desk now is stands = check_stands (get desk.images acc) acc day desk now stands
others_stand day (what.PutImage acc kind deed digest bytes) desk now is stands = absurd cc
others_stand day (what.PutDeed num donor signed) desk now is stands = absurd cc
others_stand day (what.PutRule rule) desk now is stands = absurd cc
others_stand day (what.DropRule band scope rank) desk now is stands = absurd cc
others_stand day (what.PutKey digest audience) desk now is stands = absurd cc
others_stand day (what.DropKey digest) desk now is stands = absurd cc
others_stand day other desk now is stands = stands

-- ---- what a desk does

by_staff : (audience : Audience) → ¬ (◌≡◌ {A = Option Audience} (Some audience) (Some Staff) → ⊥) → audience ≡ Staff
by_staff Public never = absurd (never (λ e. cc))
by_staff Room never = absurd (never (λ e. cc))
by_staff Staff never = refl

answered_desk : (old : Desk) (day : ℤ) (request : Request) (answer : Response) (new : Desk) → IsAnswered old day request answer new
    → (new ≡ old) ⊎ ((IsForStaff request.what → audience_of old request.badge ≡ Some Staff) × (new ≡ carried_out day request.what old))
answered_desk old day request (Refused refusal) new is = inl is.1
answered_desk old day request answer new is =
    inr ((λ command. is.caller ∙ ap Some (by_staff is.audience (λ other. is.accepted StaffOnly (command, λ staff. other (sym is.caller ∙ staff))))), is.after)

-- a reply leaves the desk, or the one in which an accepted request is carried out
pub replied_desk : (old : Desk) (day : ℤ) (request : Request) (reply : Reply) (new : Desk) → Answers old day request reply new
    → (new ≡ old) ⊎ ((IsForStaff request.what → audience_of old request.badge ≡ Some Staff) × (new ≡ carried_out day request.what old))
replied_desk old day request reply new (inr none) = inl none.after
replied_desk old day request reply new (inl is) = answered_desk old day request is.answer new is.answered

-- nobody but the staff may ask a change
asks_staff : (asked : What) (change : Change) → change_of asked ≡ Some change → IsForStaff asked
asks_staff what.Images change is = absurd cc
asks_staff (what.Listing acc) change is = absurd cc
asks_staff (what.Bytes acc slot) change is = absurd cc
asks_staff what.Catalogue change is = absurd cc
asks_staff other change is = tt

-- ---- what the history tells

told_same : (old new : Desk) (lines : List (List ℕ)) (is : Bool) → new ≡ old → Agrees is old lines → Agrees is new lines
told_same old new lines is same agrees = subst (λ d. Agrees is d lines) (sym same) agrees

near_others : (day : ℤ) (asked : What) (desk : Desk) (entries : List Entry) → change_of asked ≡ None → StandsNear desk entries → StandsNear (carried_out day asked desk) entries
near_others day asked desk entries none (inl stands) = inl (others_stand day asked desk (standing_after entries) none stands)
near_others day asked desk entries none (inr before) = inr (record {
  before = before.before;
  last = before.last;
  are = before.are;
  parts = before.parts;
  may = before.may;
  stands = others_stand day asked desk (standing_after before.before) none before.stands;
})

others_agree : (is : Bool) (day : ℤ) (asked : What) (desk : Desk) (lines : List (List ℕ)) → change_of asked ≡ None → Agrees is desk lines → Agrees is (carried_out day asked desk) lines
others_agree false day asked desk lines none told = (told.0, told.1, others_stand day asked desk (standing_after told.0) none told.2)
others_agree true day asked desk lines none near = (near.0, near.1, near_others day asked desk near.0 none near.2)

-- so is it where a request is accepted that asks no change, or whose caller is not of the staff
pub accepted_agree : (is : Bool) (old : Desk) (day : ℤ) (request : Request) (lines : List (List ℕ)) → (IsForStaff request.what → audience_of old request.badge ≢ Some Staff → ⊥)
    → (change_of request.what ≡ None) ⊎ (audience_of old request.badge ≢ Some Staff) → Agrees is old lines → Agrees is (carried_out day request.what old) lines
accepted_agree is old day request lines may why agrees = elim why [
  | inl none ↦ others_agree is day request.what old lines none agrees
  | inr stranger ↦ others_agree is day request.what old lines (unasked request.what (change_of request.what) refl (λ command. may command stranger)) agrees
]
  where
    unasked : (asked : What) (found : Option Change) → change_of asked ≡ found → ¬ IsForStaff asked → change_of asked ≡ None
    unasked asked None is never = is
    unasked asked (Some change) is never = absurd (never (asks_staff asked change is))

-- a reply to what asks no change, or to a caller who is not of the staff, leaves what the history tells
pub agrees_after : (is : Bool) (old : Desk) (day : ℤ) (request : Request) (reply : Reply) (new : Desk) (lines : List (List ℕ)) → Answers old day request reply new
    → (change_of request.what ≡ None) ⊎ (audience_of old request.badge ≢ Some Staff) → Agrees is old lines → Agrees is new lines
agrees_after is old day request reply new lines answers why agrees = elim (replied_desk old day request reply new answers) [
  | inl same ↦ told_same old new lines is same agrees
  | inr done ↦ subst (λ d. Agrees is d lines) (sym done.1) (accepted_agree is old day request lines (λ command stranger. stranger (done.0 command)) why agrees)
]

-- ---- an entry that was put ahead

module _ (desk : Desk) (lines : List (List ℕ)) (entry : Entry) (pending : IsPending desk lines entry) where
  abbrev put : Entry
  put = record entry { number = length pending.front + 1 }

  -- all entries are those before it, and it
  all : (others : List Entry) → AreLinesOf others lines → others ≡ pending.told.0 ++ put ∷ []
  all others of = entry_more pending.told.0 others put pending.front pending.told.1 pending.within pending.digests (subst (AreLinesOf others) pending.are of)

  -- it is not known whether it was carried out
  pub pending_near : Agrees true desk lines
  pending_near = (
    pending.history.0,
    pending.history.1,
    inr (record {
      before = pending.told.0;
      last = put;
      are = all pending.history.0 pending.history.1;
      parts = pending.told.1.parts;
      may = pending.asked;
      stands = pending.told.2;
    }),
  )

  -- it was carried out
  pub pending_done : (day : ℤ) (asked : What) → change_of asked ≡ Some entry.change → (is : Bool) → Agrees is (carried_out day asked desk) lines
  pending_done day asked is = either
    where
      told : StandsAs (carried_out day asked desk) (standing_after pending.history.0)
      told =
          subst (StandsAs (carried_out day asked desk)) (sym (ap standing_after (all pending.history.0 pending.history.1) ∙ stands_after pending.told.0 put pending.asked))
          (carried_stands day asked entry.change desk (standing_after pending.told.0) is pending.told.2)

      either : (is : Bool) → Agrees is (carried_out day asked desk) lines
      either false = (pending.history.0, pending.history.1, told)
      either true = (pending.history.0, pending.history.1, inl told)

  -- it was taken back
  pub pending_back : (moment : ℤ) (cause : Cause) (after : List (List ℕ)) → IsEntry (record (void_of moment cause) { number = length lines + 1 }) → after ≡ with_entry lines (void_of moment cause) → IsHistory after → Agrees false desk after
  pending_back moment cause after within is history =
      let void : Entry = record (void_of moment cause) { number = length lines + 1 } in
      let entries = pending.history.0 in
      let others = entry_more entries history.0 void lines pending.history.1 within (tt, tt) (subst (AreLinesOf history.0) is history.1) in
      let same : standing_after history.0 ≡ standing_after pending.told.0 =
      ap standing_after (others ∙ ap (λ es. es ++ void ∷ []) (all entries pending.history.1) ∙ append_assoc pending.told.0 (put ∷ []) (void ∷ []))
      ∙ voids_take_back pending.told.0 put void cause pending.asked refl in
      (history.0, history.1, subst (StandsAs desk) (sym same) pending.told.2)

-- ---- lines that grow

pub grows_still : (lines : List (List ℕ)) → Grows lines lines
grows_still lines = ([], sym (append-nil lines))

pub grows_then : (one two three : List (List ℕ)) → Grows one two → Grows two three → Grows one three
grows_then one two three first second = (first.0 ++ second.0, second.1 ∙ ap (λ l. l ++ second.0) first.1 ∙ append_assoc one first.0 second.0)

grows_by : (lines : List (List ℕ)) (entry : Entry) → Grows lines (with_entry lines entry)
grows_by lines entry = (line_at (length lines + 1) entry ∷ [], refl)

settled_grow : (was : Bool) (moment : ℤ) (old new : List (List ℕ)) → AreSettled was moment old new → Grows old new
settled_grow was moment old new (inl same) = subst (Grows old) (sym same) (grows_still old)
settled_grow was moment old new (inr back) = subst (Grows old) (sym back.1) (grows_by old (void_of moment Lost))

pub puts_grow : {T X : Type 0} (was is : Bool) (old new : List (List ℕ)) (entry : Entry) (r : Result T X) → PutsAhead was is old new entry r → Grows old new
puts_grow was is old new entry (Ok done) puts =
    grows_then old puts.settled new (settled_grow was entry.moment old puts.settled puts.first) (subst (Grows puts.settled) (sym puts.ok) (grows_by puts.settled entry))
puts_grow was is old new entry (Err fault) puts = subst (Grows old) (sym puts.err.0) (settled_grow was entry.moment old puts.settled puts.first)

pub ends_grow : {X : Type 0} (is : Bool) (moment : ℤ) (old new : List (List ℕ)) (r : Result Response X) → EndsAs is moment old new r → Grows old new
ends_grow is moment old new r (inl stays) = subst (Grows old) (sym stays.0) (grows_still old)
ends_grow is moment old new r (inr back) = subst (Grows old) (sym back.2) (grows_by old (void_of moment (cause_by back.0)))

-- ---- what was unsettled

module _ {H : Type 0} (h : Ghosts H) (before after : Held H) (moment : ℤ) where
  pub settles_err : (fault : Unsettled) → Settles {T = Unit {0}} h moment before after (Err fault) → IsOpen h after → lines_of_held h after ≡ lines_of_held h before
  settles_err fault settles o = elim settles.last [
    | inl same ↦ ap (lines_of_held h) same ∙ lines_kept h before settles.middle settles.keeps (subst (IsOpen h) same o)
    | inr takes ↦ takes.appends.err o ∙ lines_kept h before settles.middle settles.keeps (takes.appends.lasts.was_open o)
  ]

  pub settles_ok : (done : Unit {0}) → Settles {X = Unsettled} h moment before after (Ok done) → (was : Bool) → was ≡ true → IsOpen h after → AreSettled was moment (lines_of_held h before) (lines_of_held h after)
  settles_ok done settles was is o = elim settles.last [
    | inl same ↦ inl (ap (lines_of_held h) same ∙ lines_kept h before settles.middle settles.keeps (subst (IsOpen h) same o))
    | inr takes ↦ inr (is, takes.appends.ok o ∙ ap (λ l. with_entry l (void_of moment Lost)) (lines_kept h before settles.middle settles.keeps (takes.appends.lasts.was_open o)))
  ]

-- ---- what the desk answered

-- an entry that was put is taken back, or it is not known whether it was carried out
pub refused_back : {H : Type 0} (h : Ghosts H) (before after : Held H) (desk : Desk) (entry : Entry) (pending : IsPending desk (lines_of_held h before) entry) (moment : ℤ) (cause : Cause) (r : Result (Unit {0}) Unsettled)
    → TakesBack h moment cause before after r → IsOpen h after → IsHistory (lines_of_held h after) → Agrees (is_err r) desk (lines_of_held h after)
refused_back h before after desk entry pending moment cause (Ok done) takes o history =
    pending_back desk (lines_of_held h before) entry pending moment cause (lines_of_held h after) (takes.within (takes.appends.lasts.was_open o)) (takes.appends.ok o) history
refused_back h before after desk entry pending moment cause (Err fault) takes o history = subst (Agrees true desk) (sym (takes.appends.err o)) (pending_near desk (lines_of_held h before) entry pending)

-- the same of the lines
pub refused_ends : {H X : Type 0} (h : Ghosts H) (before after : Held H) (moment : ℤ) (refusal : Refusal) (r : Result (Unit {0}) Unsettled) → TakesBack h moment (cause_by refusal) before after r → IsOpen h after
    → EndsAs {X = X} (is_err r) moment (lines_of_held h before) (lines_of_held h after) (Ok (Refused refusal))
refused_ends h before after moment refusal (Ok done) takes o = inr (refusal, refl, takes.appends.ok o, refl)
refused_ends {X = X} h before after moment refusal (Err fault) takes o =
    inl (takes.appends.err o, (λ on is. let e : ◌≡◌ {A = Result Response X} (Ok (Refused refusal)) (Ok Done) = is in absurd cc, λ other. refl))

-- it stays
pub stays_ends : {X : Type 0} (moment : ℤ) (lines : List (List ℕ)) (r : Result Response X) (done : Bool) → (done ≡ true → r ≡ Ok Done) → (r ≡ Ok Done → done ≡ true) → EndsAs (not done) moment lines lines r
stays_ends moment lines r true done may = inl (refl, (λ on is. true≢false (sym on), λ other. absurd (other (done refl))))
stays_ends moment lines r false done may = inl (refl, (λ on is. true≢false (sym (may is)), λ other. refl))

-- the answer to a request whose entry was put
pub answered_near : {X : Type 0} (old : Desk) (day : ℤ) (request : Request) (r : Result Response X) (new : Desk) → IsResponse old day request r new
    → (lines : List (List ℕ)) (entry : Entry) → IsPending old lines entry → change_of request.what ≡ Some entry.change → Agrees true new lines
answered_near old day request (Ok (Refused refusal)) new is lines entry pending asks = subst (λ d. Agrees true d lines) (sym is.1) (pending_near old lines entry pending)
answered_near old day request (Ok answer) new is lines entry pending asks = subst (λ d. Agrees true d lines) (sym is.after) (pending_done old lines entry pending day request.what asks true)
answered_near old day request (Err fault) new is lines entry pending asks = subst (λ d. Agrees true d lines) (sym is) (pending_near old lines entry pending)

-- it is carried out exactly where it is done
pub answered_told : {X : Type 0} (old : Desk) (day : ℤ) (request : Request) (r : Result Response X) (new : Desk) → IsResponse old day request r new
    → (lines : List (List ℕ)) (entry : Entry) → IsPending old lines entry → change_of request.what ≡ Some entry.change → (done : Bool) → (done ≡ true → r ≡ Ok Done) → Agrees (not done) new lines
answered_told old day request r new answered lines entry pending asks false done = answered_near old day request r new answered lines entry pending asks
answered_told {X = X} old day request r new answered lines entry pending asks true done =
    let is : IsResponse {X = X} old day request (Ok Done) new = subst (λ (r : Result Response X). IsResponse old day request r new) (done refl) answered in
    subst (λ d. Agrees false d lines) (sym is.after) (pending_done old lines entry pending day request.what asks false)

-- no entry was put
pub ahead_err : {T X : Type 0} (desk : Desk) (lines : List (List ℕ)) (entry : Entry) (is : Bool) (r : Result T X) → IsErr r → Agrees is desk lines → IsAhead desk lines entry is r
ahead_err desk lines entry is (Ok done) failed agrees = absurd (true≢false (sym failed))
ahead_err desk lines entry is (Err fault) failed agrees = agrees

pub none_put : {T X : Type 0} (was is : Bool) (old settled new : List (List ℕ)) (entry : Entry) (r : Result T X) → IsErr r → AreSettled was entry.moment old settled → new ≡ settled → (is ≡ true → (was ≡ true) × (new ≡ old)) → PutsAhead was is old new entry r
none_put was is old settled new entry (Ok done) failed first same flag = absurd (true≢false (sym failed))
none_put was is old settled new entry (Err fault) failed first same flag = record { settled = settled; first = first; ok = tt; err = (same, flag) }

-- ---- what is added

refused_status : (refusal : Refusal) → status_of refusal ≢ 200
refused_status UnknownKey is = omega (arith, is)
refused_status other is = omega (arith, is)

away_status : (reply : Reply) → reply ≡ UNAVAILABLE → reply.status ≢ 200
away_status reply away is = omega (arith, sym (ap (λ (r : Reply). r.status) away) ∙ is)

asks_put : (asked : What) (change : Change) → change_of asked ≡ Some change → IsPutOrDrop asked
asks_put (what.PutImage acc kind deed digest bytes) change is = tt
asks_put (what.PutDeed num donor signed) change is = tt
asks_put (what.PutRule rule) change is = tt
asks_put (what.DropRule band scope rank) change is = tt
asks_put (what.PutKey digest audience) change is = tt
asks_put (what.DropKey digest) change is = tt
asks_put other change is = absurd cc

-- the status is 200 exactly where a change is done
done_status : {X : Type 0} (old : Desk) (day : ℤ) (request : Request) (change : Change) (r : Result Response X) (reply : Reply) (new : Desk) → change_of request.what ≡ Some change → IsResponse old day request r new → IsWritten r reply
    → (reply.status ≡ 200) ↔ (r ≡ Ok Done)
done_status old day request change (Ok Done) reply new asks answered (inl is) = (λ status. refl, λ done. ap (λ (r : Reply). r.status) is)
done_status old day request change (Ok Done) reply new asks answered (inr none) = absurd (none.1 tt)
done_status old day request change (Ok (Refused refusal)) reply new asks answered (inl is) =
    (λ status. absurd (refused_status refusal (sym (ap (λ (r : Reply). r.status) is) ∙ status)), λ done. absurd cc)
done_status old day request change (Ok (Refused refusal)) reply new asks answered (inr none) = (λ status. absurd (away_status reply none.0 status), λ done. absurd cc)
done_status old day request change (Ok answer) reply new asks answered written =
    absurd (let e : ◌≡◌ {A = Response} answer Done = told_done old answered.audience day answered.file answer request.what (asks_put request.what change asks) answered.tells in cc)
done_status old day request change (Err fault) reply new asks answered written = (λ status. absurd (away_status reply written status), λ done. absurd cc)

-- no file is judged where a change is asked
asks_no_file : (asked : What) (change : Change) (at : ℕ × ℕ) → change_of asked ≡ Some change → file_of asked ≡ Some at → ⊥
asks_no_file (what.Bytes acc slot) change at is file = cc
asks_no_file other change at is file = cc

file_asked : (found : Option (ℕ × ℕ)) (P : ℕ × ℕ → Type 0) → IsSomeAnd found P → (at : ℕ × ℕ) × (found ≡ Some at)
file_asked None P is = absurd is
file_asked (Some at) P is = (at, refl)

none_judged : (desk : Desk) (day : ℤ) (request : Request) (change : Change) (file : Option JudgedFile) (P : JudgedFile → Type 0) → change_of request.what ≡ Some change → IsAsked desk day request file → IsSomeAnd file P → ⊥
none_judged desk day request change None P asks asked some = some
none_judged desk day request change (Some judged) P asks asked some = asks_no_file request.what change (asked.accession, judged.file.slot) asks asked.asked

-- the word of the cause for which an entry is taken back is the name of the refusal
cause_named : (desk : Desk) (day : ℤ) (request : Request) (change : Change) (refusal : Refusal) → change_of request.what ≡ Some change → audience_of desk request.badge ≡ Some Staff → IsRefusedOn desk day request refusal
    → cause_word (cause_by refusal) ≡ name_of refusal
cause_named desk day request change refusal asks staff refused = go refusal refused.refused.holds
  where
    judged : (P : JudgedFile → Type 0) → IsSomeAnd refused.file P → ⊥
    judged P some = none_judged desk day request change refused.file P asks refused.asked some

    go : (refusal : Refusal) → Holds desk request refused.file refusal → cause_word (cause_by refusal) ≡ name_of refusal
    go UnknownKey holds = absurd (let e : ◌≡◌ {A = Option Audience} None (Some Staff) = sym holds ∙ staff in cc)
    go StaffOnly holds = absurd (holds.1 staff)
    go BadBody holds = absurd (let e : ◌≡◌ {A = Option Change} None (Some change) = sym (ap change_of holds) ∙ asks in cc)
    go NoFile holds = let file = file_asked (file_of request.what) _ holds in absurd (asks_no_file request.what change file.0 asks file.1)
    go (Denied label) holds = absurd (judged _ holds)
    go ListedOnly holds = absurd (judged _ holds)
    go (Faulty kind faults) holds = absurd (judged _ holds)
    go other holds = refl

-- an entry was put ahead, and the desk has answered
pub adds_then : {X : Type 0} (old : Desk) (day : ℤ) (request : Request) (reply : Reply) (entry : Entry) (was mid is : Bool) (before middle after : List (List ℕ)) (done : Unit {0}) (r : Result Response X) (new : Desk)
    → change_of request.what ≡ Some entry.change → audience_of old request.badge ≡ Some Staff → IsResponse old day request r new → IsWritten r reply
    → PutsAhead {X = Unsettled} was mid before middle entry (Ok done) → EndsAs is entry.moment middle after r → Adds old day request reply entry was is before after
adds_then old day request reply entry was mid is before middle after done r new asks staff answered written puts (inl stays) =
    let status = done_status old day request entry.change r reply new asks answered written in
    record {
      settled = puts.settled;
      first = puts.first;
      after = inr (inl (stays.0 ∙ puts.ok, (λ on is. stays.1.0 on (status.0 is), λ other. stays.1.1 (λ is. other (status.1 is)))));
    }
adds_then {X = X} old day request reply entry was mid is before middle after done r new asks staff answered written puts (inr back) =
    let refused : IsResponse {X = X} old day request (Ok (Refused back.0)) new = subst (λ (r : Result Response X). IsResponse old day request r new) back.1 answered in
    let says : IsWritten {X = X} (Ok (Refused back.0)) reply = subst (λ (r : Result Response X). IsWritten r reply) back.1 written in
    record {
      settled = puts.settled;
      first = puts.first;
      after = inr (inr (
        record {
          refusal = back.0;
          refused = refused.0;
          written = elim says [
            | inl is ↦ inl is
            | inr none ↦ inr none.0
          ];
          cause = cause_by back.0;
          named = cause_named old day request entry.change back.0 asks staff refused.0;
          are = back.2 ∙ ap (λ l. with_entry l (void_of entry.moment (cause_by back.0))) puts.ok;
        },
        back.3,
      ));
    }

-- no entry was put ahead
pub adds_none : (old : Desk) (day : ℤ) (request : Request) (reply : Reply) (entry : Entry) (was is : Bool) (before after : List (List ℕ)) (fault : Unsettled) → reply ≡ UNAVAILABLE
    → PutsAhead {T = Unit {0}} was is before after entry (Err fault) → Adds old day request reply entry was is before after
adds_none old day request reply entry was is before after fault away puts =
    record { settled = puts.settled; first = puts.first; after = inl (puts.err.0, away, puts.err.1) }

-- what is said of a change and a badge is said of those that are there
pub said_of : (found : Option Change) (badge : Option (List ℕ)) (P : Change → List ℕ → Type 0) (change : Change) (digest : List ℕ) → found ≡ Some change → badge ≡ Some digest → P change digest
    → IfSome found (λ change. IfSome badge (λ badge. P change badge))
said_of found badge P change digest asks named is =
    subst (λ (f : Option Change). IfSome f (λ change. IfSome badge (λ badge. P change badge))) (sym asks) (subst (λ (b : Option (List ℕ)). IfSome b (λ badge. P change badge)) (sym named) is)

-- and the other way
said_there : (found : Option Change) (badge : Option (List ℕ)) (P : Change → List ℕ → Type 0) (change : Change) (digest : List ℕ) → found ≡ Some change → badge ≡ Some digest
    → IfSome found (λ change. IfSome badge (λ badge. P change badge)) → P change digest
said_there found badge P change digest asks named is =
    subst (λ (b : Option (List ℕ)). IfSome b (λ badge. P change badge)) named (subst (λ (f : Option Change). IfSome f (λ change. IfSome badge (λ badge. P change badge))) asks is)

-- a change with status 200 is done for good
pub done_changes_stay : {S H : Type 0} (g : Ghosts S) (h : Ghosts H) → DoneChangesStay g h
done_changes_stay g h old new before after was is day signature request reply change badge serves remembers rests so ho asks named staff status =
    let these = lines_of_held h after in
    let entry = entry_of signature badge change in
    let adds : Adds (desk_of g old) day request reply entry was is (lines_of_held h before) these =
    said_there (change_of request.what) request.badge (λ change badge. Adds (desk_of g old) day request reply (entry_of signature badge change) was is (lines_of_held h before) these) change badge asks named (remembers.adds so ho staff) in
    let put : (these ≡ with_entry adds.settled entry) × (is ≡ true ↔ (reply.status ≢ 200)) = elim adds.after [
      | inl none ↦ absurd (away_status reply none.1 status)
      | inr more ↦ elim more [
        | inl put ↦ put
        | inr back ↦ elim back.0.written [
          | inl says ↦ absurd (refused_status back.0.refusal (sym (ap (λ (r : Reply). r.status) says) ∙ status))
          | inr away ↦ absurd (away_status reply away status)
        ]
      ]
    ] in
    record {
      after = elim (serves.answers so) [
        | inl is ↦ done_after (desk_of g old) day request (is.answer) reply (desk_of g new) is.answered is.written status
        | inr none ↦ absurd (away_status reply none.written status)
      ];
      front = adds.settled;
      last = put.0;
      settled = settled_is is (λ on. put.1.0 on status);
      leaves_desk = serves.durable so;
      leaves_lines = rests.leaves ho;
    }
  where
    settled_is : (is : Bool) → ¬ (is ≡ true) → is ≡ false
    settled_is true never = absurd (never refl)
    settled_is false never = refl

    done_after : (old : Desk) (day : ℤ) (request : Request) (answer : Response) (reply : Reply) (new : Desk) → IsAnswered old day request answer new → reply ≡ reply_of answer → reply.status ≡ 200 → new ≡ carried_out day request.what old
    done_after old day request (Refused refusal) reply new is says status = absurd (refused_status refusal (sym (ap (λ (r : Reply). r.status) says) ∙ status))
    done_after old day request answer reply new is says status = is.after

-- nothing was put into the history
pub unrecorded : {S H : Type 0} (g : Ghosts S) (h : Ghosts H) (old new : Held S) (history : Held H) (was : Bool) (day : ℤ) (signature : Signature) (request : Request) (reply : Reply)
    → (IsOpen g new → Agrees was (desk_of g old) (lines_of_held h history) → Agrees was (desk_of g new) (lines_of_held h history))
    → (IsOpen g new → audience_of (desk_of g old) request.badge ≡ Some Staff → (change_of request.what ≡ None) ⊎ (reply ≡ UNAVAILABLE))
    → StayNear g h old new history history (Agrees was (desk_of g old) (lines_of_held h history))
    → Remembers g h old new history history was was day signature request reply
unrecorded g h old new history was day signature request reply agrees why near = record {
  told = λ so ho. agrees so;
  adds = λ so ho staff. each (change_of request.what) request.badge (why so staff);
  grows = λ ho. grows_still (lines_of_held h history);
  others = λ none. (refl, refl);
  strangers = λ so stranger. (refl, refl);
  crash = near;
}
  where
    these : List (List ℕ)
    these = lines_of_held h history

    each : (found : Option Change) (badge : Option (List ℕ)) → (found ≡ None) ⊎ (reply ≡ UNAVAILABLE)
        → IfSome found (λ change. IfSome badge (λ badge. Adds (desk_of g old) day request reply (entry_of signature badge change) was was these these))
    each None badge why = tt
    each (Some change) None why = tt
    each (Some change) (Some badge) (inl none) = absurd cc
    each (Some change) (Some badge) (inr away) = record { settled = these; first = inl refl; after = inl (refl, away, λ on. (on, refl)) }

-- the desk is unavailable, and nothing was put into the history
pub unavailable : {S H : Type 0} (g : Ghosts S) (h : Ghosts H) (old new : Held S) (history : Held H) (was : Bool) (day : ℤ) (signature : Signature) (request : Request) (reply : Reply)
    → Keeps g old new → IsAtRest h history → reply ≡ UNAVAILABLE → Remembers g h old new history history was was day signature request reply
unavailable g h old new history was day signature request reply keeps rest away =
    unrecorded g h old new history was day signature request reply (λ so. told_same (desk_of g old) (desk_of g new) (lines_of_held h history) was (keeps.same so)) (λ so staff. inr away)
    (keeps_near g h old new history was keeps rest)
