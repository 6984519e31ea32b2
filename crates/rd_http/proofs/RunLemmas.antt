-- Visits one after the other.
use Rattle.std.proofs.Common.{◌≡◌, ◌↔◌, inl, inr, ℕ, ℤ, ◌+◌, List, [], ◌∷◌, ◌++◌, Bool, true, false, Option, None, Some, Result, Ok, Err, IfSome, length, arith, refl, sym, subst, ap, append_assoc, append-nil, length-append, map, ◌∙◌}
use Rattle.std.specs.List.{filter}
use Rattle.std.proofs.lemmas.List.Elements.{filter-append}
use Rattle.std.proofs.lemmas.List.{map-append}
use Rattle.sqlite.specs.Store.{Ghosts}
use Rattle.sqlite.specs.Held.{Held}
use Rattle.rd_policy.specs.Days.{HasDay}
use Rattle.rd_policy.specs.Zones.{day_number}
use Rattle.rd_policy.specs.declared.zone.Zone.{Zone}
use Rattle.rd_store.specs.Held.{IsOpen, desk}
use Rattle.rd_protocol.specs.declared.request.Request.{Request}
use Rattle.rd_messages.specs.Asked.{HasFramedHead, IsRequestOf, request, fault}
use Rattle.rd_http.specs.Runs.{Ends, AreNext, HasRun, IsLast, IsVisit, Runs, counted}
use Rattle.rd_messages.specs.DoorVisits.{Admits, Coming, Leaves, TakesNext, TellsToo, VisitsSoFar, Visit, coming_of}
use Rattle.rd_http.specs.Visits.{IsAnswer, IsReplied, Visits}
use Rattle.rd_http.specs.declared.serve.Ended.TheVariants as ended
use Rattle.rd_http.specs.declared.serve.Served.{Served}
use Rattle.rd_http.specs.declared.visit.WireFault.{WireFault}
use Rattle.rd_http.specs.declared.visit.WireFault.TheVariants.{Read, Write, Clock}
use Rattle.rd_messages.specs.Answers.{answer_bytes}

-- ---- counting

one_more : (visits : List Visit) (visit : Visit) (n : ℕ) → length visits ≡ n → length (visits ++ visit ∷ []) ≡ n + 1
one_more visits visit n is = length-append visits (visit ∷ []) ∙ ap (λ m. m + 1) is

-- of visits with one more, so many are such
among_none : (p : Visit → Bool) (visits : List Visit) (visit : Visit) (n : ℕ) → length (filter p visits) ≡ n → p visit ≡ false
    → length (filter p (visits ++ visit ∷ [])) ≡ n
among_none p visits visit n is other =
    let last : length (filter p (visit ∷ [])) ≡ 0 = rw other refl in
    omega (arith, is, last, ap length (filter-append p visits (visit ∷ [])), length-append (filter p visits) (filter p (visit ∷ [])))

among_one : (p : Visit → Bool) (visits : List Visit) (visit : Visit) (n : ℕ) → length (filter p visits) ≡ n → p visit ≡ true
    → length (filter p (visits ++ visit ∷ [])) ≡ n + 1
among_one p visits visit n is such =
    let last : length (filter p (visit ∷ [])) ≡ 1 = rw such refl in
    omega (arith, is, last, ap length (filter-append p visits (visit ∷ [])), length-append (filter p visits) (filter p (visit ∷ [])))

-- ---- the visits to come

-- one more of the visits that were to come
next_more : (c0 c1 c2 : Option (List Coming)) (visits : List Visit) (visit : Visit) → AreNext c0 c1 visits → TakesNext c1 c2 visit.moment (Some visit.came)
    → AreNext c0 c2 (visits ++ visit ∷ [])
next_more None c1 c2 visits visit are next = tt
next_more (Some xs) None c2 visits visit are next = absurd are
next_more (Some xs) (Some ys) None visits visit are next = absurd next
next_more (Some xs) (Some ys) (Some zs) visits visit are next =
    are ∙ ap (λ ys. map coming_of visits ++ ys) next ∙ sym (append_assoc (map coming_of visits) (coming_of visit ∷ []) zs)
    ∙ ap (λ vs. vs ++ zs) (sym (map-append coming_of visits (visit ∷ [])))

-- ---- flags

-- a flag that says of another end is not set
unset : (b : Bool) {R : Type 0} (result end : R) → (result ≡ end ↔ b ≡ true) → ¬ (result ≡ end) → b ≡ false
unset true result end iff other = absurd (other (iff.1 refl))
unset false result end iff other = refl

module _ {State : Type 0} (Answers : List ℕ → State → State → ℤ → List ℕ → Type 0) (zone : Zone) where
  module _ (coming : Option (List Coming)) where
    abbrev Run : VisitsSoFar → Option VisitsSoFar → Option (List Coming) → Served → State → State → Type 0
    Run told later left served old new = HasRun Answers zone told later coming left served old new

  runs_more : (visits : List Visit) (visit : Visit) (s m t : State) → Runs Answers zone visits s m → IsVisit Answers zone visit m t
      → Runs Answers zone (visits ++ visit ∷ []) s t
  runs_more [] visit s m t same is = (t, subst (λ x. IsVisit Answers zone visit x t) same is, refl)
  runs_more (first ∷ visits) visit s m t (mid, is, runs) last = (mid, is, runs_more visits visit mid m t runs last)

  -- ---- one visit

  -- what a visit leaves, from what its call says
  module _ (moment : ℤ) (came out : List ℕ) (read_failed write_failed : Bool) where
    abbrev visit_of : Visit
    visit_of = record { moment = moment; came = came; out = out; read_failed = read_failed; write_failed = write_failed }

    abbrev Visited : State → State → Result (Unit {0}) WireFault → Type 0
    Visited m t result = Visits (Answers came m t (day_number moment zone)) m t (Some []) (Some out) result

  -- what is told with one visit more
  glued : (told : VisitsSoFar) (visits : List Visit) (visit : Visit) → told.under_way ≡ None
      → ◌≡◌ {A = Option VisitsSoFar} (Some (record { visits = (told.visits ++ (visits ++ [])) ++ visit ∷ []; under_way = None }))
      (Some (record { visits = told.visits ++ (visits ++ visit ∷ []); under_way = told.under_way }))
  glued told visits visit rests =
      let same : (told.visits ++ (visits ++ [])) ++ visit ∷ [] ≡ told.visits ++ (visits ++ visit ∷ []) =
      append_assoc told.visits (visits ++ []) (visit ∷ []) ∙ ap (λ (vs : List Visit). told.visits ++ (vs ++ visit ∷ [])) (append-nil visits) in
      ap Some (λ i. record { visits = same i; under_way = sym rests i })

  counting : (told : VisitsSoFar) (visits : List Visit) (visit : Visit) → told.under_way ≡ None
      → ◌≡◌ {A = Option VisitsSoFar} (Some (record { visits = (told.visits ++ (visits ++ [])) ++ visit ∷ []; under_way = None }))
      (Some (record { visits = told.visits ++ ((visits ++ visit ∷ []) ++ []); under_way = told.under_way }))
  counting told visits visit rests =
      glued told visits visit rests
      ∙ ap (λ (vs : List Visit). Some (record { visits = told.visits ++ vs; under_way = told.under_way })) (sym (append-nil (visits ++ visit ∷ [])))

  -- how a call ends, by whether a read failed, whether a write failed, and whether the moment has a day
  pub record Flags (moment : ℤ) (read_failed write_failed : Bool) (result : Result (Unit {0}) WireFault) : Type 0 where
    pub read : result ≡ Err Read ↔ read_failed ≡ true
    pub write : result ≡ Err Write ↔ write_failed ≡ true
    pub clock : (¬ (result ≡ Err Clock)) ↔ HasDay moment

  module _ (coming left : Option (List Coming)) (told : VisitsSoFar) (later : Option VisitsSoFar) (served : Served) (s m t : State) (moment : ℤ) (came out : List ℕ) (tf pf : Bool)
      (is_count : served.ended ≡ ended.Count) where
    abbrev this : Visit
    this = visit_of moment came out tf pf

    no_last : IsLast served.ended []
    no_last = subst (λ e. IsLast e []) (sym is_count) refl

    over : (visits : List Visit) (result : Result (Unit {0}) WireFault) → AreNext coming left (visits ++ this ∷ []) → Runs Answers zone visits s m → length visits ≡ served.visits
        → length (filter (λ one. one.read_failed) visits) ≡ served.read_faults → length (filter (λ one. one.write_failed) visits) ≡ served.write_faults → told.under_way ≡ None
        → later ≡ Some (record { visits = (told.visits ++ (visits ++ [])) ++ this ∷ []; under_way = None })
        → Visited moment came out tf pf m t result → Flags moment tf pf result → Run coming told later left (counted result served) s t
    over visits (Ok done) next runs len reads writes rests tells (text, answer, whole) flags =
        let take : tf ≡ false = unset tf (Ok done) (Err Read) flags.read (λ e. cc e) in
        let put : pf ≡ false = unset pf (Ok done) (Err Write) flags.write (λ e. cc e) in
        let ends : Ends Answers zone came m t (day_number moment zone) out tf pf =
        rw (take, put) (subst (Answers came m t (day_number moment zone)) (sym whole) answer) in
        record {
          visits = visits ++ this ∷ [];
          last = [];
          order = subst (AreNext coming left) (sym (append-nil (visits ++ this ∷ []))) next;
          are = tells ∙ counting told visits this rests;
          runs = runs_more visits this s m t runs (record { day = flags.clock.0 (λ e. cc e); ends = ends });
          counted = one_more visits this served.visits len;
          read_faults = among_none (λ one. one.read_failed) visits this served.read_faults reads take;
          write_faults = among_none (λ one. one.write_failed) visits this served.write_faults writes put;
          ended = no_last;
        }
    over visits (Err Read) next runs len reads writes rests tells (same, kept) flags =
        let take : tf ≡ true = flags.read.0 refl in
        let put : pf ≡ false = unset pf (Err Read) (Err Write) flags.write (λ e. cc e) in
        let none : out ≡ [] = cc kept in
        let ends : Ends Answers zone came m t (day_number moment zone) out tf pf = rw (take, put) (refl, none, same) in
        record {
          visits = visits ++ this ∷ [];
          last = [];
          order = subst (AreNext coming left) (sym (append-nil (visits ++ this ∷ []))) next;
          are = tells ∙ counting told visits this rests;
          runs = runs_more visits this s m t runs (record { day = flags.clock.0 (λ e. cc e); ends = ends });
          counted = one_more visits this served.visits len;
          read_faults = among_one (λ one. one.read_failed) visits this served.read_faults reads take;
          write_faults = among_none (λ one. one.write_failed) visits this served.write_faults writes put;
          ended = no_last;
        }
    over visits (Err Write) next runs len reads writes rests tells (text, answer, (part, rest, whole, some, sent)) flags =
        let take : tf ≡ false = unset tf (Err Write) (Err Read) flags.read (λ e. cc e) in
        let put : pf ≡ true = flags.write.0 refl in
        let ends : Ends Answers zone came m t (day_number moment zone) out tf pf =
        rw (take, put) (text, answer, (rest, whole ∙ ap (λ p. p ++ rest) (sym sent), some)) in
        record {
          visits = visits ++ this ∷ [];
          last = [];
          order = subst (AreNext coming left) (sym (append-nil (visits ++ this ∷ []))) next;
          are = tells ∙ counting told visits this rests;
          runs = runs_more visits this s m t runs (record { day = flags.clock.0 (λ e. cc e); ends = ends });
          counted = one_more visits this served.visits len;
          read_faults = among_none (λ one. one.read_failed) visits this served.read_faults reads take;
          write_faults = among_one (λ one. one.write_failed) visits this served.write_faults writes put;
          ended = no_last;
        }
    over visits (Err Clock) next runs len reads writes rests tells (same, kept) flags = record {
      visits = visits;
      last = this ∷ [];
      order = next;
      are = tells ∙ glued told visits this rests;
      runs = subst (Runs Answers zone visits s) (sym same) runs;
      counted = len;
      read_faults = reads;
      write_faults = writes;
      ended = (
        this,
        refl,
        record {
          day = λ day. flags.clock.1 day refl;
          out = cc kept;
          read_failed = unset tf (Err Clock) (Err Read) flags.read (λ e. cc e);
          write_failed = unset pf (Err Clock) (Err Write) flags.write (λ e. cc e);
        },
      );
    }

  -- nothing is told of what went out only where it was not told before
  untold : (came : List ℕ) (m t : State) (moment : ℤ) (out : List ℕ) (result : Result (Unit {0}) WireFault)
      → ¬ Visits (Answers came m t (day_number moment zone)) m t (Some out) None result
  untold came m t moment out (Ok done) (text, answer, none) = none
  untold came m t moment out (Err Read) (same, kept) = cc kept
  untold came m t moment out (Err Write) (text, answer, (part, rest, whole, some, none)) = none
  untold came m t moment out (Err Clock) (same, kept) = cc kept

  -- a visit that a door admitted, from what its connection tells
  told_over : (coming c1 c2 : Option (List Coming)) (told now : VisitsSoFar) (later : Option VisitsSoFar) (served : Served) (s m t : State) (moment : ℤ) (came0 came1 out0 out1 : Option (List ℕ)) (tf pf : Bool)
      (result : Result (Unit {0}) WireFault)
      → Run coming told (Some now) c1 served s m → TakesNext c1 c2 moment came0 → served.ended ≡ ended.Count → now.under_way ≡ None → TellsToo (Some now) came0 out0
      → IfSome came0 (λ stream. Visits (Answers stream m t (day_number moment zone)) m t out0 out1 result) → came1 ≡ came0
      → Leaves (Some (record { visits = now.visits; under_way = Some moment })) later came1 out1 tf pf → Flags moment tf pf result
      → Run coming told later c2 (counted result served) s t
  told_over coming c1 c2 told now later served s m t moment None came1 out0 out1 tf pf result run next is_count rests tells visited same leaves flags = absurd tells
  told_over coming c1 c2 told now later served s m t moment (Some came) came1 None out1 tf pf result run next is_count rests tells visited same leaves flags = absurd tells
  told_over coming c1 c2 told now later served s m t moment (Some came) None (Some out0) out1 tf pf result run next is_count rests tells visited same leaves flags = cc same
  told_over coming c1 c2 told now later served s m t moment (Some came) (Some came1) (Some out0) None tf pf result run next is_count rests tells visited same leaves flags =
      absurd (untold came m t moment out0 result visited)
  told_over coming c1 c2 told now later served s m t moment (Some came) (Some came1) (Some out0) (Some out) tf pf result run next is_count rests tells visited same leaves flags =
      let last : run.last ≡ [] = subst (λ e. IsLast e run.last) is_count run.ended in
      let is : now ≡ record { visits = told.visits ++ (run.visits ++ run.last); under_way = told.under_way } = cc run.are in
      let quiet : told.under_way ≡ None = sym (ap (λ (x : VisitsSoFar). x.under_way) is) ∙ rests in
      let all : now.visits ≡ told.visits ++ (run.visits ++ []) = ap (λ (x : VisitsSoFar). x.visits) is ∙ ap (λ (l : List Visit). told.visits ++ (run.visits ++ l)) last in
      let bytes : came1 ≡ came = cc same in
      let order : AreNext coming c1 run.visits = subst (AreNext coming c1) (ap (λ (l : List Visit). run.visits ++ l) last ∙ append-nil run.visits) run.order in
      over coming c2 told later served s m t moment came out tf pf is_count run.visits result
      (next_more coming c1 c2 run.visits (visit_of moment came out tf pf) order next) run.runs run.counted run.read_faults run.write_faults quiet
      (leaves ∙ ap Some (λ i. record { visits = all i ++ visit_of moment (bytes i) out tf pf ∷ []; under_way = None }))
      (subst (λ o. Visits (Answers came m t (day_number moment zone)) m t (Some o) (Some out) result) tells visited) flags

  -- one more visit of a run
  pub run_step : (coming c1 c2 c3 : Option (List Coming)) (told : VisitsSoFar) (t1 t2 later : Option VisitsSoFar) (served : Served) (s m t : State) (moment : ℤ) (came0 incoming came1 out0 out1 : Option (List ℕ)) (tf pf : Bool)
      (result : Result (Unit {0}) WireFault)
      → Run coming told t1 c1 served s m → TakesNext c1 c2 moment came0 → c3 ≡ c2 → served.ended ≡ ended.Count → Admits t1 t2 (Some moment) → incoming ≡ came0 → TellsToo t1 came0 out0
      → IfSome incoming (λ stream. Visits (Answers stream m t (day_number moment zone)) m t out0 out1 result) → came1 ≡ came0
      → Leaves t2 later came1 out1 tf pf → Flags moment tf pf result
      → Run coming told later c3 (counted result served) s t
  run_step coming c1 c2 c3 told None t2 later served s m t moment came0 incoming came1 out0 out1 tf pf result run next kept is_count admits whole tells visited same leaves flags =
      let none = run.are in cc none
  run_step coming c1 c2 c3 told (Some now) t2 later served s m t moment came0 incoming came1 out0 out1 tf pf result run next kept is_count (rests, admitted) whole tells visited same leaves flags =
      subst (λ c. Run coming told later c (counted result served) s t) (sym kept)
      (told_over coming c1 c2 told now later served s m t moment came0 came1 out0 out1 tf pf result run next is_count rests tells
      (subst (λ i. IfSome i (λ stream. Visits (Answers stream m t (day_number moment zone)) m t out0 out1 result)) whole visited) same
      (subst (λ x. Leaves x later came1 out1 tf pf) admitted leaves) flags)

-- what is told of a door that tells its visits
pub if_told : {A : Type 0} (P Q : A → Type 0) (told : Option A) → IfSome told P → ((one : A) → P one → Q one) → IfSome told Q
if_told P Q None p q = tt
if_told P Q (Some one) p q = q one p

-- ---- over the desk

-- a request has a head that tells of its body
framed : (stream : List ℕ) (asked : Request) → IsRequestOf stream asked → HasFramedHead stream
framed stream asked is = (is.head, is.rest, length is.body, is.key, is.begins, is.whole.framed)

module _ {S : Type 0} (g : Ghosts S) (zone : Zone) where
  -- what is done about what was asked leaves a connection open only where it was
  was_open : (stream : List ℕ) (old new : Held S) (day : ℤ) (text : List ℕ) → IsAnswer g stream old new day text → IsOpen g new → IsOpen g old
  was_open stream old new day text (inl (request asked, is, (reply, serves, told))) is_open = serves.lasts.was_open is_open
  was_open stream old new day text (inl (fault reason, is, (same, told))) is_open = subst (IsOpen g) same is_open
  was_open stream old new day text (inr wanting) is_open = subst (IsOpen g) wanting.same is_open

  -- what is answered over an open store is the reply of the desk that it holds
  pub replied : (stream : List ℕ) (old new : Held S) (day : ℤ) (text : List ℕ) → IsAnswer g stream old new day text → IsOpen g new
      → IsReplied stream (desk g old) (desk g new) day text
  replied stream old new day text (inl (request asked, is, (reply, serves, told))) is_open = elim (serves.answers is_open) [
    | inl answered ↦ inl (request asked, is, (reply, answered, told))
    | inr none ↦ inr (record { framed = framed stream asked is; same = none.after; text_is = told ∙ ap answer_bytes none.written })
  ]
  replied stream old new day text (inl (fault reason, is, (same, told))) is_open = inl (fault reason, is, (ap (desk g) same, told))
  replied stream old new day text (inr wanting) is_open = inr (record { framed = wanting.framed; same = ap (desk g) wanting.same; text_is = wanting.text_is })

  ended_open : (came : List ℕ) (old new : Held S) (day : ℤ) (out : List ℕ) (tf pf : Bool) → Ends (IsAnswer g) zone came old new day out tf pf → IsOpen g new → IsOpen g old
  ended_open came old new day out false false answer is_open = was_open came old new day out answer is_open
  ended_open came old new day out false true (text, answer, cut) is_open = was_open came old new day text answer is_open
  ended_open came old new day out true pf (put, none, same) is_open = subst (IsOpen g) same is_open

  pub ended_replied : (came : List ℕ) (old new : Held S) (day : ℤ) (out : List ℕ) (tf pf : Bool) → Ends (IsAnswer g) zone came old new day out tf pf → IsOpen g new
      → Ends IsReplied zone came (desk g old) (desk g new) day out tf pf
  ended_replied came old new day out false false answer is_open = replied came old new day out answer is_open
  ended_replied came old new day out false true (text, answer, cut) is_open = (text, replied came old new day text answer is_open, cut)
  ended_replied came old new day out true pf (put, none, same) is_open = (put, none, ap (desk g) same)

  runs_open : (visits : List Visit) (old new : Held S) → Runs (IsAnswer g) zone visits old new → IsOpen g new → IsOpen g old
  runs_open [] old new same is_open = subst (IsOpen g) same is_open
  runs_open (visit ∷ visits) old new (mid, is, runs) is_open =
      ended_open visit.came old mid (day_number visit.moment zone) visit.out visit.read_failed visit.write_failed is.ends (runs_open visits mid new runs is_open)

  runs_replied : (visits : List Visit) (old new : Held S) → Runs (IsAnswer g) zone visits old new → IsOpen g new
      → Runs IsReplied zone visits (desk g old) (desk g new)
  runs_replied [] old new same is_open = ap (desk g) same
  runs_replied (visit ∷ visits) old new (mid, is, runs) is_open = (
    desk g mid,
    record {
      day = is.day;
      ends = ended_replied visit.came old mid (day_number visit.moment zone) visit.out visit.read_failed visit.write_failed is.ends (runs_open visits mid new runs is_open);
    },
    runs_replied visits mid new runs is_open,
  )

  -- a run over a store that is open at its end is one over the desk that it holds
  pub run_replied : (coming left : Option (List Coming)) (told : VisitsSoFar) (later : Option VisitsSoFar) (served : Served) (old new : Held S)
      → HasRun (IsAnswer g) zone told later coming left served old new → IsOpen g new → HasRun IsReplied zone told later coming left served (desk g old) (desk g new)
  run_replied coming left told later served old new run is_open = record {
    visits = run.visits;
    last = run.last;
    order = run.order;
    are = run.are;
    runs = runs_replied run.visits old new run.runs is_open;
    counted = run.counted;
    read_faults = run.read_faults;
    write_faults = run.write_faults;
    ended = run.ended;
  }
