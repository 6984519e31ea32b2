-- A desk that is copied entry by entry, inside one transaction.
use Rattle.rd_store.proofs.Common.{apart_if_less, IsKeyOrder, halves, ◌≡◌, ◌⊎◌, ◌∙◌, inl, inr, ℕ, zero, suc, ◌+◌, ◌<◌, ◌++◌, List, [], ◌∷◌, length, get_or, take, Bool, false, cond, T, Some, None, Result, Ok, Err, Ordering, ap, arith, refl, subst, sym, is_lt, IfOk, IsErr, IsTrue, MatchBool, OnOk, true≢false, map, FinMap, entries, entries_sorted, from_entries, from_entries_push, get, get-entries, get-from_entries, insert, same_map, below_all, find, is_sorted, eq_by_cmp, eq_by_cmp_equiv, take_all, take_more, get_or-map, length-map, Ghosts, Database, Held, state, Error, Desk, IsBlank, has_desk, AndClean, IsCopied, IsNotCopied, KeepsOrStays, LeavesCopy, OpensCopy, LeavesOldOrNew, RestsIn, Turns, OpenFault, IsNotOpened, IsOpened, Holds, IsAtRest, IsClean, IsLeft, IsOpen, Keeps, Lasts, LeavesOpen, Moves, Reads, desk, IsOf, true}
use Rattle.rd_store.specs.declared.faults.CreateFault.{CreateFault}
use Rattle.rd_store.specs.declared.faults.CreateFault.TheVariants.{Exists, Sql}
use Rattle.rd_tables.proofs.ConnectionLaws.{lasts_still, lasts_then}
use Rattle.rd_store.proofs.Laws.{left_is}
use Rattle.rd_tables.proofs.TransactionSteps.{and_then, stopped, then_told}

-- ---- the first entries of a finite map

module _ {K X : Type 0} (cmp : K → K → Ordering) where
  below_at : (x : K) (es : List (K × X)) (k : ℕ) (e : K × X) → T (below_all cmp x es) → k < length es → get_or es k e ≡ e → T (is_lt (cmp x e.0))
  below_at x [] k e below low is = absurd (omega (arith, low))
  below_at x (f ∷ es) zero e below low is = subst (λ (one : K × X). T (is_lt (cmp x one.0))) is (halves (is_lt (cmp x f.0)) (below_all cmp x es) below).0
  below_at x (f ∷ es) (suc k) e below low is = below_at x es k e (halves (is_lt (cmp x f.0)) (below_all cmp x es) below).1 (omega (arith, low)) is

  -- the first so many entries
  abbrev pub first_of : ℕ → FinMap cmp X → FinMap cmp X
  first_of count m = from_entries (take count (entries m))

  module _ (order : IsKeyOrder cmp) where
    none_before : (es : List (K × X)) (k : ℕ) (e : K × X) → T (is_sorted cmp es) → k < length es → get_or es k e ≡ e → find cmp e.0 (take k es) ≡ None
    none_before [] k e sorted low is = absurd (omega (arith, low))
    none_before (f ∷ es) zero e sorted low is = refl
    none_before (f ∷ es) (suc k) e sorted low is =
        let sides = halves (below_all cmp f.0 es) (is_sorted cmp es) sorted in
        let apart : eq_by_cmp cmp e.0 f.0 ≡ false = (eq_by_cmp_equiv order.total).symm e.0 f.0 ∙ apart_if_less (cmp f.0 e.0) (below_at f.0 es k e sides.0 (omega (arith, low)) is) in
        ap (λ (b : Bool). cond b (Some f.1) (find cmp e.0 (take k es))) apart ∙ none_before es k e sides.1 (omega (arith, low)) is

    module _ (m : FinMap cmp X) (k : ℕ) (e : K × X) (low : k < length (entries m)) (is : get_or (entries m) k e ≡ e) where
      -- the next has a key of its own
      pub next_free : get (first_of k m) e.0 ≡ None
      next_free = get-from_entries order.total (take k (entries m)) e.0 ∙ none_before (entries m) k e (entries_sorted m) low is

      -- and is put
      pub next_put : insert (first_of k m) e.0 e.1 ≡ first_of (k + 1) m
      next_put =
          sym (from_entries_push order.total order.same (take k (entries m)) e.0 e.1 (none_before (entries m) k e (entries_sorted m) low is))
          ∙ ap (λ (es : List (K × X)). from_entries {R = cmp} es) (sym (take_more (entries m) k e low ∙ ap (λ (one : K × X). take k (entries m) ++ one ∷ []) is))

    -- until all are there
    pub first_all : (m : FinMap cmp X) (k : ℕ) → k ≡ length (entries m) → first_of k m ≡ m
    first_all m k is =
        ap (λ (es : List (K × X)). from_entries {R = cmp} es) (take_all k (entries m) (omega (arith, is)))
        ∙ same_map order.total order.same (from_entries (entries m)) m (λ q. get-from_entries order.total (entries m) q ∙ sym (get-entries m q))

-- ---- steps of a transaction

-- no step
pub moves_none : {S : Type 0} (g : Ghosts S) (h : Held S) (P : Database → Type 0) → Moves {T = Unit {0}} {X = Error} g h h P P (Ok tt)
moves_none g h P = record {
  quiet = record { clean = omega arith; shield = λ s. s; counts = omega arith; limit = refl; closes = λ clean is_open. inl is_open; crash = λ clean db may. inl may };
  kept = λ clean. record { was_open = λ o. o; committed = λ o. refl };
  ok = λ clean is_open inside held. (is_open, inside, held);
}

-- a failure before any step
pub unmoved : {S U X : Type 0} (g : Ghosts S) (h : Held S) (P Q : Database → Type 0) (r : Result U X) → IsErr r → Moves g h h P Q r
unmoved g h P Q (Err e) failed = let none = moves_none g h P in record { quiet = none.quiet; kept = none.kept; ok = λ clean is_open inside held. tt }
unmoved g h P Q (Ok u) failed = absurd (true≢false (sym failed))

-- ---- entries that are copied one by one

-- an item of a list is the entry at its place
pub at_same : {E : Type 0} (es items : List E) (at : ℕ) (item : E) → items ≡ es → at < length items → item ≡ get_or items at item → (at < length es) × (get_or es at item ≡ item)
at_same {E} es items at item are low is = (subst (λ (l : List E). at < length l) are low, subst (λ (l : List E). get_or l at item ≡ item) are (sym is))

-- or shows it
pub at_shown : {E A : Type 0} (shown : E → A) (back : A → E) → ((e : E) → back (shown e) ≡ e) → (es : List E) (items : List A) (at : ℕ) (item : A) → items ≡ map shown es → at < length items → item ≡ get_or items at item
    → (at < length es) × (get_or es at (back item) ≡ back item)
at_shown {E} {A} shown back there es items at item are low is =
    let within : at < length es = subst (λ n. at < n) (ap length are ∙ length-map es shown) low in (
      within,
      sym (there (get_or es at (back item))) ∙ ap back (sym (get_or-map shown es at (back item) item within) ∙ ap (λ (xs : List A). get_or xs at item) (sym are) ∙ sym is),
    )

module _ {S K X : Type 0} (g : Ghosts S) {cmp : K → K → Ordering} (order : IsKeyOrder cmp) (before : Desk) (all : FinMap cmp X) (with_all : FinMap cmp X → Desk → Desk) {old mid : Held S} (at : ℕ)
    (come : Moves {T = Unit {0}} {X = Error} g old mid (IsOf before) (IsOf (with_all (first_of cmp at all) before)) (Ok tt)) where
  module _ (e : K × X) (here : (at < length (entries all)) × (get_or (entries all) at e ≡ e)) where
    abbrev Next : Database → Type 0
    Next = IsOf (with_all (insert (first_of cmp at all) e.0 e.1) before)

    -- one more is put
    pub one_copied : {new : Held S} {n : ℕ} → (get (first_of cmp at all) e.0 ≡ None → Moves {X = Error} g mid new (IsOf (with_all (first_of cmp at all) before)) Next (Ok n)) → Moves {T = Unit {0}} {X = Error} g old new (IsOf before) (IsOf (with_all (first_of cmp (at + 1) all) before)) (Ok tt)
    one_copied {new} put =
        subst (λ (m : FinMap cmp X). Moves {T = Unit {0}} {X = Error} g old new (IsOf before) (IsOf (with_all m before)) (Ok tt)) (next_put cmp order all at e here.0 here.1) (then_told g come (put (next_free cmp order all at e here.0 here.1)))

    -- or it fails
    pub none_copied : {new : Held S} {x : Error} {U Y : Type 0} (q : Result U Y) → IsErr q → (get (first_of cmp at all) e.0 ≡ None → Moves {T = ℕ} g mid new (IsOf (with_all (first_of cmp at all) before)) Next (Err x)) → Moves g old new (IsOf before) (IsOf (with_all all before)) q
    none_copied q failed put = stopped g q failed (and_then g come (put (next_free cmp order all at e here.0 here.1)))

  -- all are put
  pub all_copied : at ≡ length (entries all) → Moves {T = Unit {0}} {X = Error} g old mid (IsOf before) (IsOf (with_all all before)) (Ok tt)
  all_copied end = subst (λ (m : FinMap cmp X). Moves {T = Unit {0}} {X = Error} g old mid (IsOf before) (IsOf (with_all m before)) (Ok tt)) (first_all cmp order all at end) come

-- where the disk of another connection has returned what was written
module _ {S U : Type 0} (g : Ghosts S) {a b : Held S} {P Q : Database → Type 0} {r : Result U Error} where
  -- a step that reads nothing of it
  pub and_clean : (read : Held S) → Moves g a b P Q r → Moves g a b (AndClean g read P) Q r
  and_clean read step = record { quiet = step.quiet; kept = step.kept; ok = λ clean is_open inside held. step.ok clean is_open inside held.1 }

  -- the same while it goes on, and where it is still so later
  pub both_clean : (read later : Held S) → (IsClean g later → IsClean g read) → Moves g a b (AndClean g read P) Q r → Moves g a b (AndClean g later P) (AndClean g later Q) r
  both_clean read later was step = record { quiet = step.quiet; kept = step.kept; ok = λ clean is_open inside held. with_clean r held.0 (step.ok clean is_open inside (was held.0, held.1)) }
    where
      with_clean : (q : Result U Error) → IsClean g later → OnOk q (IsOpen g b × IsTrue b.in_transaction × Q (state g b).now)
          → OnOk q (IsOpen g b × IsTrue b.in_transaction × (IsClean g later × Q (state g b).now))
      with_clean (Ok u) clean all = (all.0, all.1, (clean, all.2))
      with_clean (Err e) clean all = tt

  pub of_clean : (read : Held S) → IsClean g read → Moves g a b (AndClean g read P) Q r → Moves g a b P Q r
  of_clean read was step = record { quiet = step.quiet; kept = step.kept; ok = λ clean is_open inside held. step.ok clean is_open inside (was, held) }

-- ---- calls that read

-- one call after another, where the first has left the connection open
pub keeps_then : {S : Type 0} (g : Ghosts S) (a b c : Held S) → Keeps g a b → (IsClean g b → IsOpen g b) → Keeps g b c → Keeps g a c
keeps_then g a b c first opened next = record {
  lasts = lasts_then g a b c first.lasts next.lasts;
  same = λ is_open. next.same is_open ∙ first.same (next.lasts.was_open is_open);
  crash = λ was clean left may.
      let mid = opened (next.lasts.clean clean) in
      subst (λ (d : Desk). IsLeft d left) (first.same mid) (next.crash mid clean left may);
  durable = next.durable;
}

-- a call that fails
pub failed_read : {S T X : Type 0} (g : Ghosts S) (a b : Held S) → Keeps g a b → (r : Result T X) → IsErr r → (P : T → Type 0) → Reads g a b r P
failed_read g a b keeps (Err e) failed P = record { keeps = keeps; answer = λ o. tt; ends_open = λ clean. tt }
failed_read g a b keeps (Ok value) failed P = absurd (true≢false (sym failed))

pub keeps_still : {S : Type 0} (g : Ghosts S) (a b c : Held S) → Keeps g a b → (IsClean g b → IsOpen g b) → KeepsOrStays g b c → Keeps g a c
keeps_still g a b c first opened (inl same) = subst (Keeps g a) (sym same) first
keeps_still g a b c first opened (inr next) = keeps_then g a b c first opened next

pub was_clean : {S : Type 0} (g : Ghosts S) (b c : Held S) → KeepsOrStays g b c → IsClean g c → IsClean g b
was_clean g b c (inl same) clean = subst (IsClean g) same clean
was_clean g b c (inr next) clean = next.lasts.clean clean

pub was_open : {S : Type 0} (g : Ghosts S) (b c : Held S) → KeepsOrStays g b c → IsOpen g c → IsOpen g b
was_open g b c (inl same) is_open = subst (IsOpen g) same is_open
was_open g b c (inr next) is_open = next.lasts.was_open is_open

-- ---- the whole

-- a transaction that did not begin
pub turns_none : {S T X : Type 0} (g : Ghosts S) (h : Held S) (Before After : Database → Type 0) → (IsOpen g h → RestsIn Before (state g h)) → (e : X) → Turns {T = T} g h h After (Err e)
turns_none g h Before After start e = record {
  lasts = lasts_still g h;
  ok = λ o. tt;
  err = λ o. let at = start o in record { settled = at.settled; autocommit = at.autocommit; holds = refl };
  ends_open = λ clean. tt;
  crash = λ was clean left may. inl may;
}

-- more is known of what it makes
pub turns_to : {S T X : Type 0} (g : Ghosts S) (old new : Held S) (P Q : Database → Type 0) (r : Result T X) → ((db : Database) → P db → Q db) → Turns g old new P r → Turns g old new Q r
turns_to {S} {T} {X} g old new P Q r more turns = record {
  lasts = turns.lasts;
  ok = λ o. go r (turns.ok o);
  err = turns.err;
  ends_open = turns.ends_open;
  crash = λ was clean left may. elim (turns.crash was clean left may) [ inl before ↦ inl before | inr made ↦ inr (made.0, more made.0 made.1, made.2) ];
}
  where
    go : (q : Result T X) → OnOk q (RestsIn P (state g new)) → OnOk q (RestsIn Q (state g new))
    go (Ok value) at = record { settled = at.settled; autocommit = at.autocommit; holds = more (state g new).now at.holds }
    go (Err e) at = tt

-- a desk was written, and then its connection was opened as a store, or it was not
pub written_left : {S : Type 0} (g : Ghosts S) (old mid new : Held S) (d : Desk) → Turns {T = Unit {0}} {X = Error} g old mid (Holds d) (Ok tt) → LeavesCopy g mid new → LeavesOldOrNew g old new d
written_left g old mid new d turns leaves was clean left may =
    let mid_clean = leaves.lasts.clean clean in
    let mid_open = turns.ends_open mid_clean in
    elim (leaves.crash mid_open clean left may) [
      | inl before ↦ unfinished (turns.crash was mid_clean left before)
      | inr made ↦ inr (subst (λ (e : Desk). IsLeft e left) (turns.ok mid_open).holds.of.is made)
    ]
  where
    unfinished : g.recovers old.store left ⊎ ((db : Database) × Holds d db × (left ≡ db.trees)) → g.recovers old.store left ⊎ IsLeft d left
    unfinished (inl before) = inl before
    unfinished (inr made) = inr (left_is d made.0 left made.1 made.2)

-- what a crash leaves of the writing
pub turned_left : {S T X : Type 0} (g : Ghosts S) (old new : Held S) (d : Desk) (r : Result T X) → Turns g old new (Holds d) r → LeavesOldOrNew g old new d
turned_left g old new d r turns was clean left may = elim (turns.crash was clean left may) [ inl before ↦ inl before | inr made ↦ inr (left_is d made.0 left made.1 made.2) ]

-- a store that was opened over a copy, and asked
pub opened_left : {S : Type 0} (g : Ghosts S) (old mid new : Held S) → IsOpened g old mid → Keeps g mid new → LeavesCopy g old new
opened_left g old mid new opened keeps = record {
  lasts = lasts_then g old mid new opened.lasts keeps.lasts;
  crash = λ was clean left may.
      let mid_open = opened.ends_open (keeps.lasts.clean clean) in
      inr (subst (λ (e : Desk). IsLeft e left) (opened.is mid_open) (keeps.crash mid_open clean left may));
}

-- one that was not opened
pub unopened_left : {S : Type 0} (g : Ghosts S) (old new : Held S) (fault : OpenFault) → IsNotOpened g old new fault → LeavesCopy g old new
unopened_left g old new fault not_opened = record { lasts = not_opened.lasts; crash = λ was clean left may. inl (not_opened.crash was clean left may) }

-- a connection at rest, which is not asked
pub keeps_here : {S : Type 0} (g : Ghosts S) (h : Held S) → IsAtRest g h → Keeps g h h
keeps_here g h rest = record { lasts = lasts_still g h; same = λ o. refl; crash = λ was clean. rest.leaves was; durable = rest.leaves }

module _ {S : Type 0} (g : Ghosts S) (from mid read old written new : Held S) (first : Keeps g from mid) (later : KeepsOrStays g mid read) (turns : IsClean g mid → Turns {T = Unit {0}} {X = Error} g old written (Holds (desk g from)) (Ok tt)) where
  -- what is left of a desk that was written and then opened, or not
  pub lasts_left : LeavesCopy g written new → IsClean g read → Lasts g old new
  lasts_left leaves clean = lasts_then g old written new (turns (was_clean g mid read later clean)).lasts leaves.lasts

  pub crash_left : LeavesCopy g written new → IsClean g read → LeavesOldOrNew g old new (desk g from)
  crash_left leaves clean = written_left g old written new (desk g from) (turns (was_clean g mid read later clean)) leaves

  -- a desk that was written, opened and compared
  pub copied_whole : IsBlank old.schema → OpensCopy g mid read written new → (IsClean g read → IsOpen g read) → IsCopied g from read old new
  copied_whole blank opens read_open = record {
    lasts = lasts_left opens.leaves;
    blank = blank;
    is = λ o1 o2. sym (opens.same o1 o2) ∙ first.same (was_open g mid read later o1);
    ends_open = opens.ends_open;
    read_open = read_open;
    crash = crash_left opens.leaves;
    durable = opens.durable;
  }

  -- or not
  pub not_copied_whole : (fault : CreateFault) → IsBlank old.schema → has_desk old.schema ≡ false → LeavesCopy g written new → fault ≡ Sql → IsNotCopied g from read old new fault
  not_copied_whole fault blank none leaves is = record {
    lasts = lasts_left leaves;
    exists = subst (λ b. MatchBool b (fault ≡ Exists) (fault ≡ Sql)) (sym none) is;
    same = λ other. let both : Exists ≡ Sql = sym other ∙ is in absurd cc;
    occupied = λ stands. absurd (stands blank);
    crash = crash_left leaves;
  }

-- where the opening and the comparison end well
pub copied_if : {S X : Type 0} (g : Ghosts S) (from mid read old written : Held S) → Keeps g from mid → KeepsOrStays g mid read
    → (IsClean g mid → Turns {T = Unit {0}} {X = Error} g old written (Holds (desk g from)) (Ok tt)) → IsBlank old.schema → (r : Result (Held S) X) → IfOk r (λ store. OpensCopy g mid read written store)
    → LeavesOpen g read r → IfOk r (λ store. IsCopied g from read old store)
copied_if g from mid read old written first later turns blank (Ok store) opens read_open = copied_whole g from mid read old written store first later turns blank opens read_open
copied_if g from mid read old written first later turns blank (Err e) opens read_open = tt

-- or not even written
pub not_written : {S T X : Type 0} (g : Ghosts S) (from read old new : Held S) (r : Result T X) → IsBlank old.schema → has_desk old.schema ≡ false → (IsClean g read → Turns g old new (Holds (desk g from)) r)
    → IsNotCopied g from read old new Sql
not_written g from read old new r blank none turns = record {
  lasts = λ clean. (turns clean).lasts;
  exists = subst (λ b. MatchBool b (Sql ≡ Exists) (Sql ≡ Sql)) (sym none) refl;
  same = λ other. absurd cc;
  occupied = λ stands. absurd (stands blank);
  crash = λ clean. turned_left g old new (desk g from) r (turns clean);
}

pub untouched_left : {S : Type 0} (g : Ghosts S) (h : Held S) → LeavesCopy g h h
untouched_left g h = record { lasts = lasts_still g h; crash = λ was clean left may. inl may }

pub some_same : {A : Type 0} {x y : A} → Some x ≡ Some y → x ≡ y
some_same is = cc is

-- a step whose end is told in another way
pub of_told : {S U A : Type 0} (g : Ghosts S) {a b : Held S} {P R : Database → Type 0} {r : Result U Error} (Q : A → Database → Type 0) {x y : A} → ((db : Database) → R db → P db × (x ≡ y)) → Moves g a b P (Q x) r → Moves g a b R (Q y) r
of_told g {a} {b} {r} Q told step = record {
  quiet = step.quiet;
  kept = step.kept;
  ok = λ clean is_open inside held.
      let of = told (state g a).now held in
      subst (λ z. OnOk r (IsOpen g b × IsTrue b.in_transaction × Q z (state g b).now)) of.1 (step.ok clean is_open inside of.0);
}
