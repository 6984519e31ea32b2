-- A statement inside a transaction, one after another, and the whole transaction.
use Rattle.rd_tables.proofs.Common.{◌≡◌, inl, inr, ℕ, List, [], true, false, Result, Ok, Err, refl, sym, subst, ◌∙◌, IsTrue, true≢false, arith, cases_Bool, Row, Schema, Command, Database, Error, ExecutesInside, Survives, KeepsCommit, IsRolledBack}
use Rattle.std.proofs.Common.{IfErr, IsErr, OnErr, OnOk}
use Rattle.sqlite.specs.Held.{Held, state}
use Rattle.sqlite.specs.Store.{Ghosts}
use Rattle.sqlite.specs.State.{KeepsCounts, Shows}
use Rattle.sqlite.specs.Steps.{FailsToCommit}
use Rattle.sqlite.specs.declared.error.Error.TheVariants.{SqliteFailure}
use Rattle.sqlite.specs.declared.error.ErrorCode.TheVariants.{TransactionState}
use Rattle.sqlite.proofs.Callers.{survives_begin}
use Rattle.sqlite.proofs.StateLemmas.{survives_then}
use Rattle.rd_tables.specs.Connections.{IsClean, IsOpen, Moves, RestsIn, Turns}
use Rattle.rd_tables.proofs.ConnectionLaws.{Laws, clean_at, lasts_of}
use Rattle.rd_tables.proofs.StatementRuns.{IsWrite, Makes, inside_keeps, ran}

-- ---- one statement

module _ {schema : Schema} {text : List ℕ} {command : Command} (write : IsWrite schema text command) (params : Row) {Before After : Database → Type 0} (over : (db : Database) → Before db → db.schema ≡ schema)
    (makes : Makes schema text command write params Before After) {S : Type 0} (g : Ghosts S) (old new : Held S) where
  pub moves : (r : Result ℕ Error) → (old.in_transaction ≡ false → (r ≡ Err (SqliteFailure TransactionState)) × (new ≡ old)) → (IsClean g new → IsTrue old.in_transaction → ExecutesInside 0 text params (state g old) (state g new) r)
      → Survives (state g old) (state g new) (λ _. ⊥) → Moves g old new Before After r
  moves r ended runs survives = record {
    quiet = survives;
    kept = λ clean. elim (cases_Bool old.in_transaction) [
      | inl inside ↦ inside_keeps text params (state g old) (state g new) r (runs clean inside)
      | inr out ↦ subst (λ h. KeepsCommit (state g old) (state g h)) (sym (ended out).1) (record { was_open = λ o. o; committed = λ _. refl })
    ];
    ok = λ clean is_open inside held. does r (runs clean inside) held;
  }
    where
      does : (q : Result ℕ Error) → ExecutesInside 0 text params (state g old) (state g new) q → Before (state g old).now → OnOk q (IsOpen g new × IsTrue new.in_transaction × After (state g new).now)
      does (Err e) h held = tt
      does (Ok count) h held =
          let writes = ran schema text command write params (state g old) (state g new) count (over (state g old).now held) h.0 in
          (h.1.is_open, h.1.mode, makes (state g old).step_limit (state g old).now (state g new).now writes.tally held writes.changed writes.sound)

-- ---- one after another

pub and_then : {S T U X Y : Type 0} (g : Ghosts S) {a b c : Held S} {P Q R : Database → Type 0} {x : T} → Moves {X = X} g a b P Q (Ok x) → {r : Result U Y} → Moves g b c Q R r → Moves g a c P R r
and_then g {a} {b} {c} first next = record {
  quiet = survives_then (state g a) (state g b) (state g c) (λ _. ⊥) (λ _. ⊥) (λ _. ⊥) (λ _ trees none. none) (λ _ trees none. none) first.quiet next.quiet;
  kept = λ clean.
      let k = first.kept (early clean) in
      let l = next.kept clean in
      record { was_open = λ o. k.was_open (l.was_open o); committed = λ o. l.committed o ∙ k.committed (l.was_open o) };
  ok = λ clean is_open inside held. let one = first.ok (early clean) is_open inside held in next.ok clean one.0 one.1 one.2;
}
  where
    early : IsClean g c → IsClean g b
    early clean = omega (arith, next.quiet.clean)

-- the last of them tells another value
pub then_told : {S T U V X Y : Type 0} (g : Ghosts S) {a b c : Held S} {P Q R : Database → Type 0} {x : T} {u : U} {v : V} → Moves {X = X} g a b P Q (Ok x) → Moves {X = Y} g b c Q R (Ok u) → Moves {X = Y} g a c P R (Ok v)
then_told g first next = let all = and_then g first next in record { quiet = all.quiet; kept = all.kept; ok = all.ok }

-- a step after which more is known
pub moves_to : {S T X : Type 0} (g : Ghosts S) {old new : Held S} {P Q R : Database → Type 0} {r : Result T X} → ((db : Database) → Q db → R db) → Moves g old new P Q r → Moves g old new P R r
moves_to {S} {T} {X} g {old} {new} {P} {Q} {R} {r} more h = record { quiet = h.quiet; kept = h.kept; ok = λ clean is_open inside held. go r (h.ok clean is_open inside held) }
  where
    go : (q : Result T X) → OnOk q (IsOpen g new × IsTrue new.in_transaction × Q (state g new).now) → OnOk q (IsOpen g new × IsTrue new.in_transaction × R (state g new).now)
    go (Ok value) at = (at.0, at.1, more (state g new).now at.2)
    go (Err e) at = tt

pub stopped : {S T U X Y : Type 0} (g : Ghosts S) {old new : Held S} {P Q R : Database → Type 0} {e : X} (q : Result U Y) → IsErr q → Moves {T = T} g old new P Q (Err e) → Moves g old new P R q
stopped g (Err b) is h = record { quiet = h.quiet; kept = h.kept; ok = h.ok }
stopped g (Ok b) is h = absurd (true≢false (sym is))

-- ---- the whole

abbrev pub begun : {S : Type 0} → Held S → Held S
begun h = record h { in_transaction = true }

module _ {S : Type 0} (g : Ghosts S) (clean_at : (h : Held S) → IsOpen g h → IsClean g h) (old mid last : Held S) (Before After : Database → Type 0) (start : IsOpen g old → RestsIn Before (state g old)) where
  -- a last step undoes all
  pub undoes : {U Y V Z : Type 0} {q : Result U Y} → Moves g (begun old) mid Before After q → (IsClean g last → IsRolledBack (state g mid) (state g last)) → Survives (state g mid) (state g last) (λ _. ⊥) → (r : Result V Z) → IsErr r → Turns g old last After r
  undoes inside undone ended r failed = record {
    lasts = lasts_of g old last (λ _. ⊥) all was;
    ok = λ is_open. never r failed;
    err = λ is_open. on r (now is_open);
    ends_open = λ clean. never_open r failed;
    crash = λ was clean left may. elim (all.crash clean left may) [ inl before ↦ inl before | inr none ↦ absurd none ];
  }
    where
      all : Survives (state g old) (state g last) (λ _. ⊥)
      all = survives_then (state g old) (state g mid) (state g last) (λ _. ⊥) (λ _. ⊥) (λ _. ⊥) (λ _ trees none. none) (λ _ trees none. none) (survives_begin g old (state g mid) (λ _. ⊥) inside.quiet) ended

      back : IsOpen g last → IsRolledBack (state g mid) (state g last)
      back is_open = undone (clean_at last is_open)

      early : IsOpen g last → IsClean g mid
      early is_open = let clean = clean_at last is_open in omega (arith, ended.clean, clean)

      was : IsOpen g last → IsOpen g old
      was is_open = (inside.kept (early is_open)).was_open ((back is_open).was_open is_open)

      now : IsOpen g last → RestsIn (λ db. db ≡ (state g old).now) (state g last)
      now is_open =
          let undo = (back is_open).undone is_open in
          record {
            settled = undo.1 ∙ sym undo.0;
            autocommit = (back is_open).autocommit;
            holds = undo.0 ∙ (inside.kept (early is_open)).committed ((back is_open).was_open is_open) ∙ (start (was is_open)).settled;
          }

      never : {V Z : Type 0} (r : Result V Z) → IsErr r → OnOk r (RestsIn After (state g last))
      never (Err z) h = tt
      never (Ok v) h = absurd (true≢false (sym h))

      never_open : {V Z : Type 0} (r : Result V Z) → IsErr r → OnOk r (IsOpen g last)
      never_open (Err z) h = tt
      never_open (Ok v) h = absurd (true≢false (sym h))

      on : {V Z : Type 0} (r : Result V Z) → RestsIn (λ db. db ≡ (state g old).now) (state g last) → OnErr r (RestsIn (λ db. db ≡ (state g old).now) (state g last))
      on (Err z) h = h
      on (Ok v) h = tt

  -- a last step commits
  module _ {V X : Type 0} (x : V) (inside : Moves {X = X} g (begun old) mid Before After (Ok x)) (all : Survives (state g mid) (state g last) (λ trees. trees ≡ (state g mid).now.trees)) where
    early : IsClean g last → IsClean g mid
    early clean = omega (arith, all.clean)

    -- the transaction as it is committed
    whole : IsClean g mid → IsOpen g old → IsOpen g mid × IsTrue mid.in_transaction × After (state g mid).now
    whole clean was = inside.ok clean was refl (start was).holds

    total : Survives (state g old) (state g last) (λ trees. trees ≡ (state g mid).now.trees)
    total = survives_then (state g old) (state g mid) (state g last) (λ _. ⊥) (λ trees. trees ≡ (state g mid).now.trees) (λ trees. trees ≡ (state g mid).now.trees) (λ _ trees none. absurd none) (λ _ trees is. is)
        (survives_begin g old (state g mid) (λ _. ⊥) inside.quiet) all

    abbrev pub Done : Result (Unit {0}) Error → Type 0
    Done r = OnOk r (IsTrue mid.in_transaction × Shows (state g mid) (state g last) (state g mid).now (state g mid).now false × KeepsCounts (state g mid) (state g last) × ((state g last).marks ≡ []))

    abbrev Ends : Result (Unit {0}) Error → Type 0
    Ends (Ok u) = IsOpen g old × RestsIn After (state g last)
    Ends (Err e) = IsOpen g old × RestsIn (λ db. db ≡ (state g old).now) (state g last)

    ends : (r : Result (Unit {0}) Error) → Done r → IfErr r (FailsToCommit (state g mid) (state g last)) → IsClean g last → IsOpen g last → Ends r
    ends (Ok u) done failed clean is_open =
        let shows = done.1 in
        let was = (inside.kept (early clean)).was_open shows.was_open in
        let it = whole (early clean) was in
        (was, record { settled = shows.committed_is ∙ sym shows.now_is; autocommit = shows.mode; holds = subst After (sym shows.now_is) it.2 })
    ends (Err e) done (inl fails) clean is_open =
        let back = fails.3 in
        let undone = back.undone is_open in
        let kept = inside.kept (early clean) in
        let was = kept.was_open (back.was_open is_open) in
        (was, record { settled = undone.1 ∙ sym undone.0; autocommit = back.autocommit; holds = undone.0 ∙ kept.committed (back.was_open is_open) ∙ (start was).settled })
    ends (Err e) done (inr none) clean is_open =
        let it = whole (early clean) ((inside.kept (early clean)).was_open none.2.0.was_open) in
        absurd (true≢false (sym it.1 ∙ none.1))

    pub commits : (r : Result (Unit {0}) Error) → (IsClean g last → Done r) → (IsClean g last → IfErr r (FailsToCommit (state g mid) (state g last))) → Turns g old last After r
    commits r done failed = record {
      lasts = lasts_of g old last (λ trees. trees ≡ (state g mid).now.trees) total (λ is_open. open_in r (at is_open));
      ok = λ is_open. ok r (at is_open);
      err = λ is_open. err r (at is_open);
      ends_open = λ clean. opens r (done clean);
      crash = λ was clean left may. elim (total.crash clean left may) [ inl before ↦ inl before | inr is ↦ inr ((state g mid).now, (whole (early clean) was).2, is) ];
    }
      where
        at : IsOpen g last → Ends r
        at is_open = let clean = clean_at last is_open in ends r (done clean) (failed clean) clean is_open

        open_in : (q : Result (Unit {0}) Error) → Ends q → IsOpen g old
        open_in (Ok u) h = h.0
        open_in (Err e) h = h.0

        ok : (q : Result (Unit {0}) Error) → Ends q → OnOk q (RestsIn After (state g last))
        ok (Ok u) h = h.1
        ok (Err e) h = tt

        err : (q : Result (Unit {0}) Error) → Ends q → OnErr q (RestsIn (λ db. db ≡ (state g old).now) (state g last))
        err (Ok u) h = tt
        err (Err e) h = h.1

        opens : (q : Result (Unit {0}) Error) → Done q → OnOk q (IsOpen g last)
        opens (Ok u) h = h.1.is_open
        opens (Err e) h = tt

-- ---- from where a transaction begins to where the connection is handed back

module _ {S : Type 0} (g : Ghosts S) (laws : Laws g) (old begin : Held S) (begins : begin ≡ begun old) {Before : Database → Type 0} (start : IsOpen g old → RestsIn Before (state g old)) {mid : Held S} (last end : Held S) (same : last ≡ end) where
  -- it failed, and all is undone
  pub step_failed : {U Y V Z : Type 0} {q : Result U Y} {After : Database → Type 0} → Moves g begin mid Before After q → (IsClean g last → IsRolledBack (state g mid) (state g last)) → Survives (state g mid) (state g last) (λ _. ⊥) → (r : Result V Z) → IsErr r → Turns g old end After r
  step_failed {q} {After} moves undone ended r failed =
      subst (λ (h : Held S). Turns g old h After r) same (undoes g (clean_at g laws) old mid last Before After start (subst (λ (h : Held S). Moves g h mid Before After q) begins moves) undone ended r failed)

  -- it was done, and is committed
  pub step_done : {V X : Type 0} {x : V} {After : Database → Type 0} → Moves {X = X} g begin mid Before After (Ok x) → Survives (state g mid) (state g last) (λ trees. trees ≡ (state g mid).now.trees) → (r : Result (Unit {0}) Error)
      → (IsClean g last → OnOk r (IsTrue mid.in_transaction × Shows (state g mid) (state g last) (state g mid).now (state g mid).now false × KeepsCounts (state g mid) (state g last) × ((state g last).marks ≡ [])))
      → (IsClean g last → IfErr r (FailsToCommit (state g mid) (state g last))) → Turns g old end After r
  step_done {X} {x} {After} moves all r done failed =
      subst (λ (h : Held S). Turns g old h After r) same (commits g (clean_at g laws) old mid last Before After start x (subst (λ (h : Held S). Moves {X = X} g h mid Before After (Ok x)) begins moves) all r done failed)
