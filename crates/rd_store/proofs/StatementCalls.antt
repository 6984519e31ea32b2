-- A call that is one statement outside a transaction, from what the statement makes of a desk.
use Rattle.rd_store.proofs.Common.{◌≡◌, inl, inr, ℕ, List, false, Result, Ok, Err, OnOk, OnErr, sym, ap, subst, ◌∙◌, IsTrue, Row, Ghosts, Command, Database, Error, State, Executes, Survives, CommitsBy, Held, state, desk_schema, IsWrite, Makes, write_fails, was_open, done_was_open, ran, committed, Desk, IsLawful, desk_of, IsOf, Holds, IsDeskAt, HoldsDesk, Changes, IsOpen, IsClean, desk}
use Rattle.rd_tables.proofs.ConnectionLaws.{Laws, clean_at, lasts_of}
use Rattle.rd_store.proofs.Laws.{leaves_only, left_is}

-- ---- a connection that rests on a database of a desk

pub rests_on : (d : Desk) (s : State) → Holds d s.now → s.committed ≡ s.now → s.in_transaction ≡ false → IsDeskAt s
rests_on d s h settled autocommit = record {
  tables = record { schema = h.of.schema; settled = settled; autocommit = autocommit };
  holds = subst (λ x. Holds x s.now) (sym h.of.is) h;
}

pub rests_as : (old new : State) → IsDeskAt old → new.now ≡ old.now → new.committed ≡ new.now → new.in_transaction ≡ false → IsDeskAt new
rests_as old new at now settled autocommit = rests_on (desk_of old.now.trees) new (subst (Holds (desk_of old.now.trees)) (sym now) at.holds) settled autocommit

-- a statement that fails leaves what stood
pub failed : (text : List ℕ) (params : Row) (old new : State) (e : Error) → IsDeskAt old → IsTrue new.is_open → Executes text params old new (Err e) → IsDeskAt new × (new.now ≡ old.now)
failed text params old new e at is_open h = elim (write_fails text params old new e h) [
  | inl same ↦ let now = same.0.now_is in (rests_as old new at now (same.0.committed_is ∙ at.tables.settled ∙ sym now) (same.0.mode ∙ at.tables.autocommit), now)
  | inr back ↦
      let undone = back.undone is_open in
      let now = undone.0 ∙ at.tables.settled in
      (rests_as old new at now (undone.1 ∙ sym undone.0) back.autocommit, now)
]

-- what a call that changes the desk leaves of it
abbrev pub LeavesDesk : {S T X : Type 0} → Ghosts S → Held S → Held S → Desk → Result T X → Type 0
LeavesDesk g old new after r = record { kept : HoldsDesk (state g new); changes : Changes g old new after r }

-- ---- one statement

module _ {S : Type 0} (g : Ghosts S) (laws : Laws g) {text : List ℕ} {command : Command} (write : IsWrite desk_schema text command) (params : Row) (after : Desk) (old new : Held S) (outside : old.in_transaction ≡ false) (holds : HoldsDesk (state g old))
    (makes : IsOpen g old → Makes desk_schema text command write params (IsOf (desk g old)) (IsOf after)) (lawful : IsOpen g old → IsLawful (desk g old) → IsLawful after) where
  Now : Result ℕ Error → Type 0
  Now (Ok count) = desk g new ≡ after
  Now (Err e) = (state g new).now ≡ (state g old).now

  wrote : (count : ℕ) → IsOpen g old → Executes text params (state g old) (state g new) (Ok count) → IsOpen g new × IsDeskAt (state g new) × (desk g new ≡ after)
  wrote count was h =
      let at = holds was in
      let writes = ran desk_schema text command write params (state g old) (state g new) count at.tables.schema h in
      let made = makes was (state g old).step_limit (state g old).now (state g new).now writes.tally at.holds.of writes.changed writes.sound in
      let settled : (state g new).committed ≡ (state g new).now = rw at.tables.autocommit at writes.shown.committed_is in
      (writes.shown.is_open, rests_on after (state g new) (record { of = made; lawful = lawful was at.holds.lawful }) settled (writes.shown.mode ∙ at.tables.autocommit), made.is)

  rested : (q : Result ℕ Error) → IsOpen g new → IsOpen g old → Executes text params (state g old) (state g new) q → IsDeskAt (state g new) × Now q
  unfolding Now
  rested (Ok count) is_open was h = let it = wrote count was h in (it.1, it.2)
  rested (Err e) is_open was h = failed text params (state g old) (state g new) e (holds was) is_open h

  now : (q : Result ℕ Error) → (IsClean g new → Executes text params (state g old) (state g new) q) → IsOpen g new → IsDeskAt (state g new) × Now q
  now q runs is_open =
      let h = runs (clean_at g laws new is_open) in
      rested q is_open (was_open text params (state g old) (state g new) q h is_open) h

  opens : (q : Result ℕ Error) → Executes text params (state g old) (state g new) q → OnOk q (IsOpen g new)
  opens (Ok count) h = (wrote count (done_was_open text params (state g old) (state g new) count outside h) h).0
  opens (Err e) h = tt

  done : (q : Result ℕ Error) → Now q → OnOk q (desk g new ≡ after)
  unfolding Now
  done (Ok count) h = h
  done (Err e) h = tt

  left_as : (q : Result ℕ Error) → Now q → OnErr q (desk g new ≡ desk g old)
  unfolding Now
  left_as (Ok count) h = tt
  left_as (Err e) h = ap (λ (db : Database). desk_of db.trees) h

  pub single : (r : Result ℕ Error) → (IsClean g new → Executes text params (state g old) (state g new) r) → Survives (state g old) (state g new) (CommitsBy text params (state g old)) → LeavesDesk g old new after r
  single r runs survives = record {
    kept = λ is_open. (now r runs is_open).0;
    changes = record {
      lasts = lasts_of g old new (CommitsBy text params (state g old)) survives (λ is_open. was_open text params (state g old) (state g new) r (runs (clean_at g laws new is_open)) is_open);
      ok = λ is_open. done r (now r runs is_open).1;
      err = λ is_open. left_as r (now r runs is_open).1;
      ends_open = λ clean. opens r (runs clean);
      crash = λ was clean left may. elim (survives.crash clean left may) [
        | inl before ↦ inl (leaves_only g laws old holds was left before)
        | inr commits ↦
            let at = holds was in
            let it = committed desk_schema text command write params (IsOf (desk g old)) (IsOf after) (makes was) (state g old) left at.tables.schema at.holds.of commits in
            inr (left_is after it.0 left (record { of = it.1; lawful = lawful was at.holds.lawful }) it.2)
      ];
      durable = λ is_open. leaves_only g laws new (λ o. (now r runs o).0) is_open;
    };
  }
