-- A transaction that turns one desk into another.
use Rattle.rd_store.proofs.Common.{◌≡◌, inl, inr, Result, Ok, Err, OnOk, OnErr, ap, [], subst, IfErr, IsErr, IsTrue, false, Ghosts, Database, Held, state, Desk, IsLawful, desk_of, IsOf, IsDeskAt, HoldsDesk, IsOpen, desk, Moves, IsClean, RestsIn, Turns, Error, IsRolledBack, Survives, Shows, KeepsCounts, FailsToCommit}
use Rattle.rd_tables.proofs.ConnectionLaws.{Laws}
use Rattle.rd_store.proofs.Laws.{leaves_only, left_is}
use Rattle.rd_store.proofs.StatementCalls.{rests_on, rests_as, LeavesDesk}
use Rattle.rd_tables.proofs.TransactionSteps.{begun, step_done, step_failed}

-- where a transaction begins
pub starts : {S : Type 0} (g : Ghosts S) (old : Held S) → HoldsDesk (state g old) → IsOpen g old → RestsIn (IsOf (desk g old)) (state g old)
starts g old holds was = let at = holds was in record { settled = at.tables.settled; autocommit = at.tables.autocommit; holds = at.holds.of }

module _ {S : Type 0} (g : Ghosts S) (laws : Laws g) (old new : Held S) (holds : HoldsDesk (state g old)) {after : Desk} (lawful : IsOpen g old → IsLawful (desk g old) → IsLawful after) where
  -- where it ends
  abbrev Ended : {T X : Type 0} → Result T X → Type 0
  Ended (Ok value) = desk g new ≡ after
  Ended (Err e) = desk g new ≡ desk g old

  rested : {T X : Type 0} (r : Result T X) → Turns g old new (IsOf after) r → IsOpen g new → IsDeskAt (state g new) × Ended r
  rested (Ok value) turns is_open =
      let at = turns.ok is_open in
      (rests_on after (state g new) (record { of = at.holds; lawful = lawful (turns.lasts.was_open is_open) (holds (turns.lasts.was_open is_open)).holds.lawful }) at.settled at.autocommit, at.holds.is)
  rested (Err e) turns is_open =
      let at = turns.err is_open in
      (rests_as (state g old) (state g new) (holds (turns.lasts.was_open is_open)) at.holds at.settled at.autocommit, ap (λ (db : Database). desk_of db.trees) at.holds)

  pub changes : {T X : Type 0} (r : Result T X) → Turns g old new (IsOf after) r → LeavesDesk g old new after r
  changes {T} {X} r turns = record {
    kept = λ is_open. (rested r turns is_open).0;
    changes = record {
      lasts = turns.lasts;
      ok = λ is_open. ok r (rested r turns is_open).1;
      err = λ is_open. err r (rested r turns is_open).1;
      ends_open = turns.ends_open;
      crash = λ was clean left may. elim (turns.crash was clean left may) [
        | inl before ↦ inl (leaves_only g laws old holds was left before)
        | inr made ↦ inr (left_is after made.0 left (record { of = made.1; lawful = lawful was (holds was).holds.lawful }) made.2)
      ];
      durable = λ is_open. leaves_only g laws new (λ o. (rested r turns o).0) is_open;
    };
  }
    where
      ok : (q : Result T X) → Ended q → OnOk q (desk g new ≡ after)
      ok (Ok value) h = h
      ok (Err e) h = tt

      err : (q : Result T X) → Ended q → OnErr q (desk g new ≡ desk g old)
      err (Ok value) h = tt
      err (Err e) h = h

-- ---- from where a transaction begins to where the connection is handed back, with another lawful desk

module _ {S : Type 0} (g : Ghosts S) (laws : Laws g) (old begin : Held S) (begins : begin ≡ begun old) {Before : Database → Type 0} (start : IsOpen g old → RestsIn Before (state g old)) {mid : Held S} (last end : Held S) (same : last ≡ end) where
  module _ (holds : HoldsDesk (state g old)) {after : Desk} (lawful : IsOpen g old → IsLawful (desk g old) → IsLawful after) where
    pub put_failed : {U Y V Z : Type 0} {q : Result U Y} → Moves g begin mid Before (IsOf after) q → (IsClean g last → IsRolledBack (state g mid) (state g last)) → Survives (state g mid) (state g last) (λ _. ⊥) → (r : Result V Z) → IsErr r → LeavesDesk g old end after r
    put_failed moves undone ended r failed = changes g laws old end holds lawful r (step_failed g laws old begin begins start last end same moves undone ended r failed)

    pub put_done : {V X : Type 0} {x : V} → Moves {X = X} g begin mid Before (IsOf after) (Ok x) → Survives (state g mid) (state g last) (λ trees. trees ≡ (state g mid).now.trees) → (r : Result (Unit {0}) Error)
        → (IsClean g last → OnOk r (IsTrue mid.in_transaction × Shows (state g mid) (state g last) (state g mid).now (state g mid).now false × KeepsCounts (state g mid) (state g last) × ((state g last).marks ≡ [])))
        → (IsClean g last → IfErr r (FailsToCommit (state g mid) (state g last))) → LeavesDesk g old end after r
    put_done moves all r done failed = changes g laws old end holds lawful r (step_done g laws old begin begins start last end same moves all r done failed)
