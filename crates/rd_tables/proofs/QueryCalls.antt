-- What a query leaves of a connection.
use Rattle.rd_tables.proofs.Common.{◌≡◌, inl, inr, ℕ, List, [], IsTrue, sym, ◌∙◌, Row, Schema, Error, State, IsUnchanged, IsRolledBack, Survives, CommitsShowing}
use Rattle.sqlite.specs.Held.{Held, state}
use Rattle.sqlite.specs.Store.{Ghosts}
use Rattle.sqlite.specs.State.{FailsToQuery, IsNotRun, Shown}
use Rattle.sqlite.proofs.StateLemmas.{survives_weaker}
use Rattle.rd_tables.specs.Connections.{IsClean, IsOpen, IsReadable, RestsOver, Stays}
use Rattle.rd_tables.proofs.ConnectionLaws.{Laws, clean_at, lasts_of}
use Rattle.rd_tables.proofs.QueryEffects.{query_fails, read_survives, shown_unchanged, shown_was_open}

-- the connection was open, and shows what it did
pub record Same (old new : State) : Type 0 where
  pub was_open : IsTrue old.is_open
  pub now : new.now ≡ old.now
  pub committed : new.committed ≡ old.committed
  pub autocommit : new.in_transaction ≡ old.in_transaction

unchanged : (old new : State) → IsUnchanged old new → Same old new
unchanged old new same = record { was_open = same.0.was_open; now = same.0.now_is; committed = same.0.committed_is; autocommit = same.0.mode }

undone : {over : Schema} (old new : State) → RestsOver over old → IsTrue new.is_open → IsRolledBack old new → Same old new
undone {over} old new tables is_open back =
    record { was_open = back.was_open is_open; now = (back.undone is_open).0 ∙ tables.settled; committed = (back.undone is_open).1; autocommit = back.autocommit ∙ sym tables.autocommit }

module _ {S : Type 0} (g : Ghosts S) (laws : Laws g) (text : List ℕ) (params : Row) (old new : Held S) (readable : IsOpen g old → IsReadable text (state g old))
    (survives : Survives (state g old) (state g new) (CommitsShowing text params (state g old))) where
  stays : (IsOpen g new → Same (state g old) (state g new)) → Stays g old new
  stays same = record {
    lasts = lasts_of g old new (CommitsShowing text params (state g old)) survives (λ is_open. (same is_open).was_open);
    now = λ is_open. (same is_open).now;
    committed = λ is_open. (same is_open).committed;
    autocommit = λ is_open. let at = same is_open in at.autocommit ∙ (readable at.was_open).rests.autocommit;
    quiet = λ was clean left may. elim ((read_survives text params (state g old) (state g new) (readable was).rests.schema (readable was).plain survives).crash clean left may) [ inl before ↦ before | inr none ↦ absurd none ];
  }

  pub shown_stays : (rows : List Row) → (IsClean g new → Shown text params (state g old) (state g new) rows) → Stays g old new
  shown_stays rows shown = stays (λ is_open.
      let h = shown (clean_at g laws new is_open) in
      let at = readable (shown_was_open text params (state g old) (state g new) rows h) in
      unchanged (state g old) (state g new) (shown_unchanged text params (state g old) (state g new) at.rests.schema at.plain rows h))

  pub failed_stays : (e : Error) → (IsClean g new → FailsToQuery text params (state g old) (state g new) e) → Stays g old new
  failed_stays e fails = stays (λ is_open. elim (query_fails (state g old) (state g new) text params e (fails (clean_at g laws new is_open))) [
    | inl same ↦ unchanged (state g old) (state g new) same
    | inr back ↦ undone (state g old) (state g new) (readable (back.was_open is_open)).rests is_open back
  ])

-- a text that was compiled, and not run
module _ {S : Type 0} (g : Ghosts S) (laws : Laws g) (text : List ℕ) (old new : Held S) (readable : IsOpen g old → IsReadable text (state g old)) (survives : Survives (state g old) (state g new) (λ _. ⊥)) where
  weaker : Survives (state g old) (state g new) (CommitsShowing text [] (state g old))
  weaker = survives_weaker (state g old) (state g new) (λ _. ⊥) (CommitsShowing text [] (state g old)) (λ clean trees none. absurd none) survives

  pub prepared_stays : (IsClean g new → IsUnchanged (state g old) (state g new)) → Stays g old new
  prepared_stays same = stays g laws text [] old new readable weaker (λ is_open. unchanged (state g old) (state g new) (same (clean_at g laws new is_open)))

  pub not_prepared_stays : (e : Error) → (IsClean g new → IsNotRun (state g old) (state g new) text [] e) → Stays g old new
  unfolding FailsToQuery
  not_prepared_stays e fails = failed_stays g laws text [] old new readable weaker e (λ clean. inl (fails clean))
