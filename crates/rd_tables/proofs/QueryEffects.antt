-- What a caller learns of a query, and what the query leaves.
use Rattle.rd_tables.proofs.Common.{◌≡◌, ◌⊎◌, inl, inr, ℕ, List, Some, None, Option, IsTrue, sym, subst, Null, Row, Key, Returning, Error, State, IsUnchanged, IsRolledBack, FailsToShow, ShowsRows, Survives, CommitsShowing, IsPlain, reads_as, never_commits, asks_of, IsPicked, IsStart, Schema}
use Rattle.sqlite_sql.specs.Term.{Term}
use Rattle.sqlite_resolve.specs.declared.compiled.Compiled.{Compiled}
use Rattle.sqlite.specs.Clock.{timed}
use Rattle.sqlite.specs.Listing.{understood}
use Rattle.sqlite.specs.State.{FailsToQuery, IsNotRun, Shown}
use Rattle.sqlite.proofs.StateLemmas.{survives_weaker}
use Rattle.rd_tables.proofs.PickedRows.{answer_picks, answer_starts}
use Rattle.rd_tables.proofs.QueryTexts.{AsksOver, AsksStart}

not_shown : (old new : State) (text : List ℕ) (c : Compiled) (params : Row) (e : Error) (returning : Option Returning) → FailsToShow old new text c params e returning → IsUnchanged old new ⊎ IsRolledBack old new
not_shown old new text c params e None h = inl h.3
not_shown old new text c params e (Some what) (inl h) = inl h.1
not_shown old new text c params e (Some what) (inr h) = inr h.3

-- a query that is refused changes nothing, and one that fails is undone
pub query_fails : (old new : State) (text : List ℕ) (params : Row) (e : Error) → FailsToQuery text params old new e → IsUnchanged old new ⊎ IsRolledBack old new
unfolding FailsToQuery IsNotRun
query_fails old new text params e (inl (inl refused)) = inl refused.1
query_fails old new text params e (inl (inr fails)) = inr fails.3
query_fails old new text params e (inr h) = not_shown old new text h.0 (timed params h.0.formats h.1.now) e h.0.returning h.2

rows_were_open : (old new : State) (text : List ℕ) (c : Compiled) (params : Row) (rows : List Row) (returning : Option Returning) → ShowsRows old new text c params rows returning → IsTrue old.is_open
rows_were_open old new text c params rows None h = h.3.0.was_open
rows_were_open old new text c params rows (Some what) h = h.1.shown.was_open

pub shown_was_open : (text : List ℕ) (params : Row) (old new : State) (rows : List Row) → Shown text params old new rows → IsTrue old.is_open
unfolding Shown
shown_was_open text params old new rows h = rows_were_open old new text h.0 _ rows h.0.returning h.2

rows_are_open : (old new : State) (text : List ℕ) (c : Compiled) (params : Row) (rows : List Row) (returning : Option Returning) → ShowsRows old new text c params rows returning → IsTrue new.is_open
rows_are_open old new text c params rows None h = h.3.0.is_open
rows_are_open old new text c params rows (Some what) h = h.1.shown.is_open

pub shown_is_open : (text : List ℕ) (params : Row) (old new : State) (rows : List Row) → Shown text params old new rows → IsTrue new.is_open
unfolding Shown
shown_is_open text params old new rows h = rows_are_open old new text h.0 _ rows h.0.returning h.2

rows_unchanged : (old new : State) (text : List ℕ) (c : Compiled) (params : Row) (rows : List Row) (returning : Option Returning) → returning ≡ None → ShowsRows old new text c params rows returning → IsUnchanged old new
rows_unchanged old new text c params rows None none h = h.3
rows_unchanged old new text c params rows (Some what) none h = absurd cc

module _ {over : Schema} (text : List ℕ) (params : Row) (old new : State) (schema : old.now.schema ≡ over) (plain : IsPlain (understood over text)) where
  plain_here : IsPlain (understood old.now.schema text)
  plain_here = subst (λ s. IsPlain (understood s text)) (sym schema) plain

  pub shown_unchanged : (rows : List Row) → Shown text params old new rows → IsUnchanged old new
  unfolding Shown
  shown_unchanged rows h = rows_unchanged old new text h.0 _ rows h.0.returning (subst IsPlain h.1.is plain_here).0 h.2

  -- it commits nothing
  pub read_survives : Survives old new (CommitsShowing text params old) → Survives old new (λ _. ⊥)
  read_survives = survives_weaker old new _ _ (λ _ trees. never_commits text params old trees plain_here)

-- the rows are those that the text asks for
pub shown_picks : {over : Schema} {text : List ℕ} {tree : ℕ} {tests shown : List Term} {order : List (Term × Key)} → AsksOver over text tree tests shown order → (params : Row) (old new : State) → old.now.schema ≡ over → (rows : List Row) → Shown text params old new rows
    → IsPicked (asks_of tree tests shown order) params (old.now.trees tree) rows
shown_picks {over} {text} {tree} {tests} {shown} {order} asks params old new schema rows h =
    answer_picks tree tests shown order old.now.trees params rows (asks.here old.now.trees) ((reads_as text params old new over schema _ asks.means asks.plain asks.stored rows h).answer Null)

-- the rows are the first of those that the text asks for
pub shown_starts : {over : Schema} {text : List ℕ} {most tree : ℕ} {tests shown : List Term} {order : List (Term × Key)} → AsksStart over text most tree tests shown order → (params : Row) (old new : State) → old.now.schema ≡ over → (rows : List Row) → Shown text params old new rows
    → IsStart (asks_of tree tests shown order) most params (old.now.trees tree) rows
shown_starts {over} {text} {most} {tree} {tests} {shown} {order} asks params old new schema rows h =
    answer_starts tree tests shown order most old.now.trees params rows (asks.here old.now.trees) ((reads_as text params old new over schema _ asks.means asks.plain asks.stored rows h).answer Null)
