-- What a statement that writes does to a connection.
use Rattle.rd_tables.proofs.Common.{◌≡◌, ◌⊎◌, inl, inr, ℕ, List, false, true≢false, Option, None, Result, Ok, Err, sym, ap, subst, subst₂, ◌∙◌, IsTrue, cases_Bool, Row, Trees, Schema, Command, Select, Insert, InsertOr, Update, Delete, CreateTable, CreateIndex, DropTable, DropIndex, Begin, Commit, Rollback, Savepoint, Release, RollbackTo, Rows, Nothing, CreateView, DropView, Returning, Enforced, Database, IsDatabase, Tally, Does, Error, Mode, State, Executes, ExecutesInside, IsUnchanged, IsRolledBack, KeepsCommit, MayCommit, Runs, Writes, shows_rows, IsPlain, command_of, statement_of, runs_as}
use Rattle.std.proofs.Common.{append-nil}
use Rattle.sqlite.specs.Listing.{understood}
use Rattle.sqlite.specs.State.{ExecutesIn, IsNotRun, CommitsBy}

-- keys are enforced, and nothing waits
abbrev pub plain_mode : Mode
plain_mode = record { keys = Enforced; in_doubt = false; may_wait = false }

-- a statement that fails leaves all as it was, or rolls back
pub write_fails : (text : List ℕ) (params : Row) (old new : State) (e : Error) → Executes text params old new (Err e) → IsUnchanged old new ⊎ IsRolledBack old new
unfolding ExecutesIn IsNotRun
write_fails text params old new e (inl (inl h)) = inl h.1
write_fails text params old new e (inl (inr h)) = inr h.3
write_fails text params old new e (inr h) = elim (cases_Bool (shows_rows false h.0)) [
  | inl shows ↦ inl (rw shows at h.2).1
  | inr runs ↦ elim (rw runs at h.2) [ inl refused ↦ inl refused.1 | inr failed ↦ inr failed.3 ]
]

-- A connection was open before a command that ran, if so it was before one that rolled back.
ran_open : (old new : State) (returning : Option Returning) (command : Command) (text : List ℕ) (params : Row) (count : ℕ) → (IsTrue old.in_transaction → IsRolledBack old new → IsTrue old.is_open) → Runs old new returning command text params count → IsTrue old.is_open
ran_open old new r (Select q names) text params count back h = absurd h
ran_open old new r (Insert at from) text params count back h = h.shown.was_open
ran_open old new r (InsertOr at how from clauses) text params count back h = h.shown.was_open
ran_open old new r (Update at q) text params count back h = h.shown.was_open
ran_open old new r (Delete at q) text params count back h = h.shown.was_open
ran_open old new r CreateTable text params count back h = h.shown.was_open
ran_open old new r (CreateIndex at) text params count back h = h.shown.was_open
ran_open old new r (DropTable at) text params count back h = h.shown.was_open
ran_open old new r (DropIndex at) text params count back h = h.shown.was_open
ran_open old new r Begin text params count back h = h.1.was_open
ran_open old new r Commit text params count back h = h.1.was_open
ran_open old new r Rollback text params count back h = back h.0 h.1
ran_open old new r (Savepoint name) text params count back h = h.0.0.was_open
ran_open old new r (Release name) text params count back h = elim h.2 [ inl commits ↦ commits.1.0.was_open | inr drops ↦ drops.1.0.was_open ]
ran_open old new r (RollbackTo name) text params count back h = h.2.2.was_open
ran_open old new r (Rows values width names) text params count back h = h.0.0.was_open
ran_open old new r Nothing text params count back h = h.0.0.was_open
ran_open old new r CreateView text params count back h = h.shown.was_open
ran_open old new r (DropView at) text params count back h = h.shown.was_open

pub was_open : (text : List ℕ) (params : Row) (old new : State) (r : Result ℕ Error) → Executes text params old new r → IsTrue new.is_open → IsTrue old.is_open
unfolding ExecutesIn
was_open text params old new (Ok count) h is_open = elim (cases_Bool (shows_rows false h.0)) [
  | inl shows ↦ absurd (let e = (rw shows at h.2).0 in cc)
  | inr runs ↦ ran_open old new h.0.returning h.0.command _ _ count (λ inside back. back.was_open is_open) (rw runs at h.2)
]
was_open text params old new (Err e) h is_open = elim (write_fails text params old new e h) [ inl same ↦ same.0.was_open | inr back ↦ back.was_open is_open ]

-- what is done outside a transaction, is done to an open connection
pub done_was_open : (text : List ℕ) (params : Row) (old new : State) (count : ℕ) → old.in_transaction ≡ false → Executes text params old new (Ok count) → IsTrue old.is_open
unfolding ExecutesIn
done_was_open text params old new count outside h = elim (cases_Bool (shows_rows false h.0)) [
  | inl shows ↦ absurd (let e = (rw shows at h.2).0 in cc)
  | inr runs ↦ ran_open old new h.0.returning h.0.command _ _ count (λ inside back. absurd (true≢false (sym inside ∙ outside))) (rw runs at h.2)
]

-- nothing was committed
keeps_commit : (old new : State) → IsUnchanged old new ⊎ IsRolledBack old new → KeepsCommit old new
keeps_commit old new (inl same) = record { was_open = λ _. same.0.was_open; committed = λ _. same.0.committed_is }
keeps_commit old new (inr back) = record { was_open = back.was_open; committed = λ is_open. (back.undone is_open).1 }

pub inside_keeps : (text : List ℕ) (params : Row) (old new : State) (r : Result ℕ Error) → ExecutesInside 0 text params old new r → KeepsCommit old new
inside_keeps text params old new (Ok count) h = record { was_open = λ _. h.1.was_open; committed = λ _. h.1.committed_is }
inside_keeps text params old new (Err e) (inl h) = keeps_commit old new h.1
inside_keeps text params old new (Err e) (inr h) = keeps_commit old new (inl h.2)

-- Over this schema the text is one command, which writes.
pub record IsWrite (schema : Schema) (text : List ℕ) (command : Command) : Type 1 where
  pub is : command_of (understood schema text) ≡ command
  pub plain : IsPlain (understood schema text)
  pub writes : (old new : State) (statement : List ℕ) (params : Row) (count : ℕ) → Runs old new None command statement params count → Writes old new None command statement params count
  pub no_commit : ¬ (command ≡ Commit)
  pub no_release : (name : List ℕ) → ¬ (command ≡ Release name)

module _ (schema : Schema) (text : List ℕ) (command : Command) (write : IsWrite schema text command) (params : Row) where
  abbrev pub statement : List ℕ
  statement = statement_of text (understood schema text)

  -- what the command makes of a database of which Before holds
  abbrev pub Makes : (Database → Type 0) → (Database → Type 0) → Type 0
  Makes Before After = (limit : Option ℕ) (db after : Database) (tally : Tally) → Before db → Does limit plain_mode params db statement None command (Ok (tally, after)) → IsDatabase after → After after

  pub ran : (old new : State) (count : ℕ) → old.now.schema ≡ schema → Executes text params old new (Ok count) → Writes old new None command statement params count
  ran old new count has h = write.writes old new statement params count (runs_as text params old new schema has command write.is write.plain count h)

  commits_as : (old : State) (trees : Trees) → old.now.schema ≡ schema → CommitsBy text params old trees → MayCommit old None command statement params trees
  unfolding CommitsBy
  commits_as old trees has h =
      let known = sym h.1.is ∙ ap (λ s. understood s text) has in
      let bare = subst IsPlain (sym known) write.plain in
      subst₂ (λ k t. MayCommit old None k t params trees) (ap command_of known ∙ write.is) (ap (statement_of text) known) (rw (bare.0, bare.1, append-nil params) at h.2)

  -- what it commits, outside a transaction, is what it makes
  pub committed : (Before After : Database → Type 0) → Makes Before After → (old : State) (trees : Trees) → old.now.schema ≡ schema → Before old.now → CommitsBy text params old trees → (db : Database) × After db × (trees ≡ db.trees)
  committed Before After makes old trees has held h = elim (commits_as old trees has h) [
    | inl marks ↦ elim marks.0 [ inl commit ↦ absurd (write.no_commit commit) | inr release ↦ absurd (write.no_release release.0 release.2) ]
    | inr writes ↦ (writes.2, makes old.step_limit old.now writes.2 writes.1 held writes.3 writes.4, writes.5)
  ]
