-- A new desk, and what becomes of the database in which it is made.
use Rattle.std.specs.Prelude.{◌≡◌, ◌⊎◌, ℕ, List, [], MatchBool}
use Rattle.std.specs.List.{AllByRecursion}
use Rattle.std.specs.FinMap.{from_entries}
use Rattle.sqlite.specs.Tree.{Trees}
use Rattle.sqlite.specs.Store.{Ghosts}
use Rattle.sqlite.specs.Effect.{Database, IsDatabase}
use Rattle.sqlite.specs.Held.{Held, state}
use Rattle.rd_policy.specs.declared.audience.Audience.TheVariants.{Staff}
use Rattle.rd_tables.specs.Schemas.{IsBlank, has_desk}
use Rattle.rd_tables.specs.Statements.{schema_after}
use Rattle.rd_store.specs.declared.faults.CreateFault.{CreateFault}
use Rattle.rd_store.specs.declared.faults.CreateFault.TheVariants.{Exists, Sql}
use Rattle.rd_holdings.specs.State.{Desk, with_key}
use Rattle.rd_store.specs.Held.{IsOpen, IsClean, IsLeft, IsUntouched, Lasts, LeavesOld, LeavesOnly, desk as desk_at}

-- nothing at all
abbrev pub empty_desk : Desk
empty_desk = record { deeds = from_entries []; images = from_entries []; rules = from_entries []; keys = from_entries []; checks = from_entries [] }

-- the one staff key
abbrev pub new_desk : List ℕ → Desk
new_desk staff = with_key staff Staff empty_desk

-- a crash leaves what it left before, or this desk
abbrev pub LeavesOldOrNew : {S : Type 0} → Ghosts S → Held S → Held S → Desk → Type 0
LeavesOldOrNew g old new desk = IsOpen g old → IsClean g new → (left : Trees) → g.recovers new.store left → g.recovers old.store left ⊎ IsLeft desk left

-- A desk was made, where no table stood, with this one staff key.
pub record IsCreated {S : Type 0} (g : Ghosts S) (old new : Held S) (staff : List ℕ) : Type 0 where
  pub lasts : Lasts g old new
  pub blank : IsBlank old.schema
  pub is : IsOpen g new → desk_at g new ≡ new_desk staff
  pub ends_open : IsClean g new → IsOpen g new
  pub crash : LeavesOldOrNew g old new (new_desk staff)
  pub durable : IsOpen g new → LeavesOnly g new (new_desk staff)

-- No desk was made: Exists exactly where a table `desk` stands, and then nothing was done; nor was anything done
-- where any table, index or view stands. Where the connection is open, its database is as it was, and a crash
-- leaves what it left before.
pub record IsNotCreated {S : Type 0} (g : Ghosts S) (old new : Held S) (staff : List ℕ) (fault : CreateFault) : Type 0 where
  pub lasts : Lasts g old new
  pub exists : MatchBool (has_desk old.schema) (fault ≡ Exists) (fault ≡ Sql)
  pub same : fault ≡ Exists → new ≡ old
  pub occupied : ¬ IsBlank old.schema → new ≡ old
  pub untouched : IsOpen g new → IsUntouched g old new
  pub durable : IsOpen g new → LeavesOld g old new
  pub crash : LeavesOldOrNew g old new (new_desk staff)

-- ---- inside

-- So many of the tables are made, all empty.
pub record HasFirstTables (count : ℕ) (db : Database) : Type 0 where
  pub schema : db.schema ≡ schema_after count
  pub empty : AllByRecursion (λ table. db.trees table.tree ≡ []) (schema_after count).tables
  pub sound : IsDatabase db
