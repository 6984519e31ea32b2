-- What becomes of a database whose tables may be those of version 1 and are brought to version 2.
use Rattle.std.specs.Prelude.{◌≡◌, ◌≢◌, ◌⊎◌, true, false, MatchBool}
use Rattle.sqlite.specs.Tree.{Trees}
use Rattle.sqlite.specs.Store.{Ghosts}
use Rattle.sqlite.specs.Schema.{Schema}
use Rattle.sqlite.specs.Effect.{Database, IsDatabase}
use Rattle.sqlite.specs.Held.{Held, state}
use Rattle.rd_tables.specs.Schemas.{desk_schema, first_schema, has_desk_columns, has_foreign_desk, may_be_desk}
use Rattle.rd_store.specs.declared.faults.OpenFault.{OpenFault}
use Rattle.rd_store.specs.declared.faults.OpenFault.TheVariants.{NotADesk, Version as OtherVersion, Inconsistent, Sql}
use Rattle.rd_store.specs.declared.version.Version.{Version}
use Rattle.rd_store.specs.declared.version.Version.TheVariants.{First, Second}
use Rattle.rd_store.specs.declared.register.Register.{Register}
use Rattle.rd_holdings.specs.State.{Desk}
use Rattle.rd_holdings.specs.Lawful.{IsLawful}
use Rattle.rd_store.specs.Index.{IsIndexOf}
use Rattle.rd_store.specs.Spelled.{SpellDesk, HasVersion, HaveOwnRowids, desk_of, index_of, unmarked}
use Rattle.rd_store.specs.Register.{listed, register_of}
use Rattle.rd_tables.specs.Connections.{IsUntouched}
use Rattle.rd_store.specs.Held.{IsOpen, IsClean, IsLeft, Lasts, LeavesOld, LeavesOnly, desk as desk_at}
use Rattle.rd_store.specs.Opened.{Says, IsConsistent, IsConsistentAs, IsHeld}

-- the desk that the tables of version 1 spell
abbrev pub first_desk : Trees → Desk
first_desk trees = desk_of (unmarked trees)

-- the tables are those of version 1, and their rows are consistent
abbrev pub IsFirstConsistent : Database → Type 0
IsFirstConsistent db = (db.schema ≡ first_schema) × IsConsistentAs 1 (unmarked db.trees)

-- or those of version 2
abbrev pub IsSecondConsistent : Database → Type 0
IsSecondConsistent db = (db.schema ≡ desk_schema) × IsConsistent db.trees

-- consistent tables of version 1 or of version 2 spell this desk
abbrev pub SpellsDesk : Database → Desk → Type 0
SpellsDesk db desk = (IsFirstConsistent db × (first_desk db.trees ≡ desk)) ⊎ (IsSecondConsistent db × (desk_of db.trees ≡ desk))

-- what is told of a database by each refusal; why Sql is answered is not told
abbrev pub RefusesEach : OpenFault → Database → Type 0
RefusesEach NotADesk db = may_be_desk db.schema ≡ false
RefusesEach OtherVersion db = (has_desk_columns db.schema ≡ true) × Says (λ rows. (¬ HasVersion 1 rows) × (¬ HasVersion 2 rows)) db
RefusesEach Inconsistent db =
    ((db.schema ≡ first_schema) × HasVersion 1 (db.trees 0) × ¬ IsConsistentAs 1 (unmarked db.trees)) ⊎ ((db.schema ≡ desk_schema) × HasVersion 2 (db.trees 0) × ¬ IsConsistent db.trees)
RefusesEach Sql db = may_be_desk db.schema ≡ true

-- where the tables were those of version 1, and their rows consistent, their desk in those of version 2
abbrev pub IsMigration : Database → Trees → Type 0
IsMigration db left = IsFirstConsistent db × IsLeft (first_desk db.trees) left

-- a crash leaves what it left before, or that
abbrev pub LeavesOldOrMigrated : {S : Type 0} → Ghosts S → Held S → Held S → Type 0
LeavesOldOrMigrated g old new = IsOpen g old → IsClean g new → (left : Trees) → g.recovers new.store left → g.recovers old.store left ⊎ IsMigration (state g old).now left

-- A desk was opened, after its tables were brought to version 2: it is the one that stood. Where the connection is
-- open, the tables are those of version 2, and their rows consistent. Tables of version 2 are as they were.
pub record IsMigrated {S : Type 0} (g : Ghosts S) (old new : Held S) : Type 0 where
  pub lasts : Lasts g old new
  pub named : has_desk_columns old.schema ≡ true
  pub plain : has_foreign_desk old.schema ≡ false
  pub is : IsOpen g new → SpellsDesk (state g old).now (desk_at g new)
  pub tables : IsOpen g new → IsSecondConsistent (state g new).now
  pub untouched : IsOpen g new → (state g old).now.schema ≡ desk_schema → IsUntouched g old new
  pub ends_open : IsClean g new → IsOpen g new
  pub crash : LeavesOldOrMigrated g old new
  pub durable : IsOpen g new → LeavesOnly g new (desk_at g new)

-- No desk was opened: NotADesk exactly where no table `desk` with its columns stands, nor one whose columns
-- are not told, and then nothing was done; where there is one whose columns are not told it is Sql. After Version
-- and Inconsistent the connection is open, where the disk has returned what was written. Where it is open, its
-- database is as it was, and a crash leaves what it left before; so it does after each refusal but Sql.
pub record IsNotMigrated {S : Type 0} (g : Ghosts S) (old new : Held S) (fault : OpenFault) : Type 0 where
  pub lasts : Lasts g old new
  pub no_desk : MatchBool (may_be_desk old.schema) (fault ≢ NotADesk) (fault ≡ NotADesk)
  pub foreign : has_foreign_desk old.schema ≡ true → fault ≡ Sql
  pub refused : IsOpen g new → RefusesEach fault (state g old).now
  pub same : fault ≡ NotADesk → new ≡ old
  pub untouched : IsOpen g new → IsUntouched g old new
  pub ends_open : fault ≢ NotADesk → fault ≢ Sql → IsClean g new → IsOpen g new
  pub quiet : fault ≢ Sql → LeavesOld g old new
  pub durable : IsOpen g new → LeavesOld g old new
  pub crash : LeavesOldOrMigrated g old new

-- ---- inside

-- Over these tables the rows spell this desk, and say version 1.
pub record IsOfFirst (over : Schema) (read_as : Trees → Trees) (desk : Desk) (db : Database) : Type 0 where
  pub schema : db.schema ≡ over
  pub rows : SpellDesk 1 (read_as db.trees)
  pub rowids : HaveOwnRowids db.trees
  pub sound : IsDatabase db
  pub is : desk_of (read_as db.trees) ≡ desk
  pub index : IsIndexOf desk.images (index_of db.trees)

-- in the tables of version 1
abbrev pub IsFirst : Desk → Database → Type 0
IsFirst = IsOfFirst first_schema unmarked

-- the table of error bytes is made, and the version is still 1
abbrev pub IsHalfway : Desk → Database → Type 0
IsHalfway = IsOfFirst desk_schema (λ trees. trees)

-- The desk that the tables of version 1 spell is a lawful one.
pub record IsHeldFirst (db : Database) : Type 0 where
  pub of : IsFirst (first_desk db.trees) db
  pub lawful : IsLawful (first_desk db.trees)

-- in the tables of this version
abbrev pub IsHeldIn : Version → Database → Type 0
IsHeldIn First = IsHeldFirst
IsHeldIn Second = IsHeld

-- the desk that the tables of this version spell
abbrev pub desk_in : Version → Trees → Desk
desk_in First trees = first_desk trees
desk_in Second trees = desk_of trees

-- the register is that of its images
abbrev pub IsRegisterIn : Version → Trees → Register → Type 0
IsRegisterIn version trees register = listed register ≡ register_of (desk_in version trees).images
