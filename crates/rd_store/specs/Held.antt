-- What a store holds, what a call makes of it, and what a crash leaves.
use Rattle.std.specs.Prelude.{◌≡◌, ◌⊎◌, ℕ, List, None, IsTrue, Result, Ok, Err, OnOk, OnErr, IfOk, ⊤}
use Rattle.std.specs.FinMap.{FinMap, get}
use Rattle.sqlite.specs.Tree.{Trees}
use Rattle.sqlite.specs.Store.{Ghosts}
use Rattle.sqlite.specs.Table.{Table}
use Rattle.sqlite.specs.Effect.{Database, IsDatabase}
use Rattle.sqlite.specs.State.{State}
use Rattle.sqlite.specs.Held.{Held, state}
use Rattle.rd_volume.specs.declared.found.Found.{Found}
pub use Rattle.rd_tables.specs.Connections.{IsClean, IsOpen, IsUntouched, Lasts, LeavesOld, LeavesOpen}
use Rattle.rd_tables.specs.Connections.{RestsOver}
use Rattle.rd_tables.specs.Schemas.{desk_schema, desk_with}
use Rattle.rd_store.specs.declared.faults.StoreFault.{StoreFault}
use Rattle.rd_store.specs.declared.faults.StoreFault.TheVariants.{Sql, Missing, Conflict}
use Rattle.rd_holdings.specs.State.{Desk}
use Rattle.rd_holdings.specs.Lawful.{IsLawful}
use Rattle.rd_store.specs.Index.{AreFilesIn, IsIndexOf, file_cmp}
use Rattle.rd_store.specs.Spelled.{SpellDesk, HaveOwnRowids, desk_of, index_of}

-- The database has the tables of a desk, and their rows spell this one, and an index of which this is true.
pub record IsDeskWith (desk : Desk) (Index : FinMap file_cmp Found → Type 0) (db : Database) : Type 0 where
  pub schema : db.schema ≡ desk_schema
  pub rows : SpellDesk 2 db.trees
  pub rowids : HaveOwnRowids db.trees
  pub sound : IsDatabase db
  pub is : desk_of db.trees ≡ desk
  pub index : Index (index_of db.trees)

-- the database has the tables of a desk, their rows spell this one, and the index is that of its images
abbrev pub IsOf : Desk → Database → Type 0
IsOf desk = IsDeskWith desk (IsIndexOf desk.images)

-- the database is that of a desk, which has no image at an accession
abbrev pub LacksImage : ℕ → Desk → Database → Type 0
LacksImage acc desk db = IsOf desk db × (get desk.images acc ≡ None)

-- The database is that of a desk, which is a lawful one.
pub record Holds (desk : Desk) (db : Database) : Type 0 where
  pub of : IsOf desk db
  pub lawful : IsLawful desk

-- trees that a crash left hold this desk
abbrev pub IsLeft : Desk → Trees → Type 0
IsLeft desk left = Holds desk (record { schema = desk_schema; trees = left })

-- The connection rests over the tables that each version has, and what may follow them.
pub record HasCommonTables (s : State) : Type 0 where
  pub more : List Table
  pub rests : RestsOver (desk_with more) s

-- while the connection is open, it rests over the tables that each version has
abbrev pub HoldsCommonTables : State → Type 0
HoldsCommonTables s = IsTrue s.is_open → HasCommonTables s

-- between two calls they are the tables of a desk
abbrev pub HasTables : State → Type 0
HasTables = RestsOver desk_schema

-- while the connection is open, its tables are those of a desk
abbrev pub HoldsTables : State → Type 0
HoldsTables s = IsTrue s.is_open → HasTables s

-- The tables are those of a desk, and the desk that their rows spell is a lawful one, with its index.
pub record IsDeskAt (s : State) : Type 0 where
  pub tables : HasTables s
  pub holds : Holds (desk_of s.now.trees) s.now

-- what a store keeps true of its connection: while it is open, it is outside a transaction, all that it shows is
-- committed, and that is a lawful desk; of one that a fault of the disk has shut nothing is known
abbrev pub HoldsDesk : State → Type 0
HoldsDesk s = IsTrue s.is_open → IsDeskAt s

module _ {S : Type 0} (g : Ghosts S) (h : Held S) where
  -- the desk that a connection shows
  abbrev pub desk : Desk
  desk = desk_of (state g h).now.trees

  -- a crash leaves this desk and nothing else
  abbrev pub LeavesOnly : Desk → Type 0
  LeavesOnly d = (left : Trees) → g.recovers h.store left → IsLeft d left

-- A connection at rest. While it is open, its tables are those of a desk, the desk is a lawful one, the files of
-- each of its images can be listed, and a crash leaves that desk and nothing else.
pub record IsAtRest {S : Type 0} (g : Ghosts S) (h : Held S) : Type 0 where
  pub tables : IsOpen g h → (state g h).now.schema ≡ desk_schema
  pub lawful : IsOpen g h → IsLawful (desk g h)
  pub files : IsOpen g h → (acc : ℕ) → (files : List Found) × AreFilesIn (get (desk g h).images acc) files
  pub leaves : IsOpen g h → LeavesOnly g h (desk g h)

-- A call that changes the desk to this one. Where the connection is open at the end, the desk is the new one
-- after Ok and the old one after an error, and a crash leaves it and nothing else. Where it was open, and the
-- disk has returned what was written, a crash leaves one of the two.
pub record Changes {S T X : Type 0} (g : Ghosts S) (old new : Held S) (after : Desk) (result : Result T X) : Type 0 where
  pub lasts : Lasts g old new
  pub ok : IsOpen g new → OnOk result (desk g new ≡ after)
  pub err : IsOpen g new → OnErr result (desk g new ≡ desk g old)
  pub ends_open : LeavesOpen g new result
  pub crash : IsOpen g old → IsClean g new → (left : Trees) → g.recovers new.store left → IsLeft (desk g old) left ⊎ IsLeft after left
  pub durable : IsOpen g new → LeavesOnly g new (desk g new)

-- A call that leaves the desk as it was. Where the connection is open at the end, a crash leaves this desk and
-- nothing else; so it does where the connection was open at the beginning, and the disk has returned what was
-- written.
pub record Keeps {S : Type 0} (g : Ghosts S) (old new : Held S) : Type 0 where
  pub lasts : Lasts g old new
  pub same : IsOpen g new → desk g new ≡ desk g old
  pub crash : IsOpen g old → IsClean g new → LeavesOnly g new (desk g old)
  pub durable : IsOpen g new → LeavesOnly g new (desk g new)

-- A call that reads, and answers this of the desk, or fails. It keeps the desk; after Ok the connection is open,
-- where the disk has returned what was written.
pub record Reads {S T X : Type 0} (g : Ghosts S) (old new : Held S) (result : Result T X) (Answers : T → Type 0) : Type 0 where
  pub keeps : Keeps g old new
  pub answer : IsOpen g new → IfOk result Answers
  pub ends_open : LeavesOpen g new result

-- Missing exactly where something is not there, then Conflict exactly where something conflicts.
abbrev pub IsJudged : {T : Type 0} → Type 0 → Type 0 → Result T StoreFault → Type 0
IsJudged IsThere Conflicts (Ok value) = IsThere × ¬ Conflicts
IsJudged IsThere Conflicts (Err Missing) = ¬ IsThere
IsJudged IsThere Conflicts (Err Conflict) = IsThere × Conflicts
IsJudged IsThere Conflicts (Err Sql) = ⊤

-- an answer of the desk, and not of the database
abbrev pub IsAnswered : {T : Type 0} → Result T StoreFault → Type 0 → Type 0
IsAnswered (Err Sql) P = ⊤
IsAnswered result P = P

-- Why a call is refused, where the connection is open at the end; and after such an answer it is open, where the disk
-- has returned what was written. Sql may be answered at any time, and says nothing of why.
pub record Judges {S T : Type 0} (g : Ghosts S) (new : Held S) (result : Result T StoreFault) (IsThere Conflicts : Type 0) : Type 0 where
  pub why : IsOpen g new → IsJudged IsThere Conflicts result
  pub ends_open : IsClean g new → IsAnswered result (IsOpen g new)
