-- What calls do to a connection, whatever its tables are.
use Rattle.std.specs.Prelude.{◌≡◌, ◌⊎◌, ◌≤◌, ℕ, List, false, IsTrue, Result, OnOk, OnErr, IfOk, IfErr}
use Rattle.sqlite_disk.specs.Disk.{MoreFaults}
use Rattle.sqlite.specs.Tree.{Trees}
use Rattle.sqlite.specs.Store.{Ghosts}
use Rattle.sqlite.specs.Schema.{Schema}
use Rattle.sqlite.specs.Given.{IsPlain}
use Rattle.sqlite.specs.Listing.{understood}
use Rattle.sqlite.specs.Effect.{Database}
use Rattle.sqlite.specs.State.{State, HasCleanDisk, Survives, KeepsCommit}
use Rattle.sqlite.specs.Held.{Held, state}

-- Outside a transaction, with nothing to commit, and this is true of the database.
pub record RestsIn (P : Database → Type 0) (s : State) : Type 0 where
  pub settled : s.committed ≡ s.now
  pub autocommit : s.in_transaction ≡ false
  pub holds : P s.now

module _ {S : Type 0} (g : Ghosts S) (h : Held S) where
  -- the connection is open
  abbrev pub IsOpen : Type 0
  IsOpen = IsTrue (state g h).is_open

  -- so far nothing else has written the files, and the disk has returned what was written
  abbrev pub IsClean : Type 0
  IsClean = HasCleanDisk (state g h)

-- What every call does to its connection, whatever it answers. Only a connection that was open is open, and
-- only a disk that was clean is clean. No fault of the disk is forgotten, and where the disk is clean only a
-- fault of it shuts the connection. The limit of steps stays.
pub record Lasts {S : Type 0} (g : Ghosts S) (old new : Held S) : Type 0 where
  pub was_open : IsOpen g new → IsOpen g old
  pub clean : IsClean g new → IsClean g old
  pub faults : (state g old).faults ≤ (state g new).faults
  pub closes : IsOpen g old → IsClean g new → IsOpen g new ⊎ MoreFaults (state g old).faults (state g new).faults
  pub limit : (state g new).step_limit ≡ (state g old).step_limit

-- After Ok the connection is open, where the disk has returned what was written.
abbrev pub LeavesOpen : {S T X : Type 0} → Ghosts S → Held S → Result T X → Type 0
LeavesOpen g new result = IsClean g new → OnOk result (IsOpen g new)

-- a crash leaves what it left before
abbrev pub LeavesOld : {S : Type 0} → Ghosts S → Held S → Held S → Type 0
LeavesOld g old new = IsOpen g old → IsClean g new → (left : Trees) → g.recovers new.store left → g.recovers old.store left

-- The connection was open, and shows the database that it showed.
pub record IsUntouched {S : Type 0} (g : Ghosts S) (old new : Held S) : Type 0 where
  pub was_open : IsOpen g old
  pub now : (state g new).now ≡ (state g old).now
  pub committed : (state g new).committed ≡ (state g old).committed
  pub autocommit : (state g new).in_transaction ≡ (state g old).in_transaction

-- ---- inside

-- The connection has these tables and is outside a transaction, and the last commit is what is seen.
pub record RestsOver (over : Schema) (s : State) : Type 0 where
  pub schema : s.now.schema ≡ over
  pub settled : s.committed ≡ s.now
  pub autocommit : s.in_transaction ≡ false

-- The same over tables of which the text asks something, and changes nothing.
pub record IsReadable (text : List ℕ) (s : State) : Type 0 where
  pub over : Schema
  pub rests : RestsOver over s
  pub plain : IsPlain (understood over text)

-- A query. Where the connection is open at the end, it shows what it did.
pub record Stays {S : Type 0} (g : Ghosts S) (old new : Held S) : Type 0 where
  pub lasts : Lasts g old new
  pub now : IsOpen g new → (state g new).now ≡ (state g old).now
  pub committed : IsOpen g new → (state g new).committed ≡ (state g old).committed
  pub autocommit : IsOpen g new → (state g new).in_transaction ≡ false
  pub quiet : LeavesOld g old new

-- A query, and what it answers, or one error.
pub record Asks {S T X : Type 0} (g : Ghosts S) (old new : Held S) (result : Result T X) (only : X) (Answers : T → Type 0) : Type 0 where
  pub stays : Stays g old new
  pub answer : IsOpen g new → IfOk result Answers
  pub ends_open : LeavesOpen g new result
  pub fault : IfErr result (λ fault. fault ≡ only)

-- A call inside a transaction, from a database of which Before holds. Nothing is committed, and after Ok
-- the transaction goes on, with a database of which After holds.
pub record Moves {S T X : Type 0} (g : Ghosts S) (old new : Held S) (Before After : Database → Type 0) (result : Result T X) : Type 0 where
  pub quiet : Survives (state g old) (state g new) (λ _. ⊥)
  pub kept : IsClean g new → KeepsCommit (state g old) (state g new)
  pub ok : IsClean g new → IsOpen g old → IsTrue old.in_transaction → Before (state g old).now → OnOk result (IsOpen g new × IsTrue new.in_transaction × After (state g new).now)

-- A transaction: after Ok a database of which After holds is there and committed, and after an error the
-- old one.
pub record Turns {S T X : Type 0} (g : Ghosts S) (old new : Held S) (After : Database → Type 0) (result : Result T X) : Type 0 where
  pub lasts : Lasts g old new
  pub ok : IsOpen g new → OnOk result (RestsIn After (state g new))
  pub err : IsOpen g new → OnErr result (RestsIn (λ db. db ≡ (state g old).now) (state g new))
  pub ends_open : LeavesOpen g new result
  pub crash : IsOpen g old → IsClean g new → (left : Trees) → g.recovers new.store left → g.recovers old.store left ⊎ ((db : Database) × After db × (left ≡ db.trees))
