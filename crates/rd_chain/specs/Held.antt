-- What a chain holds, what a call makes of it, and what a crash leaves.
use Rattle.std.specs.Prelude.{◌≡◌, ◌≢◌, ◌⊎◌, ◌+◌, ◌<◌, ◌++◌, ℕ, List, [], drop, length, map, take, IsTrue, Result, Vec, Err, IfErr, IfOk, OnOk, OnErr}
use Rattle.std.specs.declared.alloc.Global.{Global}
use Rattle.sqlite.specs.Tree.{Trees}
use Rattle.sqlite.specs.Store.{Ghosts}
use Rattle.sqlite.specs.State.{State}
use Rattle.sqlite.specs.Effect.{Database}
use Rattle.sqlite.specs.Held.{Held, state}
use Rattle.rd_tables.specs.Connections.{IsClean, IsOpen, IsUntouched, Lasts, LeavesOld, LeavesOpen, RestsIn}
use Rattle.rd_tables.specs.Schemas.{IsBlank}
use Rattle.rd_chain.specs.Rows.{IsChain, IsChainOf, MOST_LINES, MOST_READ, columns_of, history_schema, lines_of, row_of}
use Rattle.rd_chain.specs.declared.faults.ChainFault.{ChainFault}
use Rattle.rd_chain.specs.declared.faults.ChainFault.TheVariants.{Full, Sql}
use Rattle.rd_chain.specs.declared.faults.CreateFault.{CreateFault}
use Rattle.rd_chain.specs.declared.faults.CreateFault.TheVariants.{Occupied}
use Rattle.rd_chain.specs.declared.faults.OpenFault.{OpenFault}
use Rattle.rd_chain.specs.declared.faults.OpenFault.TheVariants.{Broken, NotAChain}
use Rattle.rd_chain.specs.declared.read.SummedLine.{SummedLine}

-- what a chain keeps true of its connection: while it is open, its database is that of a chain, all of it committed; of
-- one that a fault of the disk has shut nothing is known
abbrev pub HoldsChain : State → Type 0
HoldsChain s = IsTrue s.is_open → RestsIn IsChain s

module _ {S : Type 0} (g : Ghosts S) (h : Held S) where
  -- the lines that a connection shows
  abbrev pub lines : List (List ℕ)
  lines = lines_of (state g h).now.trees

-- trees that a crash left are the chain of these lines
abbrev pub IsLeft : List (List ℕ) → Trees → Type 0
IsLeft these left = IsChainOf these (record { schema = history_schema; trees = left })

-- a crash leaves these lines and nothing else
abbrev pub LeavesOnly : {S : Type 0} → Ghosts S → Held S → List (List ℕ) → Type 0
LeavesOnly g h these = (left : Trees) → g.recovers h.store left → IsLeft these left

-- A connection at rest. While it is open, its database is the chain of its lines, and a crash leaves them and nothing
-- else.
pub record IsAtRest {S : Type 0} (g : Ghosts S) (h : Held S) : Type 0 where
  pub chain : IsOpen g h → IsChainOf (lines g h) (state g h).now
  pub leaves : IsOpen g h → LeavesOnly g h (lines g h)

-- A call that puts more lines at the end. Where the connection is open at the end, they are there after Ok, and after
-- an error the lines are the old ones; a crash leaves what is there and nothing else. Where it was open, and the disk
-- has returned what was written, a crash leaves the lines before or those after.
pub record Appends {S T X : Type 0} (g : Ghosts S) (old new : Held S) (more : List (List ℕ)) (result : Result T X) : Type 0 where
  pub lasts : Lasts g old new
  pub ok : IsOpen g new → OnOk result (lines g new ≡ lines g old ++ more)
  pub err : IsOpen g new → OnErr result (lines g new ≡ lines g old)
  pub ends_open : LeavesOpen g new result
  pub crash : IsOpen g old → IsClean g new → (left : Trees) → g.recovers new.store left → IsLeft (lines g old) left ⊎ IsLeft (lines g old ++ more) left
  pub durable : IsOpen g new → LeavesOnly g new (lines g new)

-- Full exactly where there is no room for so many lines more, and then nothing was done.
pub record IsFullFor {S T : Type 0} (g : Ghosts S) (old new : Held S) (count : ℕ) (result : Result T ChainFault) : Type 0 where
  pub full : IsOpen g old → MOST_LINES < length (lines g old) + count → result ≡ Err Full
  pub room : IsOpen g old → result ≡ Err Full → MOST_LINES < length (lines g old) + count
  pub same : result ≡ Err Full → new ≡ old

-- a crash leaves what it left before, or a chain without lines
abbrev pub LeavesOldOrNew : {S : Type 0} → Ghosts S → Held S → Held S → Type 0
LeavesOldOrNew g old new = IsOpen g old → IsClean g new → (left : Trees) → g.recovers new.store left → g.recovers old.store left ⊎ IsLeft [] left

-- A chain without lines was made, where no table stood.
pub record IsCreated {S : Type 0} (g : Ghosts S) (old new : Held S) : Type 0 where
  pub lasts : Lasts g old new
  pub blank : IsBlank old.schema
  pub empty : IsOpen g new → lines g new ≡ []
  pub ends_open : IsClean g new → IsOpen g new
  pub crash : LeavesOldOrNew g old new
  pub durable : IsOpen g new → LeavesOnly g new []

-- No chain was made: Occupied exactly where a table, an index or a view stands, and then nothing was done. Where the
-- connection is open, its database is as it was, and a crash leaves what it left before.
pub record IsNotCreated {S : Type 0} (g : Ghosts S) (old new : Held S) (fault : CreateFault) : Type 0 where
  pub lasts : Lasts g old new
  pub occupied : ¬ IsBlank old.schema → fault ≡ Occupied
  pub blank : IsBlank old.schema → fault ≢ Occupied
  pub same : fault ≡ Occupied → new ≡ old
  pub untouched : IsOpen g new → IsUntouched g old new
  pub durable : IsOpen g new → LeavesOld g old new
  pub crash : LeavesOldOrNew g old new

-- A call that changes nothing. Where the connection is open at the end, it shows the database that it showed, and a
-- crash leaves what it left before.
pub record Keeps {S : Type 0} (g : Ghosts S) (old new : Held S) : Type 0 where
  pub lasts : Lasts g old new
  pub untouched : IsOpen g new → IsUntouched g old new
  pub crash : LeavesOld g old new

-- A chain was opened of whose database this is true, and nothing else was done.
pub record IsOpened {S : Type 0} (g : Ghosts S) (Holds : Database → Type 0) (old new : Held S) : Type 0 where
  pub keeps : Keeps g old new
  pub schema : old.schema ≡ history_schema
  pub holds : IsOpen g new → Holds (state g old).now
  pub ends_open : IsClean g new → IsOpen g new
  pub durable : IsOpen g new → LeavesOnly g new (lines g new)

-- No chain was opened, and nothing else was done: NotAChain exactly where the tables are not those of a chain, and Broken
-- only where this is not true of the database.
pub record IsNotOpened {S : Type 0} (g : Ghosts S) (Holds : Database → Type 0) (old new : Held S) (fault : OpenFault) : Type 0 where
  pub keeps : Keeps g old new
  pub other : old.schema ≢ history_schema → fault ≡ NotAChain
  pub schema : old.schema ≡ history_schema → fault ≢ NotAChain
  pub same : fault ≡ NotAChain → new ≡ old
  pub broken : IsOpen g new → fault ≡ Broken → ¬ Holds (state g old).now
  pub ends_open : fault ≡ Broken → IsClean g new → IsOpen g new

-- A call that reads lines and changes nothing: where the connection is open at the end, it tells after Ok the first 200
-- after a number, or all of them.
pub record ReadsAfter {S : Type 0} (g : Ghosts S) (old new : Held S) (number : ℕ) (result : Result (Vec SummedLine Global) ChainFault) : Type 0 where
  pub keeps : Keeps g old new
  pub answer : IsOpen g new → IfOk result (λ found. map row_of found.items ≡ take MOST_READ (drop number (columns_of (lines g old))))
  pub fault : IfErr result (λ fault. fault ≡ Sql)
  pub ends_open : LeavesOpen g new result
  pub durable : IsOpen g new → LeavesOnly g new (lines g new)
