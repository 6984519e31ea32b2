-- What the command `copy` gives, by the connection that stood for the store and the one that is left of it, and by the two
-- for the new store, if the machine shows all four.
use Rattle.std.specs.Prelude.{◌≡◌, ◌⊎◌, ℕ, Bool, IfErr, List, OnOk, Option, Result, Some, false, true}
use Rattle.std.specs.Io.KnownBytes.{Appends, Keeps}
use Rattle.sqlite.specs.Held.{Held, state}
use Rattle.sqlite.specs.Store.{Ghosts}
use Rattle.rd_holdings.specs.State.{Desk}
use Rattle.rd_tables.specs.Schemas.{IsBlank, has_desk}
use Rattle.rd_store.specs.Copied.{IsNotCopied}
use Rattle.rd_store.specs.Created.{LeavesOldOrNew}
use Rattle.rd_store.specs.declared.faults.CreateFault.{CreateFault}
use Rattle.rd_store.specs.Held.{IsClean, IsOpen, Lasts, LeavesOnly, desk}
use Rattle.rd_store.specs.Migrated.{IsMigrated, SpellsDesk}
use Rattle.rd_program.specs.Faults.{refusal_to_create}
use Rattle.rd_program.specs.Inits.{done_line}
use Rattle.rd_program.specs.Leaves.{GivesBack, HasBoth, IfBoth, IsSame, LeavesDesk, LeavesNone, NamesOpening}
use Rattle.rd_program.specs.Serving.{IsOpenRefusal}
use Rattle.rd_commands.specs.Output.{AppendsPart}
use Rattle.rd_commands.specs.declared.refusal.Refusal.{Refusal}
use Rattle.rd_commands.specs.declared.refusal.Refusal.TheVariants.{Device, Exists, NoMemory, Store}

-- a desk was opened in the store, and is as it was
abbrev pub OpensDesk : {S : Type 0} → Ghosts S → Held S → Held S → Type 0
OpensDesk {S} g before last = (opened : Held S) × IsMigrated g before opened × LeavesDesk g IsSame opened last

-- this holds of the connections for a store and of those for the new store, if the machine shows all four
abbrev pub IfAll : {S : Type 0} → Option (Held S) → Option (Held S) → Option (Held S) → Option (Held S)
    → (Held S → Held S → Held S → Held S → Type 0) → Type 0
IfAll stood left fresh made P = IfBoth stood left (λ before last. IfBoth fresh made (λ old new. P before last old new))

-- A crash of the new store leaves what it left before, or the desk that stood in the store, where the disk of each has
-- returned what was written.
abbrev pub LeavesOldOrStood : {S : Type 0} → Ghosts S → Held S → Held S → Held S → Held S → Type 0
LeavesOldOrStood g before last old new =
    IsClean g last → (stood : Desk) × SpellsDesk (state g before).now stood × LeavesOldOrNew g old new stood

-- The new store, which had no tables, has the desk that stood in the store, and a crash leaves that desk and nothing else.
pub record MakesCopy {S : Type 0} (g : Ghosts S) (before last old new : Held S) : Type 0 where
  pub lasts : IsClean g last → Lasts g old new
  pub blank : IsBlank old.schema
  pub copied : IsOpen g last → IsOpen g new → SpellsDesk (state g before).now (desk g new)
  pub read_open : IsClean g last → IsOpen g last
  pub ends_open : IsClean g new → IsOpen g new
  pub durable : IsOpen g new → LeavesOnly g new (desk g new)
  pub crash : LeavesOldOrStood g before last old new

-- No table `desk` stood in the new store, and it is as it was where any other table, an index or a view stands in it. A crash
-- of it leaves what it left before, or the whole desk, never a part of it, where the disk of each has returned what was
-- written.
pub record LeavesNoPart {S : Type 0} (g : Ghosts S) (before last old new : Held S) : Type 0 where
  pub lasts : IsClean g last → Lasts g old new
  pub free : has_desk old.schema ≡ false
  pub occupied : ¬ IsBlank old.schema → new ≡ old
  pub crash : LeavesOldOrStood g before last old new

-- A connection for the new store was taken back, of which this holds, beside the connections for the store; or none was.
abbrev pub LeavesNew : {S : Type 0} → Option (Held S) → Option (Held S) → Option (Held S) → Option (Held S) → Option (Held S)
    → (Held S → Held S → Held S → Held S → Type 0) → Type 0
LeavesNew stood left was fresh made P = IfAll stood left fresh made (λ before last old new. (was ≡ Some new) ⊎ P before last old new)

-- What is left of the new store after `copy` fails: the whole desk if the device failed, for then only the line about it
-- was not written; if something was there already, nothing was done to it; and if the store failed, no desk was there, and
-- a crash leaves what it left before, or the whole desk, or no connection to it was taken back. If memory ran out, or no
-- desk was opened, none was taken back.
abbrev pub LeavesCopy : {S : Type 0} → Ghosts S → Option (Held S) → Option (Held S) → Option (Held S) → Option (Held S) → Option (Held S) → Refusal → Type 0
LeavesCopy g stood left was fresh made Device = IfAll stood left fresh made (MakesCopy g)
LeavesCopy g stood left was fresh made Exists =
    LeavesNew stood left was fresh made (λ before last old new. (new ≡ old) × (has_desk old.schema ≡ true))
LeavesCopy g stood left was fresh made Store = LeavesNew stood left was fresh made (LeavesNoPart g)
LeavesCopy g stood left was fresh made refusal = LeavesNone was made

-- why no desk is copied: it was not opened, or its copy not made
abbrev pub IsCopyRefusal : Refusal → Type 0
IsCopyRefusal refusal = IsOpenRefusal refusal ⊎ (refusal ≡ Exists)

-- Why no desk is copied, and what was written then: nothing if a desk was not opened or made, and if the device failed, a
-- front part of the line that says that it is done.
abbrev pub RefusesCopy : Refusal → Option (List ℕ) → Option (List ℕ) → Type 0
RefusesCopy Device old new = AppendsPart old new done_line
RefusesCopy refusal old new = Keeps old new × IsCopyRefusal refusal

-- ---- inside

-- No desk was made over a connection, for this reason: `exists` exactly if a table `desk` stands, and then nothing was done,
-- and otherwise `store`.
pub record NotCopied {S : Type 0} (g : Ghosts S) (from read old new : Held S) (refusal : Refusal) : Type 0 where
  pub fault : CreateFault
  pub refusal_is : refusal ≡ refusal_to_create fault
  pub not_copied : IsNotCopied g from read old new fault

-- no desk was made in the new store: a connection for it was taken back, over which none was made for this reason; or none
-- was, and so it is where memory ran out
abbrev pub LeavesTarget : {S : Type 0} → Ghosts S → Held S → Held S → Option (Held S) → Option (Held S) → Option (Held S) → Refusal → Type 0
LeavesTarget g from read was fresh made NoMemory = LeavesNone was made
LeavesTarget g from read was fresh made refusal =
    IfBoth fresh made (λ old new. (was ≡ Some new) ⊎ NotCopied g from read old new refusal)

-- How a `copy` ends. If it is done, it has said so; the new store has the desk that stood, and the machine has taken a
-- connection for it back. If it fails, this is why, and what is left. A machine that shows its connections, and had one for
-- a new store, has one again.
pub record RunsCopy {S T : Type 0} (g : Ghosts S) (shows : Bool) (stood left was fresh made : Option (Held S)) (out written : Option (List ℕ))
    (result : Result T Refusal) : Type 0 where
  pub done : OnOk result (HasBoth shows fresh made × IfAll stood left fresh made (MakesCopy g) × Appends out written done_line)
  pub due : IfErr result (λ refusal. RefusesCopy refusal out written × LeavesCopy g stood left was fresh made refusal × NamesOpening g stood left refusal)
  pub back : GivesBack shows was made
