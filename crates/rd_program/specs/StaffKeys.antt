-- What the command `staff-key` gives.
use Rattle.std.specs.Prelude.{◌≡◌, ◌⊎◌, ℕ, List, Option}
use Rattle.std.specs.Io.KnownBytes.{Keeps}
use Rattle.sqlite.specs.Held.{Held, state}
use Rattle.sqlite.specs.Store.{Ghosts}
use Rattle.sqlite.specs.Tree.{Trees}
use Rattle.rd_holdings.specs.State.{Desk, with_key}
use Rattle.rd_policy.specs.declared.audience.Audience.TheVariants.{Staff}
use Rattle.rd_store.specs.Held.{IsClean, IsLeft, IsOpen, Lasts, LeavesOld, LeavesOnly, desk}
use Rattle.rd_store.specs.Migrated.{SpellsDesk}
use Rattle.rd_program.specs.Inits.{done_line}
use Rattle.rd_program.specs.Leaves.{IsSame, Leaves, LeavesNone, LeavesStore}
use Rattle.rd_program.specs.Serving.{IsOpenRefusal}
use Rattle.rd_program.specs.Showing.{EndsWith}
use Rattle.rd_commands.specs.Output.{AppendsPart}
use Rattle.rd_commands.specs.declared.refusal.Refusal.{Refusal}
use Rattle.rd_commands.specs.declared.refusal.Refusal.TheVariants.{Device, NoMemory}

-- If the connection was open, and the disk has returned what was written, a crash leaves what it left before, or the desk
-- that the tables spelled, with this key as one of the staff or without it.
abbrev pub LeavesOldOrPut : {S : Type 0} → Ghosts S → List ℕ → Held S → Held S → Type 0
LeavesOldOrPut g digest before last = IsOpen g before → IsClean g last → (left : Trees) → g.recovers last.store left
    → g.recovers before.store left ⊎ ((stood : Desk) × SpellsDesk (state g before).now stood × (IsLeft stood left ⊎ IsLeft (with_key digest Staff stood) left))

-- While the connection is open, the desk that stood has this key, by its digest, as one of the staff, nothing else of it is
-- changed, and a crash leaves this desk and nothing else; and it is open if the disk has returned what was written.
pub record PutsStaff {S : Type 0} (g : Ghosts S) (digest : List ℕ) (before last : Held S) : Type 0 where
  pub lasts : Lasts g before last
  pub puts : IsOpen g last → (stood : Desk) × SpellsDesk (state g before).now stood × (desk g last ≡ with_key digest Staff stood)
  pub ends_open : IsClean g last → IsOpen g last
  pub crash : LeavesOldOrPut g digest before last
  pub durable : IsOpen g last → LeavesOnly g last (desk g last)

-- No key was put: the desk is as it was. While the connection is open, a crash leaves what it left before, or this desk and
-- nothing else.
pub record PutsNone {S : Type 0} (g : Ghosts S) (digest : List ℕ) (before last : Held S) : Type 0 where
  pub same : LeavesStore g IsSame before last
  pub crash : LeavesOldOrPut g digest before last
  pub durable : IsOpen g last → LeavesOld g before last ⊎ LeavesOnly g last (desk g last)

-- Why `staff-key` fails, and what was written then: nothing if the desk was not opened, its store failed or memory ran
-- out; and if the device failed, a front part of the line that says that it is done.
abbrev pub RefusesStaffKey : Refusal → Option (List ℕ) → Option (List ℕ) → Type 0
RefusesStaffKey Device old new = AppendsPart old new done_line
RefusesStaffKey refusal old new = Keeps old new × IsOpenRefusal refusal

-- What stands after `staff-key` fails: the desk with the key if the device failed, for then only the line about it was not
-- written; and otherwise the desk as it was. Memory ran out only if there was no connection.
abbrev pub LeavesStaffKey : {S : Type 0} → Ghosts S → Option (Held S) → Option (Held S) → Option (Held S) → List ℕ → Refusal → Type 0
LeavesStaffKey g was old new digest Device = EndsWith old new (PutsStaff g digest)
LeavesStaffKey g was old new digest NoMemory = LeavesNone was new
LeavesStaffKey g was old new digest refusal = Leaves was old new (PutsNone g digest)
