-- What the command `init` gives.
use Rattle.std.specs.Prelude.{◌≡◌, ◌⊎◌, ⊤, ℕ, List, Option, ◌++◌, codes}
use Rattle.std.specs.Io.KnownBytes.{Keeps}
use Rattle.sqlite.specs.Store.{Ghosts}
use Rattle.sqlite.specs.Held.{Held}
use Rattle.rd_store.specs.Created.{IsCreated, IsNotCreated}
use Rattle.rd_store.specs.declared.faults.CreateFault.{CreateFault}
use Rattle.rd_store.specs.declared.faults.CreateFault.TheVariants as create
use Rattle.rd_program.specs.Leaves.{IfBoth, Leaves, LeavesNone}
use Rattle.rd_commands.specs.Output.{AppendsPart}
use Rattle.rd_commands.specs.Printed.{line_feed}
use Rattle.rd_commands.specs.declared.refusal.Refusal.{Refusal}
use Rattle.rd_commands.specs.declared.refusal.Refusal.TheVariants.{Device, Exists, NoMemory, Store}
use Rattle.rd_program.specs.Faults.{refusal_to_create}

-- the line that says that a desk was made
abbrev pub done_line : List ℕ
done_line = codes "done" ++ line_feed

-- No desk was made over a connection, for this reason: `exists` exactly if a table `desk` stands,
-- and then nothing was done, and otherwise `store`.
pub record NotMade {S : Type 0} (g : Ghosts S) (old new : Held S) (staff : List ℕ) (refusal : Refusal) : Type 0 where
  pub fault : CreateFault
  pub refusal_is : refusal ≡ refusal_to_create fault
  pub not_created : IsNotCreated g old new staff fault

-- the desk was made, with this one staff key, if the machine shows both connections
abbrev pub MakesDesk : {S : Type 0} → Ghosts S → Option (Held S) → Option (Held S) → List ℕ → Type 0
MakesDesk g old new staff = IfBoth old new (λ before after. IsCreated g before after staff)

-- What stands after `init` fails, by the connection that was left before, the one that stood and
-- the one that is left: the new desk if the device failed, and what stood if a desk stood already;
-- if the store failed, the database is as it was, or there was no connection; and if memory ran
-- out, there was none.
abbrev pub LeavesInit : {S : Type 0} → Ghosts S → Option (Held S) → Option (Held S) → Option (Held S) → List ℕ → Refusal → Type 0
LeavesInit g was old new staff Device = MakesDesk g old new staff
LeavesInit g was old new staff Exists = IfBoth old new (λ before after. IsNotCreated g before after staff create.Exists)
LeavesInit g was old new staff Store = Leaves was old new (λ before after. IsNotCreated g before after staff create.Sql)
LeavesInit g was old new staff NoMemory = LeavesNone was new
LeavesInit g was old new staff refusal = ⊤

-- why no desk is made
abbrev pub IsInitRefusal : Refusal → Type 0
IsInitRefusal refusal = (refusal ≡ Exists) ⊎ ((refusal ≡ Store) ⊎ (refusal ≡ NoMemory))

-- Why `init` fails, and what was written then.
abbrev pub RefusesInit : Refusal → Option (List ℕ) → Option (List ℕ) → Type 0
RefusesInit Device old new = AppendsPart old new done_line
RefusesInit refusal old new = Keeps old new × IsInitRefusal refusal
