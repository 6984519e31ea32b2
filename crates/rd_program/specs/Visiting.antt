-- What `serve` does at the door that the words name.
use Rattle.std.specs.Prelude.{◌≡◌, ◌⊎◌, ⊤, ◌++◌, ℕ, IfSome, IsSomeAnd, List, Option}
use Rattle.std.specs.Io.KnownBytes.{Appends}
use Rattle.sqlite.specs.Held.{Held, state}
use Rattle.sqlite.specs.Store.{Ghosts}
use Rattle.rd_policy.specs.declared.zone.Zone.{Zone}
use Rattle.rd_store.specs.Held.{IsOpen, desk}
use Rattle.rd_store.specs.Migrated.{IsNotMigrated, SpellsDesk}
use Rattle.rd_store.specs.declared.faults.OpenFault.TheVariants as open_fault
use Rattle.rd_holdings.specs.State.{Desk}
use Rattle.rd_messages.specs.DoorVisits.{Coming, VisitsSoFar}
use Rattle.rd_http.specs.Runs.{HasRun}
use Rattle.rd_http.specs.Visits.{IsReplied}
use Rattle.rd_http.specs.declared.serve.Ended.TheVariants.{Count}
use Rattle.rd_http.specs.declared.serve.Served.{Served}
use Rattle.rd_commands.specs.Serving.{Place}
use Rattle.rd_commands.specs.declared.refusal.Refusal.{Refusal}
use Rattle.rd_commands.specs.declared.refusal.Refusal.TheVariants.{Clock, Device, NoMemory, Store}
use Rattle.rd_program.specs.Asked.{IsOpenedToRead}
use Rattle.rd_program.specs.Leaves.{Leaves, LeavesUnopened}
use Rattle.rd_program.specs.Serving.{listening_at}
use Rattle.rd_program.specs.Showing.{EndsWith}

-- The visits of a door, by what it tells of them before and after, are those of a run over a desk with the clocks of a
-- zone, which replies to each and goes from the old desk to the new one.
abbrev pub HasVisits : {D : Type 0} → (D → Option VisitsSoFar) → (D → Option (List Coming)) → Zone → D → D → Served → Desk → Desk → Type 0
HasVisits told coming zone before after served old new =
    IfSome (told before) (λ begun. HasRun IsReplied zone begun (told after) (coming before) (coming after) served old new)

-- While the connection is open, this is the run of the visits over its desk.
abbrev pub RunsVisits : {S D : Type 0} → Ghosts S → (D → Option VisitsSoFar) → (D → Option (List Coming)) → Zone → D → D → Served → Held S → Held S → Type 0
RunsVisits g told coming zone before after served opened last =
    IsOpen g last → HasVisits told coming zone before after served (desk g opened) (desk g last)

-- Visits of a door were served, each with its reply, by the clocks of a zone, over the desk that stood, and they left it as
-- it is; of the run of them this holds.
pub record ServesVisits {S D : Type 0} (g : Ghosts S) (told : D → Option VisitsSoFar) (coming : D → Option (List Coming)) (Ends : Served → Type 0) (zone : Zone) (before after : D)
    (stood last : Held S) : Type 0 where
  pub served : Served
  pub ends : Ends served
  pub runs : IsOpen g last → (found : Desk) × SpellsDesk (state g stood).now found × HasVisits told coming zone before after served found (desk g last)

-- the machine showed the door at a place, and so many visits of it were served over the desk in the store
abbrev pub ServesDoor : {S D : Type 0} → Ghosts S → (D → Option VisitsSoFar) → (D → Option (List Coming)) → ℕ → Zone → Option D → Option D → Option (Held S) → Option (Held S) → Type 0
ServesDoor g told coming count zone door later stood left =
    IfSome door (λ before. IsSomeAnd later (λ after. EndsWith stood left (ServesVisits g told coming (λ served. (served.visits ≡ count) × (served.ended ≡ Count)) zone before after)))

-- the same of as many as there were, however the run ended
abbrev pub ServesSome : {S D : Type 0} → Ghosts S → (D → Option VisitsSoFar) → (D → Option (List Coming)) → Zone → Option D → Option D → Option (Held S) → Option (Held S) → Type 0
ServesSome g told coming zone door later stood left =
    IfSome door (λ before. IsSomeAnd later (λ after. EndsWith stood left (ServesVisits g told coming (λ served. ⊤) zone before after)))

-- ---- what is left where it fails

-- the line that says where visits come was written, and perhaps more
abbrev pub HasListened : Place → Option (List ℕ) → Option (List ℕ) → Type 0
HasListened place old new = (more : List ℕ) × Appends old new (listening_at place ++ more)

-- What stands after `serve` fails: no desk was opened; or one was, and at most read since; or the line about visits was
-- written, and these were served.
abbrev pub LeavesServe : {S : Type 0} → Ghosts S → Option (Held S) → Option (Held S) → Option (Held S) → Place
    → Option (List ℕ) → Option (List ℕ) → Type 0 → Refusal → Type 0
LeavesServe g was old new place out written Visited Clock = (HasListened place out written × Visited) ⊎ Leaves was old new (IsOpenedToRead g)
LeavesServe g was old new place out written Visited Device = (HasListened place out written × Visited) ⊎ Leaves was old new (IsOpenedToRead g)
LeavesServe g was old new place out written Visited NoMemory = (HasListened place out written × Visited) ⊎ Leaves was old new (IsOpenedToRead g)
LeavesServe g was old new place out written Visited Store =
    Leaves was old new (λ before after. IsNotMigrated g before after open_fault.Sql ⊎ IsOpenedToRead g before after)
LeavesServe g was old new place out written Visited refusal = LeavesUnopened g was old new refusal
