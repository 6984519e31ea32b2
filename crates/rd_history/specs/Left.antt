-- What a crash leaves of a store and of its history, each by itself.
use Rattle.std.specs.Prelude.{ℕ, List}
use Rattle.sqlite.specs.Tree.{Trees}
use Rattle.sqlite.specs.Store.{Ghosts}
use Rattle.sqlite.specs.Held.{Held}
use Rattle.rd_tables.specs.Connections.{IsClean, IsOpen}
use Rattle.rd_store.specs.Held.{IsLeft as IsDeskLeft}
use Rattle.rd_holdings.specs.State.{Desk}
use Rattle.rd_chain.specs.Held.{IsLeft as AreLinesLeft}
use Rattle.rd_chain.specs.Rows.{lines_of}
use Rattle.rd_history.specs.Histories.{IsHistory}
use Rattle.rd_history.specs.Settled.{IsNear}

-- whatever a crash leaves of it is a history
abbrev pub LeavesHistory : {H : Type 0} → Ghosts H → Held H → Type 0
LeavesHistory h history = (left : Trees) → h.recovers history.store left → IsHistory (lines_of left)

-- Of a store this is left, and of a history that: they hold a desk and lines, and the desk stands near these.
pub record AreNear (of_store of_history : Trees) : Type 0 where
  pub desk : Desk
  pub lines : List (List ℕ)
  pub store : IsDeskLeft desk of_store
  pub history : AreLinesLeft lines of_history
  pub near : IsNear desk lines

-- whatever a crash leaves of a store, and whatever it leaves of a history, the two are near
abbrev pub LeavesNear : {S H : Type 0} → Ghosts S → Ghosts H → Held S → Held H → Type 0
LeavesNear g h store history =
    (of_store of_history : Trees) → g.recovers store.store of_store → h.recovers history.store of_history → AreNear of_store of_history

-- A call on a store and a history of which this was true. Where both connections were open, and the disks have returned
-- what was written, a crash leaves the two near.
abbrev pub StayNear : {S H : Type 0} → Ghosts S → Ghosts H → Held S → Held S → Held H → Held H → Type 0 → Type 0
StayNear g h old new before after Was = IsOpen g old → IsOpen h before → IsClean g new → IsClean h after → Was → LeavesNear g h new after
