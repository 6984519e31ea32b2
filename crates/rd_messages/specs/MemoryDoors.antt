-- A door in memory, as contracts see it.
use Rattle.std.specs.Prelude.{List, [], Bool, false, None}
use Rattle.rd_messages.specs.DoorVisits.{Coming, VisitsSoFar}

-- What a door in memory shows: its visits so far, those to come, in order, and whether it has
-- shut.
pub record DoorView : Type 0 where
  pub so_far : VisitsSoFar
  pub coming : List Coming
  pub has_shut : Bool

-- what a door shows before its first visit
abbrev pub fresh_door_view : List Coming → DoorView
fresh_door_view coming = record { so_far = record { visits = []; under_way = None }; coming = coming; has_shut = false }
