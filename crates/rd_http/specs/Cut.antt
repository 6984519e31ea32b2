-- Visits over a connection that a fault of the disk may shut.
use Rattle.std.specs.Prelude.{◌≡◌, ◌⊎◌, List, ◌∷◌, ◌++◌}
use Rattle.sqlite.specs.Store.{Ghosts}
use Rattle.sqlite.specs.Held.{Held}
use Rattle.rd_policy.specs.declared.zone.Zone.{Zone}
use Rattle.rd_store.specs.Held.{IsOpen, desk}
use Rattle.rd_messages.specs.DoorVisits.{Visit}
use Rattle.rd_http.specs.Hidden.{RepliesAndHides}
use Rattle.rd_http.specs.Runs.{IsVisit, Runs}
use Rattle.rd_http.specs.Visits.{IsAnswer}

module _ {S : Type 0} (g : Ghosts S) (zone : Zone) where
  -- One of the visits left the connection shut. The desk replied to each of those before it, and hid the rest from each
  -- visitor. That visit, and those after it, were answered in turn.
  pub record AreCut (visits : List Visit) (old new : Held S) : Type 0 where
    pub before : List Visit
    pub last : Visit
    pub later : List Visit
    pub mid : Held S
    pub shut : Held S
    pub are : visits ≡ before ++ last ∷ later
    pub replied : Runs RepliesAndHides zone before (desk g old) (desk g mid)
    pub was_open : IsOpen g mid
    pub answered : IsVisit (IsAnswer g) zone last mid shut
    pub is_shut : ¬ IsOpen g shut
    pub rest : Runs (IsAnswer g) zone later shut new

  -- the desk replied to all visits and hid the rest, or to those before one that left the connection shut
  abbrev pub AreRepliedUntilShut : List Visit → Held S → Held S → Type 0
  AreRepliedUntilShut visits old new = Runs RepliesAndHides zone visits (desk g old) (desk g new) ⊎ AreCut visits old new
