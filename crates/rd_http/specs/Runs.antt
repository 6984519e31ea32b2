-- Visits one after the other.
use Rattle.std.specs.Prelude.{◌≡◌, ◌≢◌, ◌↔◌, ◌<◌, ◌≤◌, ℕ, ◌+◌, ℤ, List, [], ◌∷◌, ◌++◌, Bool, true, false, Option, None, Some, Result, Ok, Err, IfSome, length, map, ⊤}
use Rattle.std.specs.List.{filter}
use Rattle.rd_policy.specs.Days.{HasDay}
use Rattle.rd_policy.specs.Zones.{day_number}
use Rattle.rd_policy.specs.declared.zone.Zone.{Zone}
use Rattle.sqlite.specs.Store.{Ghosts}
use Rattle.sqlite.specs.Held.{Held}
use Rattle.rd_store.specs.Held.{Lasts}
use Rattle.rd_messages.specs.DoorVisits.{Coming, NoneToCome, VisitsSoFar, Visit, coming_of}
use Rattle.rd_messages.specs.declared.wire.Door.{Ghosts as DoorGhosts}
use Rattle.rd_http.specs.Visits.{IsAnswer}
use Rattle.rd_http.specs.declared.serve.Ended.{Ended}
use Rattle.rd_http.specs.declared.serve.Ended.TheVariants.{Clock, Count, Shut}
use Rattle.rd_http.specs.declared.serve.Served.{Served}
use Rattle.rd_http.specs.declared.visit.WireFault.{WireFault}
use Rattle.rd_http.specs.declared.visit.WireFault.TheVariants as fault

-- a visit is counted by how it ended; one at a moment that has no day ends the run and does not count
abbrev pub counted : Result (Unit {0}) WireFault → Served → Served
counted (Ok done) served =
    record { visits = served.visits + 1; read_faults = served.read_faults; write_faults = served.write_faults; ended = served.ended }
counted (Err fault.Read) served =
    record { visits = served.visits + 1; read_faults = served.read_faults + 1; write_faults = served.write_faults; ended = served.ended }
counted (Err fault.Write) served =
    record { visits = served.visits + 1; read_faults = served.read_faults; write_faults = served.write_faults + 1; ended = served.ended }
counted (Err fault.Clock) served =
    record { visits = served.visits; read_faults = served.read_faults; write_faults = served.write_faults; ended = Clock }

-- the bytes are a front part of the text, and not all of it
abbrev pub IsCut : List ℕ → List ℕ → Type 0
IsCut out text = (rest : List ℕ) × (text ≡ out ++ rest) × (0 < length rest)

-- the visits were the next that were to come, with their moments and bytes, if a door shows those
abbrev pub AreNext : Option (List Coming) → Option (List Coming) → List Visit → Type 0
AreNext None left visits = ⊤
AreNext (Some coming) None visits = ⊥
AreNext (Some coming) (Some left) visits = coming ≡ map coming_of visits ++ left

-- no more visits are to come, if a door shows those
abbrev pub NoneLeft : Option (List Coming) → Type 0
NoneLeft None = ⊤
NoneLeft (Some left) = left ≡ []

-- A visit whose moment has no day: nothing went out, and no read or write failed.
pub record IsTimeless (visit : Visit) : Type 0 where
  pub day : ¬ HasDay visit.moment
  pub out : visit.out ≡ []
  pub read_failed : visit.read_failed ≡ false
  pub write_failed : visit.write_failed ≡ false

-- the visit that ended the run, beyond those that count
abbrev pub IsLast : Ended → List Visit → Type 0
IsLast Clock last = (visit : Visit) × (last ≡ visit ∷ []) × IsTimeless visit
IsLast other last = last ≡ []

-- `Answers stream old new day text` says that this text answers the bytes that came, on a day, and
-- that the state goes from the old one to the new one
module _ {State : Type 0} (Answers : List ℕ → State → State → ℤ → List ℕ → Type 0) (zone : Zone) where
  -- what went out, by whether a read and whether a write failed: the whole text; a part of it; or, after a failed
  -- read, nothing, and nothing was changed
  abbrev pub Ends : List ℕ → State → State → ℤ → List ℕ → Bool → Bool → Type 0
  Ends came old new day out false false = Answers came old new day out
  Ends came old new day out false true = (text : List ℕ) × Answers came old new day text × IsCut out text
  Ends came old new day out true write_failed = (write_failed ≡ false) × (out ≡ []) × (new ≡ old)

  -- A visit at a moment that has a day.
  pub record IsVisit (visit : Visit) (old new : State) : Type 0 where
    pub day : HasDay visit.moment
    pub ends : Ends visit.came old new (day_number visit.moment zone) visit.out visit.read_failed visit.write_failed

  -- visits in turn, each from the state that the one before it left
  abbrev pub Runs : List Visit → State → State → Type 0
  Runs [] old new = new ≡ old
  Runs (visit ∷ visits) old new = (mid : State) × IsVisit visit old mid × Runs visits mid new

  -- What a door shows after a run: the visits that count, in turn, and the one that ended it, if
  -- one did. They were the next that were to come. So many count, and at so many a read, or a
  -- write, failed.
  pub record HasRun (told : VisitsSoFar) (later : Option VisitsSoFar) (coming left : Option (List Coming)) (served : Served) (old new : State) : Type 0 where
    pub visits : List Visit
    pub last : List Visit
    pub are : later ≡ Some (record { visits = told.visits ++ (visits ++ last); under_way = told.under_way })
    pub order : AreNext coming left (visits ++ last)
    pub runs : Runs visits old new
    pub counted : length visits ≡ served.visits
    pub read_faults : length (filter (λ visit. visit.read_failed) visits) ≡ served.read_faults
    pub write_faults : length (filter (λ visit. visit.write_failed) visits) ≡ served.write_faults
    pub ended : IsLast served.ended last

-- A run of at most so many visits of a door, over a desk with the clocks of a zone: what the door shows, why the run
-- ended, that its faults are at most its visits, and that the door shuts only where the run says so, and else is as open
-- as it was; if it shows its visits, had not shut before and has none under way, none is left when it shuts.
pub record IsRunOf {S D C : Type 0} (g : Ghosts S) (d : DoorGhosts D C) (most : ℕ) (zone : Zone) (before after : D) (old new : Held S) (served : Served) : Type 0 where
  pub run : IfSome (d.so_far before) (λ told. HasRun (IsAnswer g) zone told (d.so_far after) (d.coming before) (d.coming after) served old new)
  pub count : (served.ended ≡ Count) ↔ (served.visits ≡ most)
  pub within : served.visits ≤ most
  pub faults : served.read_faults + served.write_faults ≤ served.visits
  pub shut : served.ended ≡ Shut → d.has_shut after ≡ true
  pub stays : served.ended ≢ Shut → d.has_shut after ≡ d.has_shut before
  pub last : served.ended ≡ Shut → d.has_shut before ≡ false → IfSome (d.so_far before) (λ told. told.under_way ≡ None → NoneLeft (d.coming after))
  pub lasts : Lasts g old new

-- ---- inside

-- One visit more of a run that goes on, or its end.
pub record IsNext {S D C : Type 0} (g : Ghosts S) (d : DoorGhosts D C) (zone : Zone) (before after : D) (old new : Held S) (served next : Served) : Type 0 where
  pub run : (told : VisitsSoFar) (coming : Option (List Coming)) (start : Held S) → HasRun (IsAnswer g) zone told (d.so_far before) coming (d.coming before) served start old
      → HasRun (IsAnswer g) zone told (d.so_far after) coming (d.coming after) next start new
  pub more : next.ended ≡ Count → next.visits ≡ served.visits + 1
  pub over : next.ended ≢ Count → next.visits ≡ served.visits
  pub faults : next.read_faults + next.write_faults ≤ next.visits
  pub shut : next.ended ≡ Shut → d.has_shut after ≡ true
  pub stays : next.ended ≢ Shut → d.has_shut after ≡ d.has_shut before
  pub last : next.ended ≡ Shut → d.has_shut before ≡ false → NoneToCome (d.so_far before) (d.coming before) × (d.coming after ≡ d.coming before)
  pub lasts : Lasts g old new
