-- What a door shows of its visits.
use Rattle.std.specs.Prelude.{◌≡◌, ℕ, ℤ, List, [], ◌∷◌, ◌++◌, Bool, Option, None, Some, ⊤}

-- A visit that is over: its moment, all bytes that came, read or not, those that went out, and whether a read
-- and whether a write failed.
pub record Visit : Type 0 where
  pub moment : ℤ
  pub came : List ℕ
  pub out : List ℕ
  pub read_failed : Bool
  pub write_failed : Bool

-- The visits that are over, in order, and the moment of the one under way.
pub record VisitsSoFar : Type 0 where
  pub visits : List Visit
  pub under_way : Option ℤ

-- a visit of this moment is admitted, while none is under way; or none is admitted, and what the
-- door shows stays
abbrev pub Admits : Option VisitsSoFar → Option VisitsSoFar → Option ℤ → Type 0
Admits None new moment = ⊤
Admits (Some old) new None = new ≡ Some old
Admits (Some old) new (Some moment) =
    (old.under_way ≡ None) × (new ≡ Some (record { visits = old.visits; under_way = Some moment }))

-- a connection that a door has admitted shows its bytes if the door shows its visits, and nothing
-- went out
abbrev pub TellsToo : Option VisitsSoFar → Option (List ℕ) → Option (List ℕ) → Type 0
TellsToo None came out = ⊤
TellsToo (Some told) None out = ⊥
TellsToo (Some told) (Some came) None = ⊥
TellsToo (Some told) (Some came) (Some out) = out ≡ []

-- what the door shows once the visit under way is over; if none is, it stays
abbrev pub visits_after : VisitsSoFar → Option ℤ → List ℕ → List ℕ → Bool → Bool → VisitsSoFar
visits_after told None came out read_failed write_failed = told
visits_after told (Some moment) came out read_failed write_failed = record {
  visits = told.visits ++ record { moment = moment; came = came; out = out; read_failed = read_failed; write_failed = write_failed } ∷ [];
  under_way = None;
}

-- a door that shows its visits also shows the one that has ended over this connection
abbrev pub Leaves : Option VisitsSoFar → Option VisitsSoFar → Option (List ℕ) → Option (List ℕ) → Bool → Bool → Type 0
Leaves None new came out read_failed write_failed = ⊤
Leaves (Some old) new None out read_failed write_failed = ⊤
Leaves (Some old) new (Some came) None read_failed write_failed = ⊤
Leaves (Some old) new (Some came) (Some out) read_failed write_failed =
    new ≡ Some (visits_after old old.under_way came out read_failed write_failed)

-- ---- visits to come

-- the moment of a visit to come, and all bytes that will come
abbrev pub Coming : Type 0
Coming = ℤ × List ℕ

-- if a door shows the visits to come, the one that it has admitted was the next of them, with its
-- bytes
abbrev pub TakesNext : Option (List Coming) → Option (List Coming) → ℤ → Option (List ℕ) → Type 0
TakesNext None new moment came = ⊤
TakesNext (Some old) (Some new) moment (Some came) = old ≡ (moment, came) ∷ new
TakesNext (Some old) new moment came = ⊥

-- what was to come of a visit that is over
abbrev pub coming_of : Visit → Coming
coming_of visit = (visit.moment, visit.came)

-- none is to come, as far as a door shows it, unless one is under way
abbrev pub NoneToCome : Option VisitsSoFar → Option (List Coming) → Type 0
NoneToCome told None = ⊤
NoneToCome None (Some coming) = coming ≡ []
NoneToCome (Some told) (Some coming) = told.under_way ≡ None → coming ≡ []
