-- The door that a machine lends, and what it is asked for.
use Rattle.std.specs.Prelude.{◌≡◌, ◌⊎◌, ℕ, IfSome, IsTrue, List, ◌∷◌, Option, Result, Some, false}
use Rattle.std.specs.Borrow.{Fml, LendsSoOk, MutBor, RattleType}
use Rattle.rd_messages.specs.declared.pace.TimeLimits.{TimeLimits}
use Rattle.rd_commands.specs.Serving.{Place}
use Rattle.rd_program.specs.World.{ChangesClock, ChangesDoors, Wanted, World}
use Rattle.rd_program.specs.World.Wanted.{DoorAt, StoreAt}

-- this was asked for, and nothing else
abbrev pub Asks : Option (List Wanted) → Wanted → Option (List Wanted) → Type 0
Asks old wanted new = IfSome old (λ before. new ≡ Some (wanted ∷ before))

-- a connection to the store in the file at this path was, which makes no file, and nothing else
abbrev pub AsksPath : Option (List Wanted) → List ℕ → Option (List Wanted) → Type 0
AsksPath old path new = Asks old (StoreAt path false false) new

-- nothing was asked for, or this, and then something holds
abbrev pub MayAsk : Option (List Wanted) → Wanted → Option (List Wanted) → Type 0 → Type 0
MayAsk old wanted new Holds = IfSome old (λ before. (new ≡ Some before) ⊎ ((new ≡ Some (wanted ∷ before)) × Holds))

-- the first of these two was asked for, and then nothing, or the second, and then something holds
abbrev pub AsksThen : Option (List Wanted) → Wanted → Wanted → Option (List Wanted) → Type 0 → Type 0
AsksThen old first second new Holds = IfSome old (λ before. MayAsk (Some (first ∷ before)) second new Holds)

-- The machine shows what it showed, but for its clock; that a door was asked for at the place, and nothing else; there, if it
-- showed the door, the door as its borrower left it; and, if it shows its connections, that visitors may take as long as it
-- was given.
pub record KeepsDoor {S D : Type 0} (place : Place) (given : TimeLimits) (old new : World S D) (door : D) : Type 0 where
  pub frame : ChangesDoors old new
  pub asked : Asks old.wanted (DoorAt place) new.wanted
  pub limited : IsTrue old.shows → new.limits ≡ Some given
  pub kept : IfSome (old.doors place) (λ before. new.doors place ≡ Some door)

module _ (R T : RattleType) where
  -- the machine lends the door at a place, and keeps it as its borrower leaves it
  abbrev pub LendsDoor : {S E : Type 0} → (R.Denot → World S T.Denot) → Place → TimeLimits → MutBor R.Denot → Result (MutBor T.Denot) E → Fml
  LendsDoor seen place given machine lent =
      LendsSoOk R T machine lent (λ new. KeepsDoor place given (seen machine.now) (seen new)) (λ new. ChangesClock (seen machine.now) (seen new))
