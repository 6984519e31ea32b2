-- The store that words name, and what a machine is asked for.
use Rattle.std.proofs.Common.{◌≡◌, ◌∷◌, ℕ, List, Option, None, Some, inl, inr, subst, sym}
use Rattle.rd_program.specs.Doors.{Asks, AsksPath, AsksThen, MayAsk}
use Rattle.rd_program.specs.World.{Wanted}

-- after a connection was asked for no more were
pub asked_then : (old mid new : Option (List Wanted)) (path : List ℕ) → AsksPath old path mid → new ≡ mid → AsksPath old path new
asked_then old mid new path asks same = subst (AsksPath old path) (sym same) asks

-- nothing was asked for
pub asked_none : (old new : Option (List Wanted)) (wanted : Wanted) (Holds : Type 0) → new ≡ old → MayAsk old wanted new Holds
asked_none None new wanted Holds same = tt
asked_none (Some before) new wanted Holds same = inl same

-- one thing was
pub asked_one : (old mid new : Option (List Wanted)) (wanted : Wanted) (Holds : Type 0) → mid ≡ old → Asks mid wanted new → Holds → MayAsk old wanted new Holds
asked_one None mid new wanted Holds same asks holds = tt
asked_one (Some before) mid new wanted Holds same asks holds = inr (subst (λ (m : Option (List Wanted)). Asks m wanted new) same asks, holds)

-- one thing was, and then another, or nothing
pub asked_more : (old mid last new : Option (List Wanted)) (first second : Wanted) (Holds : Type 0) → Asks old first mid → MayAsk mid second last Holds → new ≡ last
    → AsksThen old first second new Holds
asked_more None mid last new first second Holds asks more same = tt
asked_more (Some before) mid last new first second Holds asks more same =
    subst (λ (n : Option (List Wanted)). MayAsk (Some (first ∷ before)) second n Holds) (sym same) (subst (λ (m : Option (List Wanted)). MayAsk m second last Holds) asks more)
