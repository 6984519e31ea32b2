-- A moment without a day: no desk is asked.
use Rattle.std.proofs.Common.{◌≡◌, ◌≢◌, ◌⊎◌, ℤ, Bool, Option, Some, None, Result, Err, IfErr, IfSome, inl, inr, refl, subst, sym}
use Rattle.std.proofs.lemmas.Result.{IfErr-weaker}
use Rattle.sqlite.specs.Held.{Held}
use Rattle.sqlite.specs.Store.{Ghosts}
use Rattle.rd_store.specs.Migrated.{IsMigrated}
use Rattle.rd_policy.specs.Days.{HasDay}
use Rattle.rd_program.specs.Asked.{IsClockDue, IsClockOn, IsOpenedToRead, IsStillOrRead}
use Rattle.rd_commands.specs.declared.refusal.Refusal.{Refusal}
use Rattle.rd_commands.specs.declared.refusal.Refusal.TheVariants.{Clock, NoMemory}
use Rattle.rd_program.specs.Leaves.{moment_of}
use Rattle.rd_program.specs.Showing.{EndsWith}
use Rattle.rd_program.proofs.ShowLemmas.{ends_with}
use Rattle.rd_program.specs.Serving.{IsDayless, IsOpenRefusal, IsRefused, IsUnasked, IsUnaskedRefusal}
use Rattle.rd_program.proofs.LeftStores.{of_opening}

-- after a desk was opened, by a clock that shows the same as before
pub unasked : {T : Type 0} (told clock other : Option ℤ) (r : Result T Refusal) → other ≡ clock → IsDayless (moment_of told other) r → IsUnasked (moment_of told clock) r
unasked told clock other r same dayless = subst (λ c. IsUnasked (moment_of told c) r) same (at (moment_of told other) dayless)
  where
    refused : (r ≡ Err Clock) ⊎ (r ≡ Err NoMemory) → IsRefused IsUnaskedRefusal r
    refused (inl is) = subst (IsRefused IsUnaskedRefusal) (sym is) (inr (inl refl))
    refused (inr is) = subst (IsRefused IsUnaskedRefusal) (sym is) (inr (inr refl))

    at : (moment : Option ℤ) → IsDayless moment r → IsUnasked moment r
    at None dayless = tt
    at (Some seconds) dayless = λ none. refused (dayless none)

-- ---- why the clock is named

-- a desk that was opened and is still so, or was read
pub opened_to_read : {S : Type 0} (g : Ghosts S) (before opened last : Held S) → IsMigrated g before opened → IsStillOrRead g opened last → IsOpenedToRead g before last
opened_to_read g before opened last at (inl still) = inl (subst (IsMigrated g before) (sym still) at)
opened_to_read g before opened last at (inr keeps) = inr (opened, at, keeps)

clock_in : {S : Type 0} (g : Ghosts S) (dated : Bool) (moment : Option ℤ) (old new : Option (Held S)) (opened last conn : Held S) (refusal : Refusal)
    → IfSome old (λ before. IsMigrated g before opened) → conn ≡ last → IfSome new (λ held. Some conn ≡ Some held) → IsClockOn g dated moment opened last refusal
    → IsClockDue g dated moment old new refusal
clock_in g dated moment old new opened last conn Clock is same took due =
    (ends_with g old new opened last conn (IsOpenedToRead g) is (λ before at. opened_to_read g before opened last at due.0) same took, (λ undated. still (due.1 undated)), named moment due.2)
  where
    still : last ≡ opened → EndsWith old new (IsMigrated g)
    still kept = ends_with g old new opened last conn (IsMigrated g) is (λ before at. subst (IsMigrated g before) (sym kept) at) same took

    named : (m : Option ℤ) → IfSome m (λ seconds. ¬ HasDay seconds × (last ≡ opened)) → IfSome m (λ seconds. ¬ HasDay seconds × EndsWith old new (IsMigrated g))
    named None told = tt
    named (Some seconds) told = (told.0, still told.1)
clock_in g dated moment old new opened last conn refusal is same took due = tt

-- what is so of an open desk is so of the one that stood
pub clock_ended : {T : Type 0} (r : Result T Refusal) {S : Type 0} (g : Ghosts S) (dated : Bool) (moment : Option ℤ) (old new : Option (Held S)) (opened last conn : Held S)
    → IfSome old (λ before. IsMigrated g before opened) → conn ≡ last → IfSome new (λ held. Some conn ≡ Some held) → IfErr r (IsClockOn g dated moment opened last)
    → IfErr r (IsClockDue g dated moment old new)
clock_ended r g dated moment old new opened last conn is same took =
    IfErr-weaker r _ _ (λ refusal. clock_in g dated moment old new opened last conn refusal is same took)

-- no opening names it
pub opening_no_clock : {S : Type 0} (g : Ghosts S) (dated : Bool) (moment : Option ℤ) (old new : Option (Held S)) (refusal : Refusal) → IsOpenRefusal refusal
    → IsClockDue g dated moment old new refusal
opening_no_clock g dated moment old new refusal opening = of_opening (IsClockDue g dated moment old new) refusal opening tt tt tt tt tt

-- and once the day is known nothing else does
pub no_clock_on : {S : Type 0} (g : Ghosts S) (dated : Bool) (moment : Option ℤ) (opened last : Held S) (refusal : Refusal) → refusal ≢ Clock → IsClockOn g dated moment opened last refusal
no_clock_on g dated moment opened last Clock other = absurd (other refl)
no_clock_on g dated moment opened last refusal other = tt
