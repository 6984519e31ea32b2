-- A clock that is named: it was behind.
use Rattle.std.proofs.Common.{◌≡◌, ◌≢◌, Bool, ℤ, Option, Result, IfErr, IfSome, IsTrue, None, Some, refl, subst, true}
use Rattle.std.proofs.lemmas.Result.{IfErr-weaker}
use Rattle.sqlite.specs.Held.{Held}
use Rattle.sqlite.specs.Store.{Ghosts}
use Rattle.rd_policy.specs.Days.{HasDay}
use Rattle.rd_policy.specs.Zones.{day_number}
use Rattle.rd_policy.specs.declared.zone.Zone.{Zone}
use Rattle.rd_store.specs.Held.{IsOpen, Lasts, desk}
use Rattle.rd_store.specs.Migrated.{IsMigrated}
use Rattle.rd_commands.specs.declared.refusal.Refusal.{Refusal}
use Rattle.rd_commands.specs.declared.refusal.Refusal.TheVariants.{Clock}
use Rattle.rd_program.specs.Leaves.{moment_of}
use Rattle.rd_program.specs.OnTime.{IsBehind, IsBehindIn, IsBehindOn, StoodBehind}
use Rattle.rd_program.specs.Serving.{IsOpenRefusal}
use Rattle.rd_program.specs.Showing.{EndsWith}
use Rattle.rd_program.proofs.ShowLemmas.{ends_with}
use Rattle.rd_program.proofs.LeftStores.{of_opening}

-- once the day is known nothing else names it
pub no_behind_on : {S : Type 0} (g : Ghosts S) (dated must : Bool) (moment : Option ℤ) (zone : Zone) (opened last : Held S) (refusal : Refusal) → refusal ≢ Clock
    → IsBehindOn g dated must moment zone opened last refusal
no_behind_on g dated must moment zone opened last Clock other = absurd (other refl)
no_behind_on g dated must moment zone opened last refusal other = tt

-- no opening names it
pub opening_no_behind : {S : Type 0} (g : Ghosts S) (dated must : Bool) (moment : Option ℤ) (zone : Zone) (old new : Option (Held S)) (refusal : Refusal) → IsOpenRefusal refusal
    → IsBehindIn g dated must moment zone old new refusal
opening_no_behind g dated must moment zone old new refusal opening = of_opening (IsBehindIn g dated must moment zone old new) refusal opening tt tt tt tt tt

module _ {S : Type 0} (g : Ghosts S) (dated must : Bool) (old new : Option (Held S)) (opened last conn : Held S) (is : IfSome old (λ before. IsMigrated g before opened))
    (lasts : Lasts g opened last) (same : conn ≡ last) (took : IfSome new (λ held. Some conn ≡ Some held)) where
  behind_at : (moment : Option ℤ) (zone : Zone)
      → IfSome moment (λ seconds. HasDay seconds → (dated ≡ true) × IsTrue must × (IsOpen g last → IsBehind (day_number seconds zone) (desk g opened)))
      → IfSome moment (λ seconds. HasDay seconds → (dated ≡ true) × IsTrue must × EndsWith old new (StoodBehind g (day_number seconds zone)))
  behind_at None zone late = tt
  behind_at (Some seconds) zone late = λ has.
      let found = late has in (
        found.0,
        found.1,
        ends_with g old new opened last conn (StoodBehind g (day_number seconds zone)) is
            (λ before at is_open. (desk g opened, at.is (lasts.was_open is_open), found.2 is_open)) same took,
      )

  behind_in : (moment : Option ℤ) (zone : Zone) (refusal : Refusal) → IsBehindOn g dated must moment zone opened last refusal → IsBehindIn g dated must moment zone old new refusal
  behind_in moment zone Clock late = behind_at moment zone late
  behind_in moment zone refusal late = tt

  -- what is so of an open desk, by a clock that shows the same as before, is so of the one that stood
  pub behind_ended : {T : Type 0} (r : Result T Refusal) (told clock later : Option ℤ) (zone asked : Zone) → later ≡ clock → zone ≡ asked
      → IfErr r (IsBehindOn g dated must (moment_of told later) zone opened last) → IfErr r (IsBehindIn g dated must (moment_of told clock) asked old new)
  behind_ended r told clock later zone asked shown by late =
      IfErr-weaker r _ _ (λ refusal. behind_in (moment_of told clock) asked refusal)
      (subst (λ z. IfErr r (IsBehindOn g dated must (moment_of told clock) z opened last)) by
      (subst (λ m. IfErr r (IsBehindOn g dated must (moment_of told m) zone opened last)) shown late))
