-- The visits that `serve` serves, over the desk that stood.
use Rattle.std.proofs.Common.{◌≡◌, ◌⊎◌, ℕ, Bool, IsTrue, List, Option, Some, None, Result, Ok, Err, IfSome, OnOk, inr, refl, subst, sym}
use Rattle.std.specs.Io.KnownBytes.{Keeps}
use Rattle.std.specs.Prelude.{IsSome, IsSomeAnd}
use Rattle.sqlite.specs.Held.{Held}
use Rattle.sqlite.specs.Store.{Ghosts}
use Rattle.rd_policy.specs.declared.zone.Zone.{Zone}
use Rattle.rd_store.specs.Held.{Lasts, desk}
use Rattle.rd_store.specs.Migrated.{IsMigrated}
use Rattle.rd_messages.specs.DoorVisits.{Coming, VisitsSoFar}
use Rattle.rd_http.specs.declared.serve.Ended.TheVariants.{Count}
use Rattle.rd_http.specs.declared.serve.Served.{Served}
use Rattle.rd_commands.specs.declared.serving.Timeouts.{Timeouts}
use Rattle.rd_messages.specs.declared.pace.TimeLimits.{TimeLimits}
use Rattle.rd_program.specs.Serving.{AreLimitsOf, WritesOnceLent}
use Rattle.rd_program.specs.Visiting.{RunsVisits, ServesDoor, ServesVisits}
use Rattle.rd_program.specs.Showing.{EndsWith}
use Rattle.rd_program.proofs.ShowLemmas.{ends_with}

module _ {S D : Type 0} (g : Ghosts S) (told : D → Option VisitsSoFar) (coming : D → Option (List Coming)) where
  both_doors : (Ends : Served → Type 0) (zone : Zone) (door later : Option D) (old new : Option (Held S)) (opened last conn : Held S) (served : Served)
      → Ends served → IfSome old (λ before. IsMigrated g before opened) → Lasts g opened last → conn ≡ last → IfSome new (λ held. Some conn ≡ Some held)
      → IfSome door (λ before. IsSomeAnd later (λ after. RunsVisits g told coming zone before after served opened last))
      → IfSome door (λ before. IsSomeAnd later (λ after. EndsWith old new (ServesVisits g told coming Ends zone before after)))
  both_doors Ends zone None later old new opened last conn served ends is lasts same took runs = tt
  both_doors Ends zone (Some before) (Some after) old new opened last conn served ends is lasts same took runs =
      ends_with g old new opened last conn (ServesVisits g told coming Ends zone before after) is
      (λ stood at. record { served = served; ends = ends; runs = λ is_open. (desk g opened, at.is (lasts.was_open is_open), runs is_open) }) same took
  both_doors Ends zone (Some before) None old new opened last conn served ends is lasts same took runs = absurd runs

  -- over a door that a machine shows before it is lent and after it is given back
  pub serves_with : (Ends : Served → Type 0) (served : Served) (zone asked : Zone) (mid door lent later : Option D) (old new : Option (Held S)) (opened last conn : Held S)
      → Ends served → zone ≡ asked → mid ≡ door → later ≡ lent → IfSome old (λ before. IsMigrated g before opened) → Lasts g opened last → conn ≡ last
      → IfSome new (λ held. Some conn ≡ Some held) → IfSome mid (λ before. IsSomeAnd lent (λ after. RunsVisits g told coming zone before after served opened last))
      → IfSome door (λ before. IsSomeAnd later (λ after. EndsWith old new (ServesVisits g told coming Ends asked before after)))
  serves_with Ends served zone asked mid door lent later old new opened last conn ends by here there is lasts same took runs =
      subst (λ z. IfSome door (λ before. IsSomeAnd later (λ after. EndsWith old new (ServesVisits g told coming Ends z before after)))) by
      (subst (λ d. IfSome d (λ before. IsSomeAnd later (λ after. EndsWith old new (ServesVisits g told coming Ends zone before after)))) here
      (subst (λ d. IfSome mid (λ before. IsSomeAnd d (λ after. EndsWith old new (ServesVisits g told coming Ends zone before after)))) (sym there)
      (both_doors Ends zone mid lent old new opened last conn served ends is lasts same took runs)))

  pub serves_door : {T E : Type 0} (r : Result T E) (served : Served) (count : ℕ) (door later : Option D) (zone : Zone) (old new : Option (Held S))
      → (served.ended ≡ Count → served.visits ≡ count) → OnOk r (served.ended ≡ Count)
      → ((served.visits ≡ count) × (served.ended ≡ Count) → ServesDoor g told coming count zone door later old new) → OnOk r (ServesDoor g told coming count zone door later old new)
  serves_door (Ok value) served count door later zone old new counted whole serves = serves (counted whole, whole)
  serves_door (Err error) served count door later zone old new counted whole serves = tt

-- ---- how long visitors may take

-- a call after the visits keeps the limits, and the machine showed from the first whether it shows them
pub limits_kept : {T E : Type 0} (r : Result T E) (shows showed : Bool) (limits later : Option TimeLimits) (timeouts : Timeouts) → showed ≡ shows → later ≡ limits
    → (IsTrue showed → IsSomeAnd limits (AreLimitsOf timeouts)) → OnOk r (IsTrue shows → IsSomeAnd later (AreLimitsOf timeouts))
limits_kept (Ok value) shows showed limits later timeouts same kept are =
    λ shown. subst (λ l. IsSomeAnd l (AreLimitsOf timeouts)) (sym kept) (are (subst (λ b. IsTrue b) (sym same) shown))
limits_kept (Err error) shows showed limits later timeouts same kept are = tt

-- ---- a door that was lent

-- a call after the visits keeps the limits, and writes nothing
pub lent_kept : (shows showed : Bool) (limits later : Option TimeLimits) (out written : Option (List ℕ)) → showed ≡ shows → later ≡ limits
    → WritesOnceLent showed limits out written → WritesOnceLent shows later out written
lent_kept shows showed limits later out written same kept lent =
    λ shown. subst (λ l. Keeps out written ⊎ IsSome l) (sym kept) (lent (subst (λ b. IsTrue b) (sym same) shown))

is_there : (limits : Option TimeLimits) (timeouts : Timeouts) → IsSomeAnd limits (AreLimitsOf timeouts) → IsSome limits
is_there (Some limit) timeouts are = refl
is_there None timeouts are = absurd are

-- where visitors have their limits, a door was lent
pub lent_limits : (shows showed : Bool) (limits later : Option TimeLimits) (timeouts : Timeouts) (out written : Option (List ℕ)) → showed ≡ shows → later ≡ limits
    → (IsTrue showed → IsSomeAnd limits (AreLimitsOf timeouts)) → WritesOnceLent shows later out written
lent_limits shows showed limits later timeouts out written same kept are =
    λ shown. inr (subst (λ l. IsSome l) (sym kept) (is_there limits timeouts (are (subst (λ b. IsTrue b) (sym same) shown))))
