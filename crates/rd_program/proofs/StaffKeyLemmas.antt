-- The key that `staff-key` puts, and what stands after it.
use Rattle.std.proofs.Common.{◌≡◌, ◌≢◌, ◌∙◌, ◌⊎◌, ℕ, List, Option, Some, Result, Ok, Err, IfErr, IfSome, OnOk, arith, inl, inr, refl, subst, sym}
use Rattle.std.proofs.KnownBytes.{Keeps-refl}
use Rattle.std.proofs.lemmas.Result.{IfErr-weaker}
use Rattle.sqlite.specs.Effect.{Database}
use Rattle.sqlite.specs.Held.{Held, state}
use Rattle.sqlite.specs.Store.{Ghosts}
use Rattle.sqlite.specs.Tree.{Trees}
use Rattle.rd_holdings.specs.State.{Desk, with_key}
use Rattle.rd_policy.specs.declared.audience.Audience.TheVariants.{Staff}
use Rattle.rd_store.specs.Held.{Changes, IsLeft, desk}
use Rattle.rd_store.specs.Migrated.{IsMigrated, IsMigration, IsNotMigrated, SpellsDesk, first_desk}
use Rattle.rd_store.specs.declared.faults.OpenFault.{OpenFault}
use Rattle.rd_store.proofs.Laws.{lasts_then}
use Rattle.rd_commands.specs.Refusals.{status_of}
use Rattle.rd_commands.specs.declared.refusal.Refusal.{Refusal}
use Rattle.rd_commands.specs.declared.refusal.Refusal.TheVariants.{Device, NoMemory, Store}
use Rattle.rd_program.specs.Leaves.{IsSame, LeavesUnopened, NamesOpening}
use Rattle.rd_program.specs.Serving.{IsOpenRefusal}
use Rattle.rd_program.specs.Showing.{EndsWith}
use Rattle.rd_program.specs.StaffKeys.{LeavesOldOrPut, LeavesStaffKey, PutsNone, PutsStaff, RefusesStaffKey}
use Rattle.rd_program.proofs.LeftStores.{after_opening, from_opened, from_unopened, of_opening, opening_is_3, unopened_with}
use Rattle.rd_program.proofs.ShowLemmas.{ends_with}

-- ---- the desk with the key

module _ {S : Type 0} (g : Ghosts S) (digest : List ℕ) (old new : Option (Held S)) (opened last conn : Held S) where
  -- after the opening a crash leaves the desk that stood, or the one with the key
  crash_putting : {T X : Type 0} (r : Result T X) (before : Held S) → IsMigrated g before opened
      → Changes g opened last (with_key digest Staff (desk g opened)) r → LeavesOldOrPut g digest before last
  crash_putting r before at changes = λ was_open clean left recovers.
      let is_open = at.ends_open (changes.lasts.clean clean) in
      inr (desk g opened, at.is is_open, changes.crash is_open clean left recovers)

  -- the desk that stood has the key
  pub ends_putting : {T X : Type 0} (r : Result T X) → Changes g opened last (with_key digest Staff (desk g opened)) r
      → IfSome old (λ before. IsMigrated g before opened) → conn ≡ last → IfSome new (λ held. Some conn ≡ Some held)
      → OnOk r (EndsWith old new (PutsStaff g digest))
  ends_putting (Ok value) changes is same took =
      ends_with g old new opened last conn (PutsStaff g digest) is (λ before at. record {
        lasts = lasts_then g before opened last at.lasts changes.lasts;
        puts = λ is_open. (desk g opened, at.is (changes.lasts.was_open is_open), changes.ok is_open);
        ends_open = changes.ends_open;
        crash = crash_putting (Ok value) before at changes;
        durable = changes.durable;
      }) same took
  ends_putting (Err fault) changes is same took = tt

  -- or it is as it was
  pub unput_left : {T : Type 0} (r : Result T Refusal) (was : Option (Held S)) → Changes g opened last (with_key digest Staff (desk g opened)) r
      → IfErr r (λ refusal. refusal ≡ Store) → IfSome old (λ before. IsMigrated g before opened) → conn ≡ last → IfSome new (λ held. Some conn ≡ Some held)
      → IfErr r (LeavesStaffKey g was old new digest)
  unput_left (Ok value) was changes store is same took = tt
  unput_left (Err fault) was changes store is same took =
      subst (LeavesStaffKey g was old new digest) (sym store)
      (after_opening g was old new (PutsNone g digest) opened last conn is (λ before at. record {
        same = from_opened g IsSame before opened last at (record { lasts = changes.lasts; reached = changes.err });
        crash = crash_putting (Err fault) before at changes;
        durable = λ is_open. inr (changes.durable is_open);
      }) same took)

-- ---- where no desk was opened

no_device : IsOpenRefusal Device → ⊥
no_device opening = of_opening (λ r. r ≢ Device) Device opening (λ is. cc is) (λ is. cc is) (λ is. cc is) (λ is. cc is) (λ is. cc is) refl

module _ {S : Type 0} (g : Ghosts S) (digest : List ℕ) where
  -- a crash may leave the desk that stood in tables of version 2
  old_or_moved : (db : Database) (left : Trees) (Was : Type 0) → Was ⊎ IsMigration db left
      → Was ⊎ ((stood : Desk) × SpellsDesk db stood × (IsLeft stood left ⊎ IsLeft (with_key digest Staff stood) left))
  old_or_moved db left Was (inl was) = inl was
  old_or_moved db left Was (inr moved) = inr (first_desk db.trees, inl (moved.0, refl), inl moved.1)

  none_unopened : (fault : OpenFault) (before after : Held S) → IsNotMigrated g before after fault → PutsNone g digest before after
  none_unopened fault before after is = record {
    same = from_unopened g IsSame fault before after is;
    crash = λ was_open clean left recovers. old_or_moved (state g before).now left _ (is.crash was_open clean left recovers);
    durable = λ is_open. inl (is.durable is_open);
  }

  -- no key was put there
  pub unopened_unput : (was old new : Option (Held S)) (refusal : Refusal) → IsOpenRefusal refusal → LeavesUnopened g was old new refusal
      → LeavesStaffKey g was old new digest refusal
  unopened_unput was old new Device opening left = absurd (no_device opening)
  unopened_unput was old new NoMemory opening none = none
  unopened_unput was old new refusal opening left = unopened_with g was old new (PutsNone g digest) none_unopened refusal opening left

-- ---- why not

-- where no key was put nothing was written
pub not_put : (refusal : Refusal) (out : Option (List ℕ)) → IsOpenRefusal refusal → RefusesStaffKey refusal out out
not_put Device out opening = absurd (no_device opening)
not_put refusal out opening = (Keeps-refl out, opening)

-- a store that failed is no store that was not opened
pub store_opens : {T : Type 0} (r : Result T Refusal) {S : Type 0} (g : Ghosts S) (old new : Option (Held S)) → IfErr r (λ refusal. refusal ≡ Store)
    → IfErr r (NamesOpening g old new)
store_opens r g old new = IfErr-weaker r _ _ (λ refusal is. subst (NamesOpening g old new) (sym is) tt)

-- nor is a device
pub device_opens : {T : Type 0} (r : Result T Refusal) {S : Type 0} (g : Ghosts S) (old new : Option (Held S)) → IfErr r (λ refusal. refusal ≡ Device)
    → IfErr r (NamesOpening g old new)
device_opens r g old new = IfErr-weaker r _ _ (λ refusal is. subst (NamesOpening g old new) (sym is) tt)

-- a store that failed is a reason that nothing was put
pub store_refused : {T : Type 0} (r : Result T Refusal) → IfErr r (λ refusal. refusal ≡ Store) → IfErr r IsOpenRefusal
store_refused r = IfErr-weaker r _ _ (λ refusal is. inr (inr (inr (inl is))))

staff_key_is_3 : (refusal : Refusal) (old new : Option (List ℕ)) → RefusesStaffKey refusal old new → status_of refusal ≡ 3
staff_key_is_3 Device old new refused = refl
staff_key_is_3 refusal old new refused = opening_is_3 refusal refused.1

-- it is no refusal of the words
pub staff_key_never : (refusal : Refusal) (old new : Option (List ℕ)) → RefusesStaffKey refusal old new → status_of refusal ≢ 2
staff_key_never refusal old new refused two = let three : 2 ≡ 3 = sym two ∙ staff_key_is_3 refusal old new refused in omega (arith, three)

-- nor one of the desk
pub staff_key_not_1 : (refusal : Refusal) (old new : Option (List ℕ)) → RefusesStaffKey refusal old new → status_of refusal ≡ 1 → ⊥
staff_key_not_1 refusal old new refused one = let three : 1 ≡ 3 = sym one ∙ staff_key_is_3 refusal old new refused in omega (arith, three)

-- ---- by the path and the key that are asked for

-- all three hold of an error
pub at_err_all : {T E : Type 0} (r : Result T E) (P Q R : E → Type 0) → IfErr r P → IfErr r Q → IfErr r R → IfErr r (λ e. P e × Q e × R e)
at_err_all (Ok value) P Q R first second third = tt
at_err_all (Err error) P Q R first second third = (first, second, third)
