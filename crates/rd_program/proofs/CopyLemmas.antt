-- The desk that `copy` makes in a new store, and what stands after it.
use Rattle.std.proofs.Common.{◌≡◌, ◌≢◌, ◌∙◌, ◌⊎◌, ℕ, Bool, List, Option, Some, None, Result, Ok, Err, IfErr, IfSome, IsTrue, OnOk, ap, arith, inl, inr, refl, subst, sym}
use Rattle.std.specs.Prelude.{IsSome, MatchBool, true, false}
use Rattle.std.specs.Io.KnownBytes.{Keeps}
use Rattle.std.proofs.KnownBytes.{Keeps-refl}
use Rattle.std.proofs.lemmas.Result.{IfErr-weaker}
use Rattle.sqlite.specs.Held.{Held, state}
use Rattle.sqlite.specs.Store.{Ghosts}
use Rattle.rd_tables.specs.Schemas.{has_desk}
use Rattle.rd_store.specs.Copied.{IsCopied, IsNotCopied}
use Rattle.rd_store.specs.Created.{LeavesOldOrNew}
use Rattle.rd_store.specs.Held.{IsClean, desk}
use Rattle.rd_store.specs.Migrated.{IsMigrated, SpellsDesk}
use Rattle.rd_store.specs.declared.faults.CreateFault.{CreateFault}
use Rattle.rd_store.specs.declared.faults.CreateFault.TheVariants as create
use Rattle.rd_commands.specs.Refusals.{status_of}
use Rattle.rd_commands.specs.declared.refusal.Refusal.{Refusal}
use Rattle.rd_commands.specs.declared.refusal.Refusal.TheVariants.{Device, Exists, NoMemory, Store}
use Rattle.rd_program.specs.Copying.{IfAll, IsCopyRefusal, LeavesCopy, LeavesNew, LeavesNoPart, LeavesOldOrStood, LeavesTarget, MakesCopy, NotCopied, OpensDesk, RefusesCopy}
use Rattle.rd_program.specs.Faults.{refusal_to_create}
use Rattle.rd_program.specs.Inits.{IsInitRefusal}
use Rattle.rd_program.specs.Leaves.{GivesBack, HasBoth, IfBoth, IsSame, Leaves, LeavesDesk, LeavesNone, LeavesStore, NamesOpening}
use Rattle.rd_program.specs.Serving.{IsOpenRefusal}
use Rattle.rd_program.specs.Showing.{EndsWith}
use Rattle.rd_program.proofs.LeftStores.{desk_left, none_still, of_opening, opening_is_3}
use Rattle.rd_program.proofs.ShowLemmas.{ends_with}

-- ---- the desk of the store, and its copy

module _ {S : Type 0} (g : Ghosts S) (stood left : Option (Held S)) (opened last conn : Held S) (leaves : LeavesDesk g IsSame opened last) where
  -- the desk of the store is as it was
  pub kept_left : (was : Option (Held S)) → IfSome stood (λ before. IsMigrated g before opened) → conn ≡ last → IfSome left (λ held. Some conn ≡ Some held)
      → Leaves was stood left (LeavesStore g IsSame)
  kept_left was is same took = desk_left g was stood left IsSame opened last conn is leaves same took

  -- it was opened
  pub opened_left : IfSome stood (λ before. IsMigrated g before opened) → conn ≡ last → IfSome left (λ held. Some conn ≡ Some held) → EndsWith stood left (OpensDesk g)
  opened_left is same took = ends_with g stood left opened last conn (OpensDesk g) is (λ before at. (opened, at, leaves)) same took

  -- what a crash of the new store leaves, by the desk that stood
  old_or_stood : (before old new : Held S) → IsMigrated g before opened → (IsClean g last → LeavesOldOrNew g old new (desk g opened)) → LeavesOldOrStood g before last old new
  old_or_stood before old new at crash = λ clean.
      let was : IsClean g opened = leaves.lasts.clean clean in
      (desk g opened, at.is (at.ends_open was), crash clean)

  made_of : (before old new : Held S) → IsMigrated g before opened → IsCopied g opened last old new → MakesCopy g before last old new
  made_of before old new at copied = record {
    lasts = copied.lasts;
    blank = copied.blank;
    copied = λ read_open is_open. subst (SpellsDesk (state g before).now) (sym (copied.is read_open is_open)) (at.is (leaves.lasts.was_open read_open));
    read_open = copied.read_open;
    ends_open = copied.ends_open;
    durable = copied.durable;
    crash = old_or_stood before old new at copied.crash;
  }

  -- of all four connections
  of_all : (fresh made : Option (Held S)) (P : Held S → Held S → Type 0) (Q : Held S → Held S → Held S → Held S → Type 0)
      → ((before old new : Held S) → IsMigrated g before opened → P old new → Q before last old new)
      → IfSome stood (λ before. IsMigrated g before opened) → conn ≡ last → IfSome left (λ held. Some conn ≡ Some held) → IfBoth fresh made P → IfAll stood left fresh made Q
  of_all fresh made P Q told is same took both =
      elim stood as (λ s. IfSome s (λ before. IsMigrated g before opened) → IfAll s left fresh made Q) [
        | None ↦ λ at. tt
        | Some before ↦ λ at. elim left as (λ l. IfSome l (λ held. Some conn ≡ Some held) → IfAll (Some before) l fresh made Q) [
          | None ↦ λ held. tt
          | Some after ↦ λ held.
              let ends : last ≡ after = cc in
              subst (λ l. IfBoth fresh made (λ old new. Q before l old new)) ends (within before at fresh made both)
        ] took
      ] is
    where
      within : (before : Held S) → IsMigrated g before opened → (f m : Option (Held S)) → IfBoth f m P → IfBoth f m (λ old new. Q before last old new)
      within before at None m both = tt
      within before at (Some old) None both = tt
      within before at (Some old) (Some new) both = told before old new at both

  pub makes_copy : (fresh made : Option (Held S)) → IfSome stood (λ before. IsMigrated g before opened) → conn ≡ last → IfSome left (λ held. Some conn ≡ Some held)
      → IfBoth fresh made (IsCopied g opened last) → IfAll stood left fresh made (MakesCopy g)
  makes_copy fresh made is same took copied = of_all fresh made (IsCopied g opened last) (MakesCopy g) made_of is same took copied

  -- ---- where none was made

  desk_there : (b : Bool) (fault : CreateFault) → MatchBool b (fault ≡ create.Exists) (fault ≡ create.Sql) → fault ≡ create.Exists → b ≡ true
  desk_there true fault told is = refl
  desk_there false fault told is = let both : create.Exists ≡ create.Sql = sym is ∙ told in absurd cc

  exists_is : (fault : CreateFault) → Exists ≡ refusal_to_create fault → fault ≡ create.Exists
  exists_is create.Exists is = refl
  exists_is create.Sql is = absurd cc

  desk_free : (b : Bool) (fault : CreateFault) → MatchBool b (fault ≡ create.Exists) (fault ≡ create.Sql) → Store ≡ refusal_to_create fault → b ≡ false
  desk_free true fault told is = let both : Store ≡ Exists = is ∙ ap refusal_to_create told in absurd cc
  desk_free false fault told is = refl

  no_part : (before old new : Held S) → IsMigrated g before opened → (fault : CreateFault) → Store ≡ refusal_to_create fault → IsNotCopied g opened last old new fault
      → LeavesNoPart g before last old new
  no_part before old new at fault is not_copied = record {
    lasts = not_copied.lasts;
    free = desk_free (has_desk old.schema) fault not_copied.exists is;
    occupied = not_copied.occupied;
    crash = old_or_stood before old new at not_copied.crash;
  }

  pub leaves_copy : (was fresh made : Option (Held S)) (refusal : Refusal) → IsInitRefusal refusal → IfSome stood (λ before. IsMigrated g before opened)
      → conn ≡ last → IfSome left (λ held. Some conn ≡ Some held) → LeavesTarget g opened last was fresh made refusal → LeavesCopy g stood left was fresh made refusal
  leaves_copy was fresh made refusal why is same took target = elim why [
    | inl exists ↦
        subst (LeavesCopy g stood left was fresh made) (sym exists)
        (of_all fresh made (λ old new. (was ≡ Some new) ⊎ NotCopied g opened last old new Exists) (λ before after old new. (was ≡ Some new) ⊎ ((new ≡ old) × (has_desk old.schema ≡ true)))
        (λ before old new at told. elim told [
          | inl none ↦ inl none
          | inr not_made ↦
              let fault : not_made.fault ≡ create.Exists = exists_is not_made.fault not_made.refusal_is in
              inr (not_made.not_copied.same fault, desk_there (has_desk old.schema) not_made.fault not_made.not_copied.exists fault)
        ]) is same took (subst (LeavesTarget g opened last was fresh made) exists target))
    | inr (inl store) ↦
        subst (LeavesCopy g stood left was fresh made) (sym store)
        (of_all fresh made (λ old new. (was ≡ Some new) ⊎ NotCopied g opened last old new Store) (λ before after old new. (was ≡ Some new) ⊎ LeavesNoPart g before after old new)
        (λ before old new at told. elim told [ inl none ↦ inl none | inr not_made ↦ inr (no_part before old new at not_made.fault not_made.refusal_is not_made.not_copied) ])
        is same took (subst (LeavesTarget g opened last was fresh made) store target))
    | inr (inr memory) ↦ subst (LeavesCopy g stood left was fresh made) (sym memory) (subst (LeavesTarget g opened last was fresh made) memory target)
  ]

-- ---- the new store

module _ {S : Type 0} (g : Ghosts S) (from last : Held S) (shows : Bool) (was fresh made : Option (Held S)) (conn new : Held S)
    (stood : IfSome fresh (λ held. conn ≡ held)) (took : IfSome made (λ held. Some new ≡ Some held)) where
  both_to : (P : Held S → Held S → Type 0) → P conn new → (f m : Option (Held S)) → IfSome f (λ held. conn ≡ held) → IfSome m (λ held. Some new ≡ Some held) → IfBoth f m P
  both_to P told None m stood took = tt
  both_to P told (Some old) None stood took = tt
  both_to P told (Some old) (Some taken) stood took = let same : new ≡ taken = cc in subst (λ o. P o taken) stood (subst (P conn) same told)

  -- the desk was made in it
  pub done_to : {T : Type 0} (r : Result T Refusal) → (IsTrue shows → fresh ≡ Some conn) → (IsTrue shows → made ≡ Some new) → OnOk r (IsCopied g from last conn new)
      → OnOk r (HasBoth shows fresh made × IfBoth fresh made (IsCopied g from last))
  done_to (Ok value) there back copied =
      (λ is. (subst (λ o. IsSome o) (sym (there is)) refl, subst (λ o. IsSome o) (sym (back is)) refl), both_to (IsCopied g from last) copied fresh made stood took)
  done_to (Err refusal) there back copied = tt

  -- it is not for want of memory that none is made over a connection
  not_memory : (fault : CreateFault) → NoMemory ≡ refusal_to_create fault → ⊥
  not_memory create.Exists is = cc is
  not_memory create.Sql is = cc is

  -- or it was not
  pub failed_to : {T : Type 0} (r : Result T Refusal) → IfErr r (NotCopied g from last conn new) → IfErr r (LeavesTarget g from last was fresh made)
  failed_to (Ok value) told = tt
  failed_to (Err NoMemory) told = absurd (not_memory told.fault told.refusal_is)
  failed_to (Err refusal) told = both_to (λ old taken. (was ≡ Some taken) ⊎ NotCopied g from last old taken refusal) (inr told) fresh made stood took

-- the four connections of the whole, by those between two calls
module _ {S : Type 0} (g : Ghosts S) (stood left : Option (Held S)) (opened last conn : Held S) (leaves : LeavesDesk g IsSame opened last) (fresh between made taken : Option (Held S))
    (same_fresh : between ≡ fresh) (same_made : made ≡ taken) (is : IfSome stood (λ before. IsMigrated g before opened)) (same : conn ≡ last) (took : IfSome left (λ held. Some conn ≡ Some held)) where
  pub copied_from : {T : Type 0} (r : Result T Refusal) (shows mid : Bool) → mid ≡ shows → OnOk r (HasBoth mid between taken × IfBoth between taken (IsCopied g opened last))
      → OnOk r (HasBoth shows fresh made × IfAll stood left fresh made (MakesCopy g))
  copied_from (Err refusal) shows mid same_shows told = tt
  copied_from (Ok value) shows mid same_shows told =
      let all : HasBoth shows fresh made × IfBoth fresh made (IsCopied g opened last) =
      subst (λ (m : Option (Held S)). HasBoth shows fresh m × IfBoth fresh m (IsCopied g opened last)) (sym same_made)
      (subst (λ (f : Option (Held S)). HasBoth shows f taken × IfBoth f taken (IsCopied g opened last)) same_fresh
      (subst (λ b. HasBoth b between taken × IfBoth between taken (IsCopied g opened last)) same_shows told)) in
      (all.0, makes_copy g stood left opened last conn leaves fresh made is same took all.1)

  pub not_copied_from : {T : Type 0} (r : Result T Refusal) (was mid : Option (Held S)) → mid ≡ was → IfErr r IsInitRefusal → IfErr r (LeavesTarget g opened last mid between taken)
      → IfErr r (LeavesCopy g stood left was fresh made)
  not_copied_from (Ok value) was mid same_was why target = tt
  not_copied_from (Err refusal) was mid same_was why target =
      leaves_copy g stood left opened last conn leaves was fresh made refusal why is same took
      (subst (λ (m : Option (Held S)). LeavesTarget g opened last was fresh m refusal) (sym same_made)
      (subst (λ (f : Option (Held S)). LeavesTarget g opened last was f taken refusal) same_fresh
      (subst (λ (w : Option (Held S)). LeavesTarget g opened last w between taken refusal) same_was target)))

-- or no connection for it was had
pub none_to : {S : Type 0} (g : Ghosts S) (from last : Held S) (was fresh made : Option (Held S)) (refusal : Refusal) → made ≡ was → LeavesTarget g from last was fresh made refusal
none_to {S} g from last was fresh made refusal same = subst (λ m. LeavesTarget g from last was fresh m refusal) (sym same) (go refusal was fresh)
  where
    go : (r : Refusal) (w f : Option (Held S)) → LeavesTarget g from last w f w r
    go NoMemory w f = none_still w
    go r w None = tt
    go r None (Some old) = tt
    go r (Some new) (Some old) = inl refl

-- where no new store was asked for none was made
none_new : {S : Type 0} (stood left was fresh : Option (Held S)) (P : Held S → Held S → Held S → Held S → Type 0) → LeavesNew stood left was fresh was P
none_new None left was fresh P = tt
none_new (Some before) None was fresh P = tt
none_new (Some before) (Some last) was None P = tt
none_new (Some before) (Some last) None (Some old) P = tt
none_new (Some before) (Some last) (Some new) (Some old) P = inl refl

pub same_new : {S : Type 0} (stood left was fresh made : Option (Held S)) (P : Held S → Held S → Held S → Held S → Type 0) → made ≡ was → LeavesNew stood left was fresh made P
same_new stood left was fresh made P same = subst (λ m. LeavesNew stood left was fresh m P) (sym same) (none_new stood left was fresh P)

none_taken : {S : Type 0} (was made : Option (Held S)) → made ≡ was → LeavesNone was made
none_taken {S} was made same = subst (λ (m : Option (Held S)). LeavesNone was m) (sym same) (none_still was)

no_device : IsOpenRefusal Device → ⊥
no_device opening = of_opening (λ r. r ≢ Device) Device opening (λ is. cc is) (λ is. cc is) (λ is. cc is) (λ is. cc is) (λ is. cc is) refl

no_exists : IsOpenRefusal Exists → ⊥
no_exists opening = let three : 1 ≡ 3 = opening_is_3 Exists opening in omega (arith, three)

-- nor where the desk was not opened
pub unopened_new : {S : Type 0} (g : Ghosts S) (stood left was fresh made : Option (Held S)) (refusal : Refusal) → IsOpenRefusal refusal → made ≡ was
    → LeavesCopy g stood left was fresh made refusal
unopened_new g stood left was fresh made Device opening same = absurd (no_device opening)
unopened_new g stood left was fresh made Exists opening same = absurd (no_exists opening)
unopened_new g stood left was fresh made Store opening same = same_new stood left was fresh made (LeavesNoPart g) same
unopened_new g stood left was fresh made refusal opening same = none_taken was made same

-- ---- why not

-- where no copy was made nothing was written
pub not_copied : (refusal : Refusal) (out : Option (List ℕ)) → IsCopyRefusal refusal → RefusesCopy refusal out out
not_copied Device out (inl opening) = absurd (no_device opening)
not_copied Device out (inr is) = cc is
not_copied refusal out why = (Keeps-refl out, why)

-- why a desk is not made is why none is copied
pub init_to_copy : (refusal : Refusal) → IsInitRefusal refusal → IsCopyRefusal refusal
init_to_copy refusal (inl exists) = inr exists
init_to_copy refusal (inr (inl store)) = inl (inr (inr (inr (inl store))))
init_to_copy refusal (inr (inr memory)) = inl (inr (inr (inr (inr memory))))

-- it names no opening
pub init_opens : {S : Type 0} (g : Ghosts S) (old new : Option (Held S)) (refusal : Refusal) → IsInitRefusal refusal → NamesOpening g old new refusal
init_opens g old new refusal (inl exists) = subst (NamesOpening g old new) (sym exists) tt
init_opens g old new refusal (inr (inl store)) = subst (NamesOpening g old new) (sym store) tt
init_opens g old new refusal (inr (inr memory)) = subst (NamesOpening g old new) (sym memory) tt

pub init_refused : {T : Type 0} (r : Result T Refusal) → IfErr r IsInitRefusal → IfErr r IsCopyRefusal
init_refused r = IfErr-weaker r IsInitRefusal IsCopyRefusal init_to_copy

pub init_opens_all : {T : Type 0} (r : Result T Refusal) {S : Type 0} (g : Ghosts S) (old new : Option (Held S)) → IfErr r IsInitRefusal → IfErr r (NamesOpening g old new)
init_opens_all r g old new = IfErr-weaker r IsInitRefusal (NamesOpening g old new) (init_opens g old new)

-- a machine whose connection for a new store is the same has given it back
pub back_same : {S : Type 0} (shows : Bool) (was made : Option (Held S)) → made ≡ was → GivesBack shows was made
back_same shows was made same shown some = subst (λ o. IsSome o) (sym same) some

pub back_between : {S : Type 0} (shows mid : Bool) (was between made taken : Option (Held S)) → mid ≡ shows → between ≡ was → made ≡ taken → GivesBack mid between taken → GivesBack shows was made
back_between {S} shows mid was between made taken same_shows same_was same_made back =
    subst (λ (m : Option (Held S)). GivesBack shows was m) (sym same_made) (subst (λ (w : Option (Held S)). GivesBack shows w taken) same_was (subst (λ b. GivesBack b between taken) same_shows back))

-- what is left where only the line about it was not written
pub device_leaves : {T : Type 0} (r : Result T Refusal) {S : Type 0} (g : Ghosts S) (stood left was fresh made : Option (Held S)) → IfErr r (λ refusal. refusal ≡ Device)
    → IfAll stood left fresh made (MakesCopy g) → IfErr r (LeavesCopy g stood left was fresh made)
device_leaves r g stood left was fresh made device made_it = IfErr-weaker r _ _ (λ refusal is. subst (LeavesCopy g stood left was fresh made) (sym is) made_it) device

-- it is no refusal of the words
pub copy_never : (refusal : Refusal) (old new : Option (List ℕ)) → RefusesCopy refusal old new → status_of refusal ≢ 2
copy_never Device old new refused two = let three : 2 ≡ 3 = sym two in omega (arith, three)
copy_never refusal old new (keeps, inl opening) two = let three : 2 ≡ 3 = sym two ∙ opening_is_3 refusal opening in omega (arith, three)
copy_never refusal old new (keeps, inr exists) two = let one : 2 ≡ 1 = sym two ∙ subst (λ r. status_of r ≡ 1) (sym exists) refl in omega (arith, one)

-- where something was there already nothing was written
pub copy_kept : (refusal : Refusal) (old new : Option (List ℕ)) → RefusesCopy refusal old new → status_of refusal ≡ 1 → Keeps old new
copy_kept Device old new refused one = absurd (let three : 3 ≡ 1 = one in omega (arith, three))
copy_kept refusal old new refused one = refused.0

-- what is done, and told
pub copy_done : {T E : Type 0} (r : Result T E) (P Q R : Type 0) → OnOk r (P × Q) → OnOk r R → OnOk r (P × Q × R)
copy_done (Ok value) P Q R done told = (done.0, done.1, told)
copy_done (Err error) P Q R done told = tt
