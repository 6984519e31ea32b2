-- What is left of the store, by what each part of a command does to its connection.
use Rattle.std.proofs.Common.{◌≡◌, ◌∙◌, ◌⊎◌, Bool, IsTrue, Option, Some, None, Result, Ok, Err, IfErr, IfSome, ap, arith, inl, inr, refl, subst, sym}
use Rattle.std.specs.Prelude.{IsErrAnd, IsSome}
use Rattle.sqlite.specs.Held.{Held}
use Rattle.sqlite.specs.Store.{Ghosts}
use Rattle.rd_store.specs.Held.{desk}
use Rattle.rd_store.specs.Migrated.{IsMigrated, IsNotMigrated}
use Rattle.rd_holdings.specs.State.{Desk}
use Rattle.rd_store.specs.declared.faults.OpenFault.{OpenFault}
use Rattle.rd_store.specs.declared.faults.OpenFault.TheVariants as open_fault
use Rattle.rd_store.proofs.Laws.{lasts_still, lasts_then}
use Rattle.rd_program.specs.Asked.{IsStillOrRead}
use Rattle.rd_program.specs.Leaves.{GivesBack, HasBoth, IfBoth, IsOfOpenDesk, IsSame, Leaves, LeavesDesk, LeavesNone, LeavesStore, LeavesUnopened, NamesOpening, OnEnded}
use Rattle.rd_program.specs.Serving.{IsOpenRefusal}
use Rattle.rd_commands.specs.Refusals.{status_of}
use Rattle.rd_commands.specs.declared.refusal.Refusal.{Refusal}
use Rattle.rd_commands.specs.declared.refusal.Refusal.TheVariants.{Inconsistent, NoMemory, NotADesk, Store, Version}

-- ---- two connections that are told

module _ {S : Type 0} where
  -- where none was taken back
  pub none_left : (was old new : Option (Held S)) (P : Held S → Held S → Type 0) → LeavesNone was new → Leaves was old new P
  none_left was None new P none = tt
  none_left was (Some before) None P none = tt
  none_left was (Some before) (Some after) P none = inl none

  pub none_still : (was : Option (Held S)) → LeavesNone was was
  none_still None = tt
  none_still (Some after) = refl

  pub leaves_weaker : (was old new : Option (Held S)) (P Q : Held S → Held S → Type 0) → ((before after : Held S) → P before after → Q before after)
      → Leaves was old new P → Leaves was old new Q
  leaves_weaker was None new P Q weaker leaves = tt
  leaves_weaker was (Some before) None P Q weaker leaves = tt
  leaves_weaker was (Some before) (Some after) P Q weaker (inl none) = inl none
  leaves_weaker was (Some before) (Some after) P Q weaker (inr fact) = inr (weaker before after fact)

-- a connection that is not made is one of the failures of opening
pub unconnected_opening : (refusal : Refusal) → (refusal ≡ NotADesk) ⊎ ((refusal ≡ Store) ⊎ (refusal ≡ NoMemory)) → IsOpenRefusal refusal
unconnected_opening refusal (inl missing) = inl missing
unconnected_opening refusal (inr (inl failed)) = inr (inr (inr (inl failed)))
unconnected_opening refusal (inr (inr memory)) = inr (inr (inr (inr memory)))

-- a machine that shows its connections has the one that it was given last
pub gives_back : {S : Type 0} (shows : Bool) (was new : Option (Held S)) (conn : Held S) → (IsTrue shows → new ≡ Some conn) → GivesBack shows was new
gives_back shows was new conn took is had = subst (λ o. IsSome o) (sym (took is)) refl

-- it had one for the store, and has taken back the one that it was given last
pub has_both : {S : Type 0} (shows : Bool) (stood left : Option (Held S)) (conn : Held S) → (IsTrue shows → IsSome stood) → (IsTrue shows → left ≡ Some conn)
    → HasBoth shows stood left
has_both shows stood left conn there took is = (there is, subst (λ o. IsSome o) (sym (took is)) refl)

-- what holds anyhow holds after a command that is done or refused
pub on_ended_always : {T : Type 0} (r : Result T Refusal) (P : Type 0) → P → OnEnded r P
on_ended_always (Ok value) P holds = holds
on_ended_always (Err refusal) P holds = λ one. holds

-- what is so of each refusal of an opening is so of one that is known to be one of them
pub of_opening : (P : Refusal → Type 0) (refusal : Refusal) → IsOpenRefusal refusal → P NotADesk → P Version → P Inconsistent → P Store → P NoMemory → P refusal
of_opening P refusal (inl is) not_a_desk version inconsistent store memory = subst P (sym is) not_a_desk
of_opening P refusal (inr (inl is)) not_a_desk version inconsistent store memory = subst P (sym is) version
of_opening P refusal (inr (inr (inl is))) not_a_desk version inconsistent store memory = subst P (sym is) inconsistent
of_opening P refusal (inr (inr (inr (inl is)))) not_a_desk version inconsistent store memory = subst P (sym is) store
of_opening P refusal (inr (inr (inr (inr is)))) not_a_desk version inconsistent store memory = subst P (sym is) memory

pub opening_is_3 : (refusal : Refusal) → IsOpenRefusal refusal → status_of refusal ≡ 3
opening_is_3 refusal opening = of_opening (λ r. status_of r ≡ 3) refusal opening refl refl refl refl refl

-- a desk that is not opened is a failure
pub opening_fails : {T : Type 0} (r : Result T Refusal) (refusal : Refusal) (P : Type 0) → IsErrAnd r (λ other. other ≡ refusal) → IsOpenRefusal refusal → OnEnded r P
opening_fails (Ok value) refusal P is opening = absurd is
opening_fails (Err other) refusal P is opening = λ one.
    let three : 1 ≡ 3 = sym one ∙ ap status_of is ∙ opening_is_3 refusal opening in absurd (omega (arith, three))

module _ {S : Type 0} (g : Ghosts S) where
  -- ---- one part after another

  pub desk_then : (First Second Both : Desk → Desk → Type 0) (old mid new : Held S) → ((d e f : Desk) → First d e → Second e f → Both d f)
      → LeavesDesk g First old mid → LeavesDesk g Second mid new → LeavesDesk g Both old new
  desk_then First Second Both old mid new joined first second = record {
    lasts = lasts_then g old mid new first.lasts second.lasts;
    reached = λ is_open. joined (desk g old) (desk g mid) (desk g new) (first.reached (second.lasts.was_open is_open)) (second.reached is_open);
  }

  -- nothing was done, or the desk was read
  pub still_same : (opened last : Held S) → IsStillOrRead g opened last → LeavesDesk g IsSame opened last
  still_same opened last (inl still) = subst (LeavesDesk g IsSame opened) (sym still) (record { lasts = lasts_still g opened; reached = λ is_open. refl })
  still_same opened last (inr keeps) = record { lasts = keeps.lasts; reached = keeps.same }

  -- ---- a desk that was opened

  pub from_opened : (Reached : Desk → Desk → Type 0) (before opened last : Held S) → IsMigrated g before opened → LeavesDesk g Reached opened last
      → LeavesStore g Reached before last
  from_opened Reached before opened last is leaves = record {
    lasts = lasts_then g before opened last is.lasts leaves.lasts;
    reached = λ is_open. inr (record {
      stood = desk g opened;
      spelled = is.is (leaves.lasts.was_open is_open);
      reached = leaves.reached is_open;
    });
  }

  -- where none was opened the database is as it was
  pub from_unopened : (Reached : Desk → Desk → Type 0) (fault : OpenFault) (before after : Held S) → IsNotMigrated g before after fault
      → LeavesStore g Reached before after
  from_unopened Reached fault before after is = record {
    lasts = is.lasts;
    reached = λ is_open. inl (is.untouched is_open);
  }

  both_unopened : (was old new : Option (Held S)) (P : Held S → Held S → Type 0) (fault : OpenFault)
      → ((before after : Held S) → IsNotMigrated g before after fault → P before after)
      → IfBoth old new (λ before after. IsNotMigrated g before after fault) → Leaves was old new P
  both_unopened was None new P fault of_fault is = tt
  both_unopened was (Some before) None P fault of_fault is = tt
  both_unopened was (Some before) (Some after) P fault of_fault is = inr (of_fault before after is)

  -- what holds wherever none was opened is what is left
  pub unopened_with : (was old new : Option (Held S)) (P : Held S → Held S → Type 0)
      → ((fault : OpenFault) (before after : Held S) → IsNotMigrated g before after fault → P before after)
      → (refusal : Refusal) → IsOpenRefusal refusal → LeavesUnopened g was old new refusal → Leaves was old new P
  unopened_with was old new P of_fault refusal (inl is) left =
      both_unopened was old new P open_fault.NotADesk (of_fault open_fault.NotADesk) (subst (LeavesUnopened g was old new) is left)
  unopened_with was old new P of_fault refusal (inr (inl is)) left =
      both_unopened was old new P open_fault.Version (of_fault open_fault.Version) (subst (LeavesUnopened g was old new) is left)
  unopened_with was old new P of_fault refusal (inr (inr (inl is))) left =
      both_unopened was old new P open_fault.Inconsistent (of_fault open_fault.Inconsistent) (subst (LeavesUnopened g was old new) is left)
  unopened_with was old new P of_fault refusal (inr (inr (inr (inl is)))) left =
      leaves_weaker was old new (λ before after. IsNotMigrated g before after open_fault.Sql) P
      (of_fault open_fault.Sql) (subst (LeavesUnopened g was old new) is left)
  unopened_with was old new P of_fault refusal (inr (inr (inr (inr is)))) left =
      none_left was old new P (subst (LeavesUnopened g was old new) is left)

  -- where there is no connection, none stood if no file is there, and none was taken back
  pub unconnected_left : (was old new : Option (Held S)) (refusal : Refusal) → (refusal ≡ NotADesk) ⊎ ((refusal ≡ Store) ⊎ (refusal ≡ NoMemory))
      → (refusal ≡ NotADesk → old ≡ None) → LeavesNone was new → LeavesUnopened g was old new refusal
  unconnected_left was old new refusal (inl missing) absent none =
      subst (LeavesUnopened g was old new) (sym missing) (subst (λ o. LeavesUnopened g was o new NotADesk) (sym (absent missing)) tt)
  unconnected_left was old new refusal (inr (inl failed)) absent none =
      subst (LeavesUnopened g was old new) (sym failed) (none_left was old new (λ before after. IsNotMigrated g before after open_fault.Sql) none)
  unconnected_left was old new refusal (inr (inr memory)) absent none = subst (LeavesUnopened g was old new) (sym memory) none

  -- an opening that failed is named as it was
  pub unopened_names : (was old new : Option (Held S)) (refusal : Refusal) → LeavesUnopened g was old new refusal → NamesOpening g old new refusal
  unopened_names was old new NotADesk left = left
  unopened_names was old new Version left = left
  unopened_names was old new Inconsistent left = left
  unopened_names was old new refusal left = tt

  -- and none where a desk was opened
  pub opened_names : {T : Type 0} (r : Result T Refusal) (old new : Option (Held S)) → IfErr r IsOfOpenDesk → IfErr r (NamesOpening g old new)
  opened_names (Ok value) old new opened = tt
  opened_names (Err refusal) old new opened = names refusal opened
    where
      names : (refusal : Refusal) → IsOfOpenDesk refusal → NamesOpening g old new refusal
      names NotADesk opened = absurd opened
      names Version opened = absurd opened
      names Inconsistent opened = absurd opened
      names refusal opened = tt

  pub unopened_left : (was old new : Option (Held S)) (Reached : Desk → Desk → Type 0) (refusal : Refusal) → IsOpenRefusal refusal
      → LeavesUnopened g was old new refusal → Leaves was old new (LeavesStore g Reached)
  unopened_left was old new Reached refusal = unopened_with was old new (LeavesStore g Reached) (from_unopened Reached) refusal

  -- what holds of the one that stood and of the last is what is left
  pub after_opening : (was old new : Option (Held S)) (P : Held S → Held S → Type 0) (opened last conn : Held S)
      → IfSome old (λ before. IsMigrated g before opened) → ((before : Held S) → IsMigrated g before opened → P before last)
      → conn ≡ last → IfSome new (λ held. Some conn ≡ Some held) → Leaves was old new P
  after_opening was None new P opened last conn is makes same took = tt
  after_opening was (Some before) None P opened last conn is makes same took = tt
  after_opening was (Some before) (Some after) P opened last conn is makes same took =
      let left : last ≡ after = cc in inr (subst (P before) left (makes before is))

  pub desk_left : (was old new : Option (Held S)) (Reached : Desk → Desk → Type 0) (opened last conn : Held S)
      → IfSome old (λ before. IsMigrated g before opened) → LeavesDesk g Reached opened last
      → conn ≡ last → IfSome new (λ held. Some conn ≡ Some held) → Leaves was old new (LeavesStore g Reached)
  desk_left was old new Reached opened last conn is leaves same took =
      after_opening was old new (LeavesStore g Reached) opened last conn is (λ before at. from_opened Reached before opened last at leaves) same took
