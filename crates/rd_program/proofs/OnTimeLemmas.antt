-- A desk that is asked whether the clock is behind its checks, before it is asked what the command asks.
use Rattle.std.proofs.Common.{◌≡◌, ◌≢◌, ◌⊎◌, ◌∙◌, Bool, ℕ, ℤ, List, Option, Result, Ok, Err, IfErr, IfOk, IfSome, IsTrue, None, OnOk, Some, ap, false, inl, inr, refl, subst, sym, true}
use Rattle.std.specs.Prelude.{MatchBool}
use Rattle.sqlite.specs.Held.{Held}
use Rattle.sqlite.specs.Store.{Ghosts}
use Rattle.rd_holdings.specs.State.{Desk}
use Rattle.rd_policy.specs.Days.{HasDay}
use Rattle.rd_policy.specs.Zones.{day_number}
use Rattle.rd_policy.specs.declared.zone.Zone.{Zone}
use Rattle.rd_protocol.specs.declared.refusal.Refusal.TheVariants as desk_refusal
use Rattle.rd_protocol.specs.declared.request.Request.{Request}
use Rattle.rd_store.specs.Held.{IsOpen, Lasts, desk}
use Rattle.rd_store.specs.Migrated.{IsMigrated}
use Rattle.rd_commands.specs.declared.refusal.Refusal.{Refusal}
use Rattle.rd_commands.specs.declared.refusal.Refusal.TheVariants.{NoAccession, StaffOnly, Store, UnknownKey}
use Rattle.rd_commands.specs.declared.words.Question.{Question}
use Rattle.rd_commands.specs.declared.words.Question.TheVariants.{Catalogue, Check, Show}
use Rattle.rd_program.specs.Asking.{IsAskRefusal}
use Rattle.rd_program.specs.Leaves.{Checks, IsDayAt, IsSame, LeavesDesk, StepsOf, TakesIn, moment_of}
use Rattle.rd_program.specs.OnTime.{IsBehind, IsOnTime, IsOnTimeBy, ServesOnTime, StoodOnTime, WasOnTime, must_be_on_time}
use Rattle.rd_program.specs.Serving.{IsClockRefusal}
use Rattle.rd_program.specs.Showing.{IsDueOn, IsRefusedFor, OfDesk}
use Rattle.rd_program.proofs.DeskSteps.{steps_on, takes_on}
use Rattle.rd_program.proofs.LeftStores.{desk_then}
use Rattle.rd_program.proofs.ShowLemmas.{clock_due, clock_no_accession, ends_with}

module _ {S : Type 0} (g : Ghosts S) (old mid new : Held S) (same : LeavesDesk g IsSame old mid) (lasts : Lasts g mid new) where
  of_desk_from : (P : Desk → Desk → Type 0) → OfDesk g P mid new → OfDesk g P old new
  of_desk_from P holds = λ clean. let found = holds clean in (found.0, subst (λ d. P d (desk g new)) (same.reached (lasts.was_open found.0)) found.1)

  -- what holds of the desk after the question holds of the one before it
  pub ok_from : {T E : Type 0} (r : Result T E) (P : Desk → Desk → Type 0) → OnOk r (OfDesk g P mid new) → OnOk r (OfDesk g P old new)
  ok_from (Ok value) P holds = of_desk_from P holds
  ok_from (Err error) P holds = tt

  pub if_ok_from : {T E : Type 0} (r : Result T E) (P : T → Desk → Desk → Type 0) → IfOk r (λ value. OfDesk g (P value) mid new) → IfOk r (λ value. OfDesk g (P value) old new)
  if_ok_from (Ok value) P holds = of_desk_from (P value) holds
  if_ok_from (Err error) P holds = tt

  due_one : (Days : ℤ → Type 0) (asked : Request) (refusal : Refusal) → IsDueOn g Days asked mid new refusal → IsDueOn g Days asked old new refusal
  due_one Days asked UnknownKey due = of_desk_from (λ stood after. IsRefusedFor Days asked desk_refusal.UnknownKey stood) due
  due_one Days asked StaffOnly due = of_desk_from (λ stood after. IsRefusedFor Days asked desk_refusal.StaffOnly stood) due
  due_one Days asked NoAccession due = of_desk_from (λ stood after. IsRefusedFor Days asked desk_refusal.NoAccession stood) due
  due_one Days asked refusal due = tt

  pub due_from : {T : Type 0} (r : Result T Refusal) (Days : ℤ → Type 0) (asked : Request) → IfErr r (IsDueOn g Days asked mid new) → IfErr r (IsDueOn g Days asked old new)
  due_from (Ok value) Days asked due = tt
  due_from (Err refusal) Days asked due = due_one Days asked refusal due

  -- and so what is reached
  pub reached_from : (First Both : Desk → Desk → Type 0) → ((d e : Desk) → First d e → Both d e) → LeavesDesk g First mid new → LeavesDesk g Both old new
  reached_from First Both weaker leaves = desk_then g IsSame First Both old mid new (λ d e f was then. subst (λ x. Both x f) was (weaker e f then)) same leaves

  -- a question that changes nothing
  pub same_from : (badge : Option (List ℕ)) (Days : ℤ → Type 0) (asked : Question) → ((d e : Desk) → IsSame d e → StepsOf badge Days asked d e) → LeavesDesk g IsSame mid new
      → LeavesDesk g (StepsOf badge Days asked) old new
  same_from badge Days asked steps leaves = reached_from IsSame (StepsOf badge Days asked) steps leaves

  -- a check, on one of these days
  pub check_from : (Days : ℤ → Type 0) (day : ℤ) (b badge : Option (List ℕ)) (acc : ℕ) (asked : Question) → Days day → b ≡ badge → asked ≡ Check acc
      → LeavesDesk g (Checks b acc (λ d. d ≡ day)) mid new → LeavesDesk g (StepsOf badge Days asked) old new
  check_from Days day b badge acc asked at same_badge is leaves =
      subst (λ q. LeavesDesk g (StepsOf badge Days q) old new) (sym is)
      (reached_from (Checks b acc (λ d. d ≡ day)) (Checks badge acc Days) (λ d e checks. subst (λ x. Checks x acc Days d e) same_badge
      (steps_on (λ d. d ≡ day) Days b (Check acc) d e (λ x here. subst Days (sym here) at) checks)) leaves)

  -- images that are taken in, on one of these days
  pub takes_from : (Days : ℤ → Type 0) (day : ℤ) (b badge : List ℕ) → Days day → b ≡ badge → LeavesDesk g (TakesIn b (λ d. d ≡ day)) mid new → LeavesDesk g (TakesIn badge Days) old new
  takes_from Days day b badge at same_badge leaves =
      reached_from (TakesIn b (λ d. d ≡ day)) (TakesIn badge Days)
      (λ d e taken. subst (λ x. TakesIn x Days d e) same_badge (takes_on (λ d. d ≡ day) Days b d e (λ x here. subst Days (sym here) at) taken)) leaves

-- no question was asked
pub still_steps : {S : Type 0} (g : Ghosts S) (old new : Held S) (badge : Option (List ℕ)) (Days : ℤ → Type 0) (asked : Question) → LeavesDesk g IsSame old new
    → LeavesDesk g (StepsOf badge Days asked) old new
still_steps g old new badge Days Catalogue leaves = leaves
still_steps g old new badge Days (Show what) leaves = leaves
still_steps g old new badge Days (Check acc) leaves = record { lasts = leaves.lasts; reached = λ is_open. inl (leaves.reached is_open) }

-- ---- why no day is found

pub day_asks : (refusal : Refusal) → IsClockRefusal refusal ⊎ (refusal ≡ Store) → IsAskRefusal refusal
day_asks refusal (inl clock) = inr (inl clock)
day_asks refusal (inr store) = inl (inr (inr (inr (inl store))))

pub day_no_accession : (refusal : Refusal) → IsClockRefusal refusal ⊎ (refusal ≡ Store) → refusal ≢ NoAccession
day_no_accession refusal (inl clock) = clock_no_accession refusal clock
day_no_accession refusal (inr store) = λ is. cc (sym store ∙ is)

pub day_due : {S : Type 0} (g : Ghosts S) (Days : ℤ → Type 0) (asked : Request) (opened last : Held S) (refusal : Refusal) → IsClockRefusal refusal ⊎ (refusal ≡ Store)
    → IsDueOn g Days asked opened last refusal
day_due g Days asked opened last refusal (inl clock) = clock_due g Days asked opened last refusal clock
day_due g Days asked opened last refusal (inr store) = subst (IsDueOn g Days asked opened last) (sym store) tt

-- ---- the day of the clock

unset : false ≡ true → ⊥
unset set = cc

-- then no moment is named
none_held : (moment : Option ℤ) (trusting : Bool) → IsTrue (must_be_on_time moment trusting) → moment ≡ None
none_held None trusting held = refl
none_held (Some seconds) trusting held = absurd (unset held)

module _ {S : Type 0} (g : Ghosts S) (old mid new : Held S) (lasts : Lasts g mid new) (clock : Option ℤ) (zone : Zone) (day : ℤ) where
  on_clock : {T E : Type 0} (r : Result T E) → IsDayAt clock zone day → (IsOpen g mid → IsOnTime day (desk g old))
      → OnOk r (IfSome clock (λ seconds. IsOpen g new → IsOnTime (day_number seconds zone) (desk g old)))
  on_clock (Err error) at on = tt
  on_clock (Ok value) at on = go clock at
    where
      go : (c : Option ℤ) → IsDayAt c zone day → IfSome c (λ seconds. IsOpen g new → IsOnTime (day_number seconds zone) (desk g old))
      go None at = tt
      go (Some seconds) at = λ is_open. subst (λ d. IsOnTime d (desk g old)) (at.is ∙ ap (λ s. day_number s zone) at.named) (on (lasts.was_open is_open))

  -- what was on time on the day of the question was on time by the clock
  pub on_time_from : {T E : Type 0} (r : Result T E) (moment : Option ℤ) (trusting : Bool) → IsTrue (must_be_on_time moment trusting) → IsDayAt (moment_of moment clock) zone day
      → (IsTrue (must_be_on_time moment trusting) → IsOpen g mid → IsOnTime day (desk g old))
      → OnOk r (IfSome clock (λ seconds. IsOpen g new → IsOnTime (day_number seconds zone) (desk g old)))
  on_time_from r moment trusting held at on = on_clock r (subst (λ m. IsDayAt (moment_of m clock) zone day) (none_held moment trusting held) at) (on held)

-- ---- the desk that stood

module _ {S : Type 0} (g : Ghosts S) (old new : Option (Held S)) (opened last conn : Held S) (clock : Option ℤ) (zone : Zone) where
  -- what holds of the one that was opened holds of the one that the tables spelled
  pub stood_on_time : {T E : Type 0} (r : Result T E) → IfSome old (λ before. IsMigrated g before opened) → Lasts g opened last → conn ≡ last
      → IfSome new (λ held. Some conn ≡ Some held) → OnOk r (IfSome clock (λ seconds. IsOpen g last → IsOnTime (day_number seconds zone) (desk g opened)))
      → OnOk r (WasOnTime g clock zone old new)
  stood_on_time (Err error) is lasts same took on = tt
  stood_on_time (Ok value) is lasts same took on = go clock on
    where
      go : (c : Option ℤ) → IfSome c (λ seconds. IsOpen g last → IsOnTime (day_number seconds zone) (desk g opened)) → WasOnTime g c zone old new
      go None on = tt
      go (Some seconds) on =
          ends_with g old new opened last conn (StoodOnTime g (day_number seconds zone)) is
          (λ before at is_open. (desk g opened, at.is (lasts.was_open is_open), on is_open)) same took

-- ---- visits by the clock

-- a clock that is looked at shows what it shows next, and does not fail where it shows that
pub shown_some : (clock : Option ℤ) (seconds : ℤ) → IfSome clock (λ moment. seconds ≡ moment) → IfSome clock (λ moment. Some seconds ≡ Some moment)
shown_some None seconds is = tt
shown_some (Some moment) seconds is = ap Some is

no_both : {T E : Type 0} (r : Result T E) (fault : E) (value : T) → r ≡ Err fault → r ≡ Ok value → ⊥
no_both r fault value failed given = cc

pub shown_none : {E : Type 0} (r : Result ℤ E) (fault : E) (clock : Option ℤ) → r ≡ Err fault → IfSome clock (λ moment. r ≡ Ok moment) → IfSome clock (λ moment. None ≡ Some moment)
shown_none r fault None failed sure = tt
shown_none r fault (Some moment) failed sure = absurd (no_both r fault moment failed sure)

-- a day that is not behind is on time
pub late_on_time : {S E : Type 0} (g : Ghosts S) (r : Result Bool E) (shown : Option ℤ) (seconds day : ℤ) (zone : Zone) (old new : Held S) → shown ≡ Some seconds
    → IfOk r (λ late. IsOpen g new → MatchBool late (IsBehind day (desk g old)) (IsOnTime day (desk g old))) → day ≡ day_number seconds zone
    → IfOk r (λ late. late ≡ false → IsOnTimeBy g shown zone old new)
late_on_time g (Err error) shown seconds day zone old new is found by = tt
late_on_time g (Ok late) shown seconds day zone old new is found by = λ timely. subst (λ o. IsOnTimeBy g o zone old new) (sym is) (λ has is_open.
    subst (λ d. IsOnTime d (desk g old)) by (subst (λ b. MatchBool b (IsBehind day (desk g old)) (IsOnTime day (desk g old))) timely (found is_open)))

-- the moment that was looked at is that of the clock
pub clock_on_time : {S : Type 0} (g : Ghosts S) (clock shown : Option ℤ) (zone : Zone) (old mid new : Held S) → (IsOpen g new → IsOpen g mid)
    → IfSome clock (λ moment. shown ≡ Some moment) → IsOnTimeBy g shown zone old mid → IsOnTimeBy g clock zone old new
clock_on_time g None shown zone old mid new was sure on = tt
clock_on_time g (Some seconds) shown zone old mid new was sure on = λ has is_open. go (subst (λ o. IsOnTimeBy g o zone old mid) sure on) has is_open
  where
    go : IsOnTimeBy g (Some seconds) zone old mid → HasDay seconds → IsOpen g new → IsOnTime (day_number seconds zone) (desk g old)
    go on has is_open = on has (was is_open)

-- and so it was by the desk that stood
pub served_on_time : {S : Type 0} (g : Ghosts S) (old new : Option (Held S)) (opened last conn : Held S) (clock later : Option ℤ) (zone asked : Zone)
    → IfSome old (λ before. IsMigrated g before opened) → Lasts g opened last → conn ≡ last → IfSome new (λ held. Some conn ≡ Some held)
    → later ≡ clock → zone ≡ asked → IsOnTimeBy g later zone opened last → ServesOnTime g clock asked old new
served_on_time g old new opened last conn clock later zone asked is lasts same took shown by on =
    go clock (subst (λ z. IsOnTimeBy g clock z opened last) by (subst (λ c. IsOnTimeBy g c zone opened last) shown on))
  where
    go : (c : Option ℤ) → IsOnTimeBy g c asked opened last → ServesOnTime g c asked old new
    go None on = tt
    go (Some seconds) on = λ has.
        ends_with g old new opened last conn (StoodOnTime g (day_number seconds asked)) is
        (λ before at is_open. (desk g opened, at.is (lasts.was_open is_open), on has is_open)) same took
