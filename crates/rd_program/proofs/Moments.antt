-- The moment at which a desk is asked: what is so of an open desk is so of the one that stood.
use Rattle.std.proofs.Common.{◌≡◌, ◌≢◌, ◌⊎◌, ◌∙◌, ℤ, Bool, Err, IfErr, IfSome, IsTrue, List, None, Ok, OnOk, Option, Result, Some, ap, inl, inr, subst, sym, true, ℕ}
use Rattle.std.proofs.lemmas.Result.{IfErr-weaker}
use Rattle.std.specs.Prelude.{IsErrAnd}
use Rattle.sqlite.specs.Held.{Held}
use Rattle.sqlite.specs.Store.{Ghosts}
use Rattle.rd_policy.specs.Zones.{day_number}
use Rattle.rd_policy.specs.declared.zone.Zone.{Zone}
use Rattle.rd_store.specs.Held.{IsOpen, Lasts, desk}
use Rattle.rd_store.specs.Migrated.{IsMigrated}
use Rattle.rd_commands.specs.declared.done.Done.{Done}
use Rattle.rd_commands.specs.declared.refusal.Refusal.{Refusal}
use Rattle.rd_commands.specs.declared.refusal.Refusal.TheVariants.{BadSheet, Clock, NoMemory, Store}
use Rattle.rd_commands.specs.declared.words.WhenAsk.{WhenAsk}
use Rattle.rd_program.specs.Asked.{AsksOn, IsClockOn}
use Rattle.rd_program.specs.Does.{AsksAt}
use Rattle.rd_program.specs.Importing.{IsRowRefusal}
use Rattle.rd_program.specs.Leaves.{IsDayAt, IsOfOpenDesk, moment_of}
use Rattle.rd_program.specs.OnTime.{IsBehindOn, IsOnTime, must_be_on_time}
use Rattle.rd_program.specs.Serving.{IsClockRefusal, IsDayless, IsOpenRefusal, IsUnasked}
use Rattle.rd_program.specs.World.{OpensStore, World}
use Rattle.rd_program.proofs.BehindLemmas.{behind_ended, no_behind_on, opening_no_behind}
use Rattle.rd_program.proofs.DaylessMoments.{clock_ended, no_clock_on, opening_no_clock, unasked}
use Rattle.rd_program.proofs.OnTimeLemmas.{on_time_from, stood_on_time}

-- a refusal that is passed on is the result
pub is_err : {T : Type 0} (r : Result T Refusal) (refusal : Refusal) → IsErrAnd r (λ other. other ≡ refusal) → r ≡ Err refusal
is_err (Ok value) refusal is = absurd is
is_err (Err other) refusal is = ap Err is

-- ---- an open desk

-- a moment that has a day
dayless_then : (moment : Option ℤ) (day : ℤ) (r : Result Done Refusal) → IsDayless {T = ℤ} moment (Ok day) → IsDayless moment r
dayless_then None day r dayless = tt
dayless_then (Some seconds) day r dayless = λ none. absurd (elim (dayless none) as (λ _. ⊥) [ inl is ↦ cc is | inr is ↦ cc is ])

-- and one that may have none
dayless_err : (moment : Option ℤ) (refusal : Refusal) → IsDayless {T = ℤ} moment (Err refusal) → IsDayless {T = Done} moment (Err refusal)
dayless_err None refusal dayless = tt
dayless_err (Some seconds) refusal dayless = λ none. elim (dayless none) [
  | inl is ↦ let clock : refusal ≡ Clock = cc is in inl (ap Err clock)
  | inr is ↦ let memory : refusal ≡ NoMemory = cc is in inr (ap Err memory)
]

-- why no day is found
day_opened : (refusal : Refusal) → IsClockRefusal refusal ⊎ (refusal ≡ Store) → IsOfOpenDesk refusal
day_opened refusal (inl (inl is)) = subst IsOfOpenDesk (sym is) tt
day_opened refusal (inl (inr is)) = subst IsOfOpenDesk (sym is) tt
day_opened refusal (inr is) = subst IsOfOpenDesk (sym is) tt

-- why a sheet or a row of it is not read or done
pub row_never : (refusal : Refusal) → (refusal ≡ BadSheet) ⊎ IsRowRefusal refusal → refusal ≢ Clock
row_never refusal (inl is) = λ clock. cc (sym is ∙ clock)
row_never refusal (inr (inl is)) = λ clock. cc (sym is ∙ clock)
row_never refusal (inr (inr (inl is))) = λ clock. cc (sym is ∙ clock)
row_never refusal (inr (inr (inr is))) = λ clock. cc (sym is ∙ clock)

pub row_opened : (refusal : Refusal) → (refusal ≡ BadSheet) ⊎ IsRowRefusal refusal → IsOfOpenDesk refusal
row_opened refusal (inl is) = subst IsOfOpenDesk (sym is) tt
row_opened refusal (inr (inl is)) = subst IsOfOpenDesk (sym is) tt
row_opened refusal (inr (inr (inl is))) = subst IsOfOpenDesk (sym is) tt
row_opened refusal (inr (inr (inr is))) = subst IsOfOpenDesk (sym is) tt

module _ {S : Type 0} (g : Ghosts S) (dated : Bool) (when : WhenAsk) (clock : Option ℤ) (zone : Zone) (old mid : Held S) where
  -- it has no day
  pub asks_none : (r : Result Done Refusal) (refusal : Refusal) → IsErrAnd r (λ other. other ≡ refusal) → IsDayless {T = ℤ} (moment_of when.seconds clock) (Err refusal)
      → IsClockOn g dated when.seconds old mid refusal → IsBehindOn g dated (must_be_on_time when.seconds when.is_trusting) (moment_of when.seconds clock) zone old mid refusal
      → IsClockRefusal refusal ⊎ (refusal ≡ Store) → AsksOn g dated when clock zone old mid r
  asks_none r refusal is dayless due behind why = subst (AsksOn g dated when clock zone old mid) (sym (is_err r refusal is)) (record {
    dayless = dayless_err (moment_of when.seconds clock) refusal dayless;
    on_time = λ dates held. tt;
    due = due;
    behind = behind;
    opened_first = day_opened refusal why;
  })

  -- it has one, and the desk was asked
  pub asks_then : (new : Held S) (r : Result Done Refusal) (day : ℤ) → Lasts g mid new → IsDayAt (moment_of when.seconds clock) zone day
      → IsDayless {T = ℤ} (moment_of when.seconds clock) (Ok day)
      → (dated ≡ true → IsTrue (must_be_on_time when.seconds when.is_trusting) → IsOpen g mid → IsOnTime day (desk g old)) → IfErr r (λ refusal. refusal ≢ Clock)
      → IfErr r IsOfOpenDesk → AsksOn g dated when clock zone old new r
  asks_then new r day lasts at dayless on never opened = record {
    dayless = dayless_then (moment_of when.seconds clock) day r dayless;
    on_time = λ dates held. on_time_from g old mid new lasts clock zone day r when.seconds when.is_trusting held at (on dates);
    due = IfErr-weaker r _ _ (no_clock_on g dated when.seconds old new) never;
    behind = IfErr-weaker r _ _ (no_behind_on g dated (must_be_on_time when.seconds when.is_trusting) (moment_of when.seconds clock) zone old new) never;
    opened_first = opened;
  }

-- ---- the desk that stood

no_moment : (moment : Option ℤ) (refusal : Refusal) → IsOpenRefusal refusal → IsUnasked {T = Done} moment (Err refusal)
no_moment None refusal opening = tt
no_moment (Some seconds) refusal opening = λ none. inl opening

module _ {S D : Type 0} (g : Ghosts S) (before mid after : World S D) (path : List ℕ) (when : WhenAsk) (dated : Bool) (r : Result Done Refusal) where
  pub asked_at : (opened last conn : Held S) (zone : Zone) → OpensStore before mid → zone ≡ when.zone → IfSome (before.stands path) (λ stood. IsMigrated g stood opened)
      → Lasts g opened last → conn ≡ last → IfSome after.left (λ held. Some conn ≡ Some held) → AsksOn g dated when mid.clock zone opened last r
      → AsksAt g before after path when dated r
  asked_at opened last conn zone frame by is lasts same took asks =
      let clock : mid.clock ≡ before.clock = ap (λ (w : World S D). w.clock) frame in
      record {
        unasked = unasked when.seconds before.clock mid.clock r clock asks.dayless;
        on_time = λ dates held. stood_on_time g (before.stands path) after.left opened last conn before.clock when.zone r is lasts same took
            (subst (λ z. OnOk r (IfSome before.clock (λ seconds. IsOpen g last → IsOnTime (day_number seconds z) (desk g opened)))) by
            (subst (λ m. OnOk r (IfSome m (λ seconds. IsOpen g last → IsOnTime (day_number seconds zone) (desk g opened)))) clock (asks.on_time dates held)));
        due = clock_ended r g dated when.seconds (before.stands path) after.left opened last conn is same took asks.due;
        behind = behind_ended g dated (must_be_on_time when.seconds when.is_trusting) (before.stands path) after.left opened last conn is lasts same took r when.seconds
            before.clock mid.clock zone when.zone clock by asks.behind;
      }

  -- no desk was opened
  pub unopened_at : (refusal : Refusal) → IsErrAnd r (λ other. other ≡ refusal) → IsOpenRefusal refusal → AsksAt g before after path when dated r
  unopened_at refusal is opening = subst (AsksAt g before after path when dated) (sym (is_err r refusal is)) (record {
    unasked = no_moment (moment_of when.seconds before.clock) refusal opening;
    on_time = λ dates held. tt;
    due = opening_no_clock g dated when.seconds (before.stands path) after.left refusal opening;
    behind = opening_no_behind g dated (must_be_on_time when.seconds when.is_trusting) (moment_of when.seconds before.clock) when.zone (before.stands path) after.left refusal opening;
  })
