-- The moment at which a command asks a desk.
use Rattle.std.specs.Prelude.{◌≡◌, ◌⊎◌, ⊤, ℤ, Bool, IfErr, IfSome, IsTrue, OnOk, Option, Result, false, true}
use Rattle.sqlite.specs.Held.{Held}
use Rattle.sqlite.specs.Store.{Ghosts}
use Rattle.rd_policy.specs.Days.{HasDay}
use Rattle.rd_policy.specs.Zones.{day_number}
use Rattle.rd_policy.specs.declared.zone.Zone.{Zone}
use Rattle.rd_store.specs.Held.{IsOpen, Keeps, desk}
use Rattle.rd_store.specs.Migrated.{IsMigrated}
use Rattle.rd_commands.specs.declared.done.Done.{Done}
use Rattle.rd_commands.specs.declared.refusal.Refusal.{Refusal}
use Rattle.rd_commands.specs.declared.refusal.Refusal.TheVariants.{Clock}
use Rattle.rd_commands.specs.declared.words.WhenAsk.{WhenAsk}
use Rattle.rd_program.specs.Leaves.{IsOfOpenDesk, moment_of}
use Rattle.rd_program.specs.OnTime.{IsBehindOn, IsOnTime, must_be_on_time}
use Rattle.rd_program.specs.Serving.{IsDayless}
use Rattle.rd_program.specs.Showing.{EndsWith}

-- A desk was opened in the store, and at most read since.
abbrev pub IsOpenedToRead : {S : Type 0} → Ghosts S → Held S → Held S → Type 0
IsOpenedToRead {S} g before last = IsMigrated g before last ⊎ ((opened : Held S) × IsMigrated g before opened × Keeps g opened last)

-- `clock` comes only where a desk was opened in the store, and at most read since: not even that, if what the command
-- does is the same on each day. If the words name a moment, this has no day, and nothing more was done.
abbrev pub IsClockDue : {S : Type 0} → Ghosts S → Bool → Option ℤ → Option (Held S) → Option (Held S) → Refusal → Type 0
IsClockDue g dated moment stood left Clock =
    EndsWith stood left (IsOpenedToRead g) × (dated ≡ false → EndsWith stood left (IsMigrated g))
    × IfSome moment (λ seconds. ¬ HasDay seconds × EndsWith stood left (IsMigrated g))
IsClockDue g dated moment stood left refusal = ⊤

-- ---- inside

-- nothing was done over the connection of an open desk, or the desk was read
abbrev pub IsStillOrRead : {S : Type 0} → Ghosts S → Held S → Held S → Type 0
IsStillOrRead g opened last = (last ≡ opened) ⊎ Keeps g opened last

-- the same for the connection of an open desk
abbrev pub IsClockOn : {S : Type 0} → Ghosts S → Bool → Option ℤ → Held S → Held S → Refusal → Type 0
IsClockOn g dated moment opened last Clock =
    IsStillOrRead g opened last × (dated ≡ false → last ≡ opened) × IfSome moment (λ seconds. ¬ HasDay seconds × (last ≡ opened))
IsClockOn g dated moment opened last refusal = ⊤

-- An open desk is asked at a moment. If the moment is known and has no day, the desk is not asked. If the words name none, do
-- not trust the clock, and ask what depends on the day, the clock was not behind the recorded checks where it is asked; and
-- `clock` comes only where the moment has no day, or the clock is behind. No refusal says that no desk was opened.
pub record AsksOn {S : Type 0} (g : Ghosts S) (dated : Bool) (when : WhenAsk) (clock : Option ℤ) (zone : Zone) (opened last : Held S) (result : Result Done Refusal) : Type 0 where
  pub dayless : IsDayless (moment_of when.seconds clock) result
  pub on_time : dated ≡ true → IsTrue (must_be_on_time when.seconds when.is_trusting)
      → OnOk result (IfSome clock (λ seconds. IsOpen g last → IsOnTime (day_number seconds zone) (desk g opened)))
  pub due : IfErr result (IsClockOn g dated when.seconds opened last)
  pub behind : IfErr result (IsBehindOn g dated (must_be_on_time when.seconds when.is_trusting) (moment_of when.seconds clock) zone opened last)
  pub opened_first : IfErr result IsOfOpenDesk
