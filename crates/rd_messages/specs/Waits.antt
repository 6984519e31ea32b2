-- A clock that shows its time, how long a visitor's reads and writes may wait by it, and how long a connection lingers.
use Rattle.std.specs.Prelude.{◌≡◌, ◌↔◌, ◌≤◌, ◌<◌, ◌+◌, ◌-◌, ◌*◌, ◌++◌, ◌∷◌, ℕ, List, [], All, IfSome, IsSome, None, Option, Some, map, min, option_map, option_to_list}
use Rattle.std.specs.Duration.{as_nanos}
use Rattle.std.specs.declared.time.Duration.{Duration}
use Rattle.rd_messages.specs.declared.pace.TimeLimits.{TimeLimits}

-- the next of the milliseconds that a clock shows
abbrev pub next_of : Option (List ℕ) → Option ℕ
next_of None = None
next_of (Some []) = None
next_of (Some (at ∷ times)) = Some at

-- at a millisecond, a time that began at another is not over, and the clock has not gone back
abbrev pub TimeLasts : Duration → ℕ → ℕ → Type 0
TimeLasts whole began at = (began ≤ at) × (at * 1_000_000 < as_nanos whole + began * 1_000_000)

-- What is left, at a millisecond, of a time that began at another.
pub record IsTimeLeft (whole : Duration) (began at : ℕ) (left : Option Duration) : Type 0 where
  pub lasts : IsSome left ↔ TimeLasts whole began at
  pub time : IfSome left (λ left. as_nanos left + at * 1_000_000 ≡ as_nanos whole + began * 1_000_000)

-- From before to after a stream makes one read, which may wait for what is left of a time at this millisecond; where
-- nothing is left, it makes none.
abbrev pub ReadsInTime : Duration → ℕ → ℕ → List ℕ → Option (List ℕ) → Type 0
ReadsInTime whole began at before after =
    (left : Option Duration) × IsTimeLeft whole began at left
    × (after ≡ Some (before ++ option_to_list (option_map as_nanos left)))

-- ---- inside

-- How long a write may wait, at a millisecond, of a reply that began at another: for what is left of the reply's time,
-- and no longer than a write may.
pub record MayWrite (limits : TimeLimits) (began at : ℕ) (wait : Option Duration) : Type 0 where
  pub lasts : IsSome wait ↔ TimeLasts limits.reply began at
  pub time : IfSome wait (λ wait. as_nanos wait
      ≡ min (as_nanos limits.reply + began * 1_000_000 - at * 1_000_000) (as_nanos limits.write))

-- the wait of so many nanoseconds that began at a millisecond ends at this millisecond
abbrev pub EndsAt : ℕ → ℕ × ℕ → Type 0
EndsAt end (at, wait) = wait + at * 1_000_000 ≡ end * 1_000_000

-- From before to after a stream makes these reads: each begins at the next of the clock's times and may wait for so
-- many nanoseconds, exactly until the end. At the later times none begins.
pub record WaitUntil (end : ℕ) (times before : List ℕ) (after : Option (List ℕ)) : Type 0 where
  pub waits : List (ℕ × ℕ)
  pub later : List ℕ
  pub begun : times ≡ map (λ wait. wait.0) waits ++ later
  pub made : after ≡ Some (before ++ map (λ wait. wait.1) waits)
  pub ended : All (EndsAt end) waits

-- A connection lingers for 200 milliseconds at most, from the time that its clock shows first: each of its reads may
-- wait exactly until they are over. It may make none.
abbrev pub Lingers : List ℕ → List ℕ → Option (List ℕ) → Type 0
Lingers [] before after = after ≡ Some before
Lingers (began ∷ times) before after = WaitUntil (200 + began) times before after

-- the waits of a stream that shows them, by a clock that shows its time: each until this millisecond
abbrev pub Ends : ℕ → Option (List ℕ) → Option (List ℕ) → Option (List ℕ) → Type 0
Ends end times waits after = IfSome times (λ times. IfSome waits (λ before. WaitUntil end times before after))

-- the same, and the clock has shown no time beside those at which the waits began
abbrev pub GoesOn : ℕ → Option (List ℕ) → Option (List ℕ) → Option (List ℕ) → Option (List ℕ) → Type 0
GoesOn end times waits later after = IfSome times (λ times. IfSome waits (λ before.
    (so_far : WaitUntil end times before after) × (later ≡ Some so_far.later)))
