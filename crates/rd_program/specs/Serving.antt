-- What the command `serve` gives.
use Rattle.std.specs.Prelude.{◌≡◌, ◌*◌, ◌⊎◌, ℕ, ℤ, Bool, Err, IfSome, IsSome, IsTrue, List, Ok, Option, Result, ◌++◌, codes}
use Rattle.std.specs.Duration.{as_nanos}
use Rattle.std.specs.Fmt.{decimal}
use Rattle.rd_messages.specs.declared.pace.TimeLimits.{TimeLimits}
use Rattle.rd_commands.specs.declared.serving.Timeouts.{Timeouts}
use Rattle.std.specs.Io.KnownBytes.{Appends, Keeps}
use Rattle.rd_policy.specs.Days.{HasDay}
use Rattle.rd_http.specs.declared.serve.Ended.{Ended}
use Rattle.rd_http.specs.declared.serve.Ended.TheVariants as ended
use Rattle.rd_commands.specs.Output.{AppendsPart}
use Rattle.rd_commands.specs.Printed.{line_feed}
use Rattle.rd_commands.specs.Refusals.{IsDeviceOrMemory}
use Rattle.rd_commands.specs.Serving.{Place}
use Rattle.rd_commands.specs.Serving.Place.{Port, Socket}
use Rattle.rd_commands.specs.declared.refusal.Refusal.{Refusal}
use Rattle.rd_commands.specs.declared.refusal.Refusal.TheVariants.{Clock, Device, Inconsistent, NoMemory, NotADesk, Store, Version}

-- the line that says at which port of the machine itself visits come
abbrev pub listening_line : ℕ → List ℕ
listening_line port = codes "listening 127.0.0.1:" ++ (decimal port ++ line_feed)

-- and the line that says at the Unix socket of which path
abbrev pub listening_on : List ℕ → List ℕ
listening_on path = codes "listening " ++ (path ++ line_feed)

-- the line that says where visits come
abbrev pub listening_at : Place → List ℕ
listening_at (Port port) = listening_line port
listening_at (Socket path) = listening_on path

-- a visitor may take so many seconds
pub record AreLimitsOf (timeouts : Timeouts) (limits : TimeLimits) : Type 0 where
  pub request : as_nanos limits.request ≡ timeouts.request * 1_000_000_000
  pub write : as_nanos limits.write ≡ timeouts.write * 1_000_000_000
  pub reply : as_nanos limits.reply ≡ timeouts.reply * 1_000_000_000

-- nothing was written, or a door was lent, by a machine that shows how long visitors may take there
abbrev pub WritesOnceLent : Bool → Option TimeLimits → Option (List ℕ) → Option (List ℕ) → Type 0
WritesOnceLent shows limits old new = IsTrue shows → Keeps old new ⊎ IsSome limits

-- the line that says how many visits were served
abbrev pub served_line : ℕ → List ℕ
served_line count = codes "served " ++ (decimal count ++ line_feed)

-- both lines: where visits come, and how many were served
abbrev pub serve_text : Place → ℕ → List ℕ
serve_text place count = listening_at place ++ served_line count

-- why the desk in the file of a store is not opened
abbrev pub IsOpenRefusal : Refusal → Type 0
IsOpenRefusal refusal = (refusal ≡ NotADesk) ⊎ ((refusal ≡ Version) ⊎ ((refusal ≡ Inconsistent) ⊎ ((refusal ≡ Store) ⊎ (refusal ≡ NoMemory))))

-- why there is no moment that has a day
abbrev pub IsClockRefusal : Refusal → Type 0
IsClockRefusal refusal = (refusal ≡ Clock) ⊎ (refusal ≡ NoMemory)

-- If the moment is known and has no day, no desk is asked: this is refused because of the moment, or for want of memory.
abbrev pub IsDayless : {T : Type 0} → Option ℤ → Result T Refusal → Type 0
IsDayless moment result = IfSome moment (λ seconds. ¬ HasDay seconds → (result ≡ Err Clock) ⊎ (result ≡ Err NoMemory))

-- this result is a refusal of which this holds
abbrev pub IsRefused : {T : Type 0} → (Refusal → Type 0) → Result T Refusal → Type 0
IsRefused P (Ok value) = ⊥
IsRefused P (Err refusal) = P refusal

-- why a command that opens a desk and asks at a moment fails before it asks
abbrev pub IsUnaskedRefusal : Refusal → Type 0
IsUnaskedRefusal refusal = IsOpenRefusal refusal ⊎ IsClockRefusal refusal

-- If the moment is known and has no day, the command fails before it asks the desk.
abbrev pub IsUnasked : {T : Type 0} → Option ℤ → Result T Refusal → Type 0
IsUnasked moment result = IfSome moment (λ seconds. ¬ HasDay seconds → IsRefused IsUnaskedRefusal result)

-- Why `serve` fails, and what was written then: nothing if the desk was not opened, or its checks were not read; nothing if
-- the clock is behind, and the first line if a moment had no day; and a front part of both lines if the device failed or
-- memory ran out.
abbrev pub RefusesServe : Refusal → Place → ℕ → Option (List ℕ) → Option (List ℕ) → Type 0
RefusesServe Clock place count old new = Keeps old new ⊎ Appends old new (listening_at place)
RefusesServe Device place count old new = AppendsPart old new (serve_text place count)
RefusesServe NoMemory place count old new = AppendsPart old new (serve_text place count)
RefusesServe refusal place count old new = Keeps old new × IsOpenRefusal refusal

-- Why no visits are served, and what was written then: nothing if the clock is behind or the checks were not read, and a front
-- part of the first line if the device failed or memory ran out.
abbrev pub RefusesVisits : Place → Option (List ℕ) → Option (List ℕ) → Refusal → Type 0
RefusesVisits place old new Clock = Keeps old new
RefusesVisits place old new Store = Keeps old new
RefusesVisits place old new refusal = IsDeviceOrMemory refusal × AppendsPart old new (listening_at place)

-- Why a run of visits that ended so is no success, and what was written then: after all visits the
-- device failed or memory ran out, a moment had no day, or the door shut.
abbrev pub RefusesToEnd : Ended → ℕ → Option (List ℕ) → Option (List ℕ) → Refusal → Type 0
RefusesToEnd ended.Count visits old new refusal = IsDeviceOrMemory refusal × AppendsPart old new (served_line visits)
RefusesToEnd ended.Clock visits old new refusal = (refusal ≡ Clock) × Keeps old new
RefusesToEnd ended.Shut visits old new refusal = (refusal ≡ Device) × Keeps old new
