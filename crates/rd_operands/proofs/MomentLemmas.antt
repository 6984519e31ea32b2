-- Where the moments of a day lie, and that the first of them is one.
use Rattle.std.specs.Prelude.{IfNone, IfSome, None, Option, Some}
use Rattle.std.proofs.Common.{◌≡◌, ◌+◌, ℕ, ℤ, pos, ◌+ℤ◌, ◌-ℤ◌, ◌*ℤ◌, ◌<ℤ◌, ◌≤ℤ◌, subst, arith, FitsSigned, to_z, of_z, w32, w64}
use Rattle.std.specs.Int.{int_div_euclid}
use Rattle.std.proofs.lemmas.Int.{by_lt_z, ints, to_z-of_z}
use Rattle.jiff_core.proofs.SignedLemmas.{int_div_euclid-parts, signed_arith}
use Rattle.jiff_tz.specs.PosixRule as PosixRule
use Rattle.jiff_tz.specs.Tzif as Table
use Rattle.jiff_tz.specs.Zone.{offset_at as offset_of}
use Rattle.jiff_tz.specs.declared.timezone.TimeZone.{TimeZone}
use Rattle.jiff_tz.specs.declared.timezone.TimeZone.TheVariants.{UTC, Unknown, Fixed, Posix, Tzif}
use Rattle.jiff.specs.Words.{plain_zone}
use Rattle.rd_policy.specs.Zones.{IsOffset, offset_at}
use Rattle.rd_policy.specs.declared.zone.Zone.{Zone}
use Rattle.rd_operands.specs.Moments.{HasNoMoment, HasNoneFrom, IsFirstFrom, IsFirstMoment, IsOnDay}

-- clocks are at most so far from UTC, at each instant
offset_in_range : (zone : TimeZone) (instant : ℤ) → IsOffset (offset_of zone instant)
unfolding offset_of
offset_in_range UTC instant = (omega (arith, ints), omega (arith, ints))
offset_in_range Unknown instant = (omega (arith, ints), omega (arith, ints))
offset_in_range (Fixed offset) instant = offset.in_range
offset_in_range (Posix rule) instant = (PosixRule.offset_at rule instant).in_range
offset_in_range (Tzif table) instant = (Table.offset_at table.now instant).in_range

-- a number of seconds whose day is this one lies in its seconds
in_day : (local day : ℤ) → int_div_euclid local (pos 86400) ≡ day → ((day *ℤ pos 86400) ≤ℤ local) × (local <ℤ (day *ℤ pos 86400 +ℤ pos 86400))
in_day local day is =
    let parts = int_div_euclid-parts local 86400 (omega arith) in
    (omega (arith, signed_arith, is, parts), omega (arith, signed_arith, is, parts))

-- a moment at which the clocks show a second of the day is at most so far from the day's seconds
near_local : (day seconds offset : ℤ) → IsOffset offset → (day *ℤ pos 86400) ≤ℤ (seconds +ℤ offset) → (seconds +ℤ offset) <ℤ (day *ℤ pos 86400 +ℤ pos 86400)
    → ((day *ℤ pos 86400 -ℤ pos 93599) ≤ℤ seconds) × (seconds <ℤ (day *ℤ pos 86400 -ℤ pos 93599 +ℤ pos 273598))
near_local day seconds offset far low high =
    (omega (arith, signed_arith, far.0, far.1, low, high), omega (arith, signed_arith, far.0, far.1, low, high))

-- the moments of a day lie near its seconds
pub near : (day : ℤ) (zone : Zone) (seconds : ℤ) → IsOnDay day zone seconds
    → ((day *ℤ pos 86400 -ℤ pos 93599) ≤ℤ seconds) × (seconds <ℤ (day *ℤ pos 86400 -ℤ pos 93599 +ℤ pos 273598))
near day zone seconds on =
    let far : IsOffset (offset_at zone (seconds *ℤ pos 1_000_000_000)) = offset_in_range (plain_zone zone.clock) (seconds *ℤ pos 1_000_000_000) in
    let within = in_day (seconds +ℤ offset_at zone (seconds *ℤ pos 1_000_000_000)) day on.1 in
    near_local day seconds (offset_at zone (seconds *ℤ pos 1_000_000_000)) far within.0 within.1

-- from a moment to itself there is none
pub none_from_itself : (start : ℤ) (day : ℤ) (zone : Zone) → HasNoneFrom start (start +ℤ pos 0) day zone
none_from_itself start day zone = λ seconds low high on. omega (arith, ints, low, high)

-- nor is there up to the next, where it is none itself
pub none_more : (start : ℤ) (place : ℕ) (day : ℤ) (zone : Zone) → HasNoneFrom start (start +ℤ pos place) day zone
    → ¬ IsOnDay day zone (start +ℤ pos place) → HasNoneFrom start (start +ℤ pos (place + 1)) day zone
none_more start place day zone before here = λ seconds low high on.
    by_lt_z seconds (start +ℤ pos place)
    (λ earlier. before seconds low earlier on)
    (λ later. let same : seconds ≡ start +ℤ pos place = omega (arith, ints) in here (subst (λ s. IsOnDay day zone s) same on))

-- the same of numbers as the code passes them
pub plain_none : (start day length : ℤ) (zone : Zone) → FitsSigned w64 start → FitsSigned w32 day
    → HasNoneFrom (to_z w64 (of_z w64 start)) (to_z w64 (of_z w64 start) +ℤ length) (to_z w32 (of_z w32 day)) zone
    → HasNoneFrom start (start +ℤ length) day zone
plain_none start day length zone fits fits_day none =
    subst (λ d. HasNoneFrom start (start +ℤ length) d zone) (to_z-of_z w32 day fits_day)
    (subst (λ s. HasNoneFrom s (s +ℤ length) (to_z w32 (of_z w32 day)) zone) (to_z-of_z w64 start fits) none)

-- a day has one first moment
pub one_first : (day : ℤ) (zone : Zone) (one other : ℤ) → IsFirstMoment day zone one → IsFirstMoment day zone other → one ≡ other
one_first day zone one other first second =
    by_lt_z one other
    (λ earlier. absurd (second.first one earlier first.on_day))
    (λ later. by_lt_z other one
    (λ earlier. absurd (first.first other earlier second.on_day))
    (λ same. omega (arith, ints)))

-- the first moment from the earliest that the day may have is its first
pub first_of_all : (day : ℤ) (zone : Zone) (seconds : ℤ) → IsFirstFrom (day *ℤ pos 86400 -ℤ pos 93599) day zone seconds
    → IsFirstMoment day zone seconds
first_of_all day zone seconds is = record {
  on_day = is.on_day;
  first = λ earlier before on. is.none earlier (near day zone earlier on).0 before on;
}

-- where none of the moments that it may have is one, it has none
pub none_at_all : (day : ℤ) (zone : Zone)
    → HasNoneFrom (day *ℤ pos 86400 -ℤ pos 93599) (day *ℤ pos 86400 -ℤ pos 93599 +ℤ pos 273598) day zone → HasNoMoment day zone
none_at_all day zone none = λ seconds on. none seconds (near day zone seconds on).0 (near day zone seconds on).1 on

-- what is true of a moment that was found, by what is true of it otherwise
pub if_found : (found : Option ℤ) (P Q : ℤ → Type 0) → ((seconds : ℤ) → P seconds → Q seconds) → IfSome found P → IfSome found Q
if_found (Some seconds) P Q so is = so seconds is
if_found None P Q so is = is

-- the same where none was found
pub if_none : (found : Option ℤ) (P Q : Type 0) → (P → Q) → IfNone found P → IfNone found Q
if_none (Some seconds) P Q so is = is
if_none None P Q so is = so is
