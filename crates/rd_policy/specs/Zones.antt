-- The rules of places' clocks, and the days by them. An instant is a number of nanoseconds since
-- 1970-01-01T00:00:00 UTC.
use Rattle.std.specs.Prelude.{ℕ, ℤ, pos, neg_ℤ, ◌+ℤ◌, ◌*ℤ◌, ◌≤ℤ◌, List, IsSome}
use Rattle.std.specs.Int.{int_div_euclid}
use Rattle.jiff.specs.Placed.{IsPosixZone}
use Rattle.jiff.specs.Words.{plain_zone, read_whole, offset_at as offset_of}
use Rattle.rd_policy.specs.declared.zone.Zone.{Zone}

-- the text is a rule as jiff reads one: of the form that POSIX has for the variable TZ, where clocks may change at an
-- hour from -167 to 167 (RFC 9636)
abbrev pub IsZoneRule : List ℕ → Type 0
IsZoneRule text = IsSome (read_whole text)

-- the zone is that of the rule which the text writes
abbrev pub IsZoneOf : List ℕ → Zone → Type 0
IsZoneOf text zone = IsPosixZone text (plain_zone zone.clock)

-- how many seconds clocks may be ahead of UTC, or behind it if negative: less than 26 hours
abbrev pub IsOffset : ℤ → Type 0
IsOffset seconds = (neg_ℤ (pos 93_599) ≤ℤ seconds) × (seconds ≤ℤ pos 93_599)

-- how many seconds clocks of the zone are ahead of UTC at an instant, or behind it if negative
abbrev pub offset_at : Zone → ℤ → ℤ
offset_at zone instant = offset_of (plain_zone zone.clock) instant

-- the day of a moment in a zone, by the offset of its clocks at that moment: a day has 86,400 seconds, and the
-- quotient is rounded down, before 1970 too; day 0 is 1970-01-01
abbrev pub day_number : ℤ → Zone → ℤ
day_number seconds zone =
    int_div_euclid (seconds +ℤ offset_at zone (seconds *ℤ pos 1_000_000_000)) (pos 86_400)
