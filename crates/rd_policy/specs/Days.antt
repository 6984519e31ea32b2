-- Days are counted from 1970-01-01, which is day 0, on the calendar of ISO 8601. A moment is a number of
-- seconds since that day began in UTC.
use Rattle.std.specs.Prelude.{ℤ, pos, neg_ℤ, ◌≤ℤ◌}

-- a day from 0001-01-01 to 9999-12-31
abbrev pub IsDay : ℤ → Type 0
IsDay day = (neg_ℤ (pos 719_162) ≤ℤ day) × (day ≤ℤ pos 2_932_896)

-- The moment has a day: it is from 0001-01-03T00:00:00 to 9999-12-29T23:59:59 in UTC, two days within the years 1 and
-- 9999, so that in every zone its day has a date.
abbrev pub HasDay : ℤ → Type 0
HasDay seconds = (neg_ℤ (pos 62_135_424_000) ≤ℤ seconds) × (seconds ≤ℤ pos 253_402_127_999)
