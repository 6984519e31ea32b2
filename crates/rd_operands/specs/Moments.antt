-- The first moment of a day, as the clocks of a place show it. A moment is a number of seconds since 1970-01-01 began
-- in UTC, and a day a number of days since that day.
use Rattle.std.specs.Prelude.{◌≡◌, ℤ, ◌<ℤ◌, ◌≤ℤ◌}
use Rattle.rd_policy.specs.Days.{HasDay}
use Rattle.rd_policy.specs.Zones.{day_number}
use Rattle.rd_policy.specs.declared.zone.Zone.{Zone}

-- the clocks of the zone show the day at the moment
abbrev pub IsOnDay : ℤ → Zone → ℤ → Type 0
IsOnDay day zone seconds = HasDay seconds × (day_number seconds zone ≡ day)

-- The moment is the first at which the clocks of the zone show the day.
pub record IsFirstMoment (day : ℤ) (zone : Zone) (seconds : ℤ) : Type 0 where
  pub on_day : IsOnDay day zone seconds
  pub first : (earlier : ℤ) → earlier <ℤ seconds → ¬ IsOnDay day zone earlier

-- the clocks of the zone show the day at no moment
abbrev pub HasNoMoment : ℤ → Zone → Type 0
HasNoMoment day zone = (seconds : ℤ) → ¬ IsOnDay day zone seconds

-- from one moment on, before another, the clocks never show the day
abbrev pub HasNoneFrom : ℤ → ℤ → ℤ → Zone → Type 0
HasNoneFrom start end day zone = (seconds : ℤ) → start ≤ℤ seconds → seconds <ℤ end → ¬ IsOnDay day zone seconds

-- The moment is the first from another on at which the clocks show the day.
pub record IsFirstFrom (start day : ℤ) (zone : Zone) (seconds : ℤ) : Type 0 where
  pub on_day : IsOnDay day zone seconds
  pub none : HasNoneFrom start seconds day zone

-- a day has one first moment
abbrev pub HasOneMoment : Type 0
HasOneMoment = (day : ℤ) (zone : Zone) (one other : ℤ) → IsFirstMoment day zone one → IsFirstMoment day zone other → one ≡ other
