-- The text of a day is its date.
use Rattle.std.proofs.Common.{◌≡◌, ℤ, ℕ, List}
use Rattle.rd_policy.proofs.DateLemmas.{one_text}
use Rattle.rd_policy.specs.Dates.{IsDateOf}
use Rattle.rd_policy.specs.Days.{IsDay}
use Rattle.rd_protocol.specs.DayTexts.{dated, day_text}

-- each day has this date
pub has_text : (day : ℤ) → IsDay day → IsDateOf day (day_text day)
has_text day in_range = (dated day).1 in_range

-- a day has no other date
pub is_text : (day : ℤ) (text : List ℕ) → IsDateOf day text → text ≡ day_text day
is_text day text is = one_text day text (day_text day) is (has_text day is.in_range)
