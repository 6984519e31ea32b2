-- The day that a part of a path names by its date.
use Rattle.std.specs.Prelude.{◌≡◌, ℕ, ◌+◌, ◌-◌, ◌<◌, ℤ, pos, neg_ℤ, ◌+ℤ◌, List, MatchOption, None, Option, Some}
use Rattle.std.proofs.Common.{ap, arith, refl, subst, sym}
use Rattle.std.proofs.lemmas.Int.{ints}
use Rattle.rd_geometry.proofs.Decidability.{Decided, decided_text, fails, holds, some_below}
use Rattle.rd_policy.proofs.DateLemmas.{one_day, one_text}
use Rattle.rd_policy.specs.Dates.{IsDateOf, IsNoDate}
use Rattle.rd_policy.specs.Days.{IsDay}
use Rattle.rd_protocol.specs.DayTexts.{dated, day_text}
use borrow.Author.Differences.{up, down}

-- the text is the date of the day that was found, or of none if none was found
abbrev pub Dates : List ℕ → Option ℤ → Type 0
Dates text found = MatchOption found (IsNoDate text) (λ day. IsDateOf day text)

-- the day at a place of those from 0001-01-01 on
abbrev nth_day : ℕ → ℤ
nth_day place = neg_ℤ (pos 719_162) +ℤ pos place

-- each day from 0001-01-01 to 9999-12-31 has a place
place_of : (day : ℤ) → IsDay day → (place : ℕ) × (place < 3_652_059) × (nth_day place ≡ day)
place_of day is =
    let place : ℕ = up day + 719_162 - down day in
    (place, omega (arith, ints, is.0, is.1), omega (arith, ints, is.0, is.1))

nth_in_range : (place : ℕ) → place < 3_652_059 → IsDay (nth_day place)
nth_in_range place low = (omega (arith, ints, low), omega (arith, ints, low))

-- the text is the date of one of the days
abbrev IsAnyDate : List ℕ → Type 0
IsAnyDate text = (place : ℕ) × (place < 3_652_059) × (text ≡ day_text (nth_day place))

found_by : (text : List ℕ) → Decided (IsAnyDate text) → (found : Option ℤ) × Dates text found
found_by text (holds (place, low, is)) =
    (Some (nth_day place), subst (IsDateOf (nth_day place)) (sym is) ((dated (nth_day place)).1 (nth_in_range place low)))
found_by text (fails none) = (
  None,
  λ day is.
      let at = place_of day is.in_range in
      none (at.0, at.1, subst (λ day. text ≡ day_text day) (sym at.2) (one_text day text (day_text day) is ((dated day).1 is.in_range))),
)

-- each text is the date of a day or of none
pub dated_by : (text : List ℕ) → (found : Option ℤ) × Dates text found
dated_by text =
    found_by text
    (some_below (λ place. text ≡ day_text (nth_day place)) (λ place. decided_text text (day_text (nth_day place))) 3_652_059)

-- the day whose date the text is, as in 2030-01-01
abbrev pub day_of_date : List ℕ → Option ℤ
day_of_date text = (dated_by text).0

-- what was found of a text is what day_of_date gives
pub day_found : (text : List ℕ) (found : Option ℤ) → Dates text found → found ≡ day_of_date text
day_found text found is = same found (day_of_date text) is (dated_by text).1
  where
    same : (one other : Option ℤ) → Dates text one → Dates text other → one ≡ other
    same None None first second = refl
    same None (Some day) first second = absurd (first day second)
    same (Some day) None first second = absurd (second day first)
    same (Some one) (Some other) first second = ap (λ day. Some day) (one_day text one other first second)
