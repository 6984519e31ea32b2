-- A date's text and its day.
use Rattle.std.proofs.Common.{◌≡◌, ℕ, ℤ, List, refl, sym, ◌∙◌, ap, Ok}
use Rattle.jiff_core.proofs.DateLemmas.{epoch_day_injective}
use Rattle.jiff.specs.Types.{Date}
use Rattle.jiff.specs.Words.{epoch_day, date_text, parse_date, date_parts}
use Rattle.jiff.proofs.Family.{parse_date-date_text}
use Rattle.rd_policy.specs.Dates.{IsDateOf}

-- The date has the day and the text.
pub record IsDateWith (date : Date) (day : ℤ) (text : List ℕ) : Type 0 where
  pub number : epoch_day date ≡ day
  pub written : text ≡ date_text date

-- a date with the year, month and day of another has its day and its text
same_date : (a b : Date) → date_parts a ≡ date_parts b → IsDateWith a (epoch_day b) (date_text b)
same_date a b e =
    let year : a.year ≡ b.year = ap (λ p. p.year) e in
    let month : a.month ≡ b.month = ap (λ p. p.month) e in
    let day : a.day ≡ b.day = ap (λ p. p.day) e in
    record { number = rw (year, month, day) refl; written = rw (year, month, day) refl }

-- the text of a day's date is read
pub parse_date-IsDateOf : (day : ℤ) (text : List ℕ) (is : IsDateOf day text) → parse_date text ≡ Ok (date_parts is.date)
parse_date-IsDateOf day text is = ap parse_date is.written ∙ parse_date-date_text is.date

-- the date that is read from the text of a day's date has that day and that text
pub read_date : (date : Date) (text : List ℕ) → Ok (date_parts date) ≡ parse_date text → (day : ℤ) → IsDateOf day text → IsDateWith date day text
read_date date text read day is =
    let same : date_parts date ≡ date_parts is.date = cc (read ∙ parse_date-IsDateOf day text is) in
    let with = same_date date is.date same in
    record { number = with.number ∙ is.number; written = is.written ∙ with.written }

-- a day has one date
pub one_text : (day : ℤ) (one other : List ℕ) → IsDateOf day one → IsDateOf day other → one ≡ other
one_text day one other first second =
    let same = epoch_day_injective first.date second.date (first.number ∙ sym second.number) in
    let parts : date_parts first.date ≡ date_parts second.date = rw (same.0, same.1, same.2) refl in
    first.written ∙ sym (same_date first.date second.date parts).written ∙ sym second.written

-- a date has one day
pub one_day : (text : List ℕ) (one other : ℤ) → IsDateOf one text → IsDateOf other text → one ≡ other
one_day text one other first second =
    let read = read_date first.date text (sym (parse_date-IsDateOf one text first)) other second in
    sym first.number ∙ read.number
