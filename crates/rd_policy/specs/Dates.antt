-- Dates as texts.
use Rattle.std.specs.Prelude.{◌≡◌, ℕ, ℤ, List, Ok, codes}
use Rattle.jiff.specs.Types.{Date}
use Rattle.jiff.specs.Words.{epoch_day, date_parts, date_text, parse_date}
use Rattle.rd_policy.specs.Days.{IsDay}
use Rattle.rd_policy.specs.declared.date.DateFault.{DateFault}
use Rattle.rd_policy.specs.declared.date.DateFault.TheVariants.{BadDate, NoMemory}

-- The text is the date of the day, as in 2030-01-01: four digits of the year, two of the month and two of
-- the day, each before the next by a hyphen. The day is one from 0001-01-01 to 9999-12-31.
pub record IsDateOf (day : ℤ) (text : List ℕ) : Type 0 where
  pub date : Date
  pub number : epoch_day date ≡ day
  pub in_range : IsDay day
  pub written : text ≡ date_text date

-- the text is the date of no day
abbrev pub IsNoDate : List ℕ → Type 0
IsNoDate text = (day : ℤ) → ¬ IsDateOf day text

-- jiff reads the text, in this form or in another, as a date from 0001-01-01 to 9999-12-31
abbrev pub IsReadAsDate : List ℕ → Type 0
IsReadAsDate text = (date : Date) × (parse_date text ≡ Ok (date_parts date)) × IsDay (epoch_day date)

-- a day has one date
abbrev pub OneText : Type 0
OneText = (day : ℤ) (one other : List ℕ) → IsDateOf day one → IsDateOf day other → one ≡ other

-- a date has one day
abbrev pub OneDay : Type 0
OneDay = (text : List ℕ) (one other : ℤ) → IsDateOf one text → IsDateOf other text → one ≡ other

-- why a text gives no day, as it is printed
abbrev pub fault_text : DateFault → List ℕ
fault_text BadDate = codes "no date"
fault_text NoMemory = codes "no memory"
