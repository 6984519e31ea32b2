-- What the command `show` shows, by its operand and the texts of --on and --acc.
use Rattle.std.specs.Prelude.{◌≡◌, ⊤, ℕ, ℤ, List, None, Ok, Option, Some, codes}
use Rattle.std.specs.Str.Parse.{ParsesUnsigned}
use Rattle.std.specs.declared.num.ParseIntError.{ParseIntError}
use Rattle.clap.specs.Words.{Row, Text, first_of, one_of}
use Rattle.rd_policy.specs.Dates.{IsDateOf}
use Rattle.rd_policy.specs.Days.{IsDay}
use Rattle.rd_policy.specs.Rules.{IsScope}
use Rattle.rd_commands.specs.declared.words.Shown.{Shown}
use Rattle.rd_commands.specs.declared.words.Shown.TheVariants.{Checks, Deeds, Keys, Takedowns, Verdicts, VerdictsOf}

-- the text is the date of this day; without a text there is no day
abbrev pub IsDayGiven : Option Text → Option ℤ → Type 0
IsDayGiven (Some text) on = (day : ℤ) × IsDateOf day text × (on ≡ Some day)
IsDayGiven None on = on ≡ None

-- the option for an accession gives this number
abbrev pub IsAccessionGiven : List Row → ℕ → Type 0
IsAccessionGiven rows acc = (text : Text) × (one_of (codes "acc") rows ≡ Some text) × (ParsesUnsigned {E = ParseIntError} 32 10 text (Ok acc) × IsScope acc)

-- the accession that the option gives; without the option there is none
abbrev pub GivesAccession : List Row → Option ℕ → Type 0
GivesAccession rows (Some acc) = IsAccessionGiven rows acc
GivesAccession rows None = first_of (codes "acc") rows ≡ None

-- the word names this: the verdicts with their day, of all accessions or of one; and anything else without a day and an
-- accession
abbrev pub IsShownAs : Text → Option ℤ → Option ℕ → Shown → Type 0
IsShownAs what on acc Deeds = (what ≡ codes "deeds") × ((on ≡ None) × (acc ≡ None))
IsShownAs what on acc Takedowns = (what ≡ codes "takedowns") × ((on ≡ None) × (acc ≡ None))
IsShownAs what on acc Keys = (what ≡ codes "keys") × ((on ≡ None) × (acc ≡ None))
IsShownAs what on acc Checks = (what ≡ codes "checks") × ((on ≡ None) × (acc ≡ None))
IsShownAs what on acc (Verdicts day) = (what ≡ codes "verdicts") × ((on ≡ Some day) × (acc ≡ None))
IsShownAs what on acc (VerdictsOf day accession) = (what ≡ codes "verdicts") × ((on ≡ Some day) × (acc ≡ Some accession))

-- What `clap` found for `show` names this.
pub record NamesShown (rows : List Row) (shown : Shown) : Type 0 where
  pub what : Text
  pub on : Option ℤ
  pub acc : Option ℕ
  pub what_found : first_of (codes "WHAT") rows ≡ Some what
  pub on_given : IsDayGiven (first_of (codes "on") rows) on
  pub acc_given : GivesAccession rows acc
  pub is : IsShownAs what on acc shown

-- what `clap` found for `show` names something to show
abbrev pub NamesAny : List Row → Type 0
NamesAny rows = (shown : Shown) × NamesShown rows shown

-- the day of verdicts is of the years 1 to 9999, and their accession is within its limits
abbrev pub IsShowable : Shown → Type 0
IsShowable (Verdicts day) = IsDay day
IsShowable (VerdictsOf day acc) = IsDay day × IsScope acc
IsShowable other = ⊤
