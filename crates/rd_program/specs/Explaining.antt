-- What an explanation goes by.
use Rattle.std.specs.Prelude.{◌≤ℤ◌, ℤ, None, Option, neg_ℤ, pos}
use Rattle.rd_commands.specs.declared.words.Ask.{Ask}
use Rattle.rd_commands.specs.declared.words.Ask.TheVariants.{Import, OneQuestion, FlaggedImport}

-- the seconds of the moment that a command names, if it names one
abbrev pub seconds_named : Ask → Option ℤ
seconds_named (Import ask) = ask.when.seconds
seconds_named (FlaggedImport ask) = ask.import.when.seconds
seconds_named (OneQuestion ask) = ask.when.seconds
seconds_named _ = None

-- A day has a moment by all clocks that show it: it is from 0001-01-04 to 9999-12-28.
abbrev pub IsSureDay : ℤ → Type 0
IsSureDay day = (neg_ℤ (pos 719_159) ≤ℤ day) × (day ≤ℤ pos 2_932_893)
