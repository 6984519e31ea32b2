-- What the program says about words that are no command although `clap` finds no fault in them.
use Rattle.std.specs.Prelude.{ℕ, List, ◌++◌, codes}
use Rattle.rd_commands.specs.Printed.{line_feed}

-- the end of each of them: an empty line, and a line that points to the help
abbrev pub help_hint : List ℕ
help_hint = line_feed ++ (line_feed ++ (codes "For more information, try '--help'." ++ line_feed))

-- the text of `--zone` is no rule for clocks
abbrev pub zone_mistake : List ℕ
zone_mistake = codes "error: --zone takes a rule as POSIX writes it, as in UTC0 or CET-1CEST,M3.5.0,M10.5.0/3; for a place, --zone-file /usr/share/zoneinfo/Europe/Prague" ++ help_hint

-- the day or the accession does not go with what `show` shows
abbrev pub day_mistake : List ℕ
day_mistake = codes "error: --on takes a date, as in 2030-01-01; 'show verdicts' needs it, and 'show' of anything else takes neither --on nor --acc" ++ help_hint

-- the words of `serve` name two places
abbrev pub place_mistake : List ℕ
place_mistake = codes "error: 'serve' needs --port or --socket, and takes only one of them" ++ help_hint

-- there is a key on the command line and one in a file, or none where the command needs one
abbrev pub key_mistake : List ℕ
key_mistake = codes "error: give a key by --key or by --key-file, and only by one of them" ++ help_hint

-- there are two rules for clocks, by itself and in a file
abbrev pub zones_mistake : List ℕ
zones_mistake = codes "error: give the rule of the clocks by --zone or by --zone-file, and only by one of them" ++ help_hint

-- the text of `--at` is neither a number of seconds nor a date
abbrev pub moment_mistake : List ℕ
moment_mistake = codes "error: --at takes seconds since 1970, 0 to 9223372036854775807, or a date, as in 2030-01-01" ++ help_hint
