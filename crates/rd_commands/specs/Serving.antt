-- Where `serve` has visits come, and how long a visitor may take, as its words give them.
use Rattle.std.specs.Prelude.{◌≡◌, ◌⊎◌, ℕ, List, None, Ok, Option, Some, codes}
use Rattle.std.specs.Str.Parse.{ParsesUnsigned}
use Rattle.std.specs.declared.num.ParseIntError.{ParseIntError}
use Rattle.clap.specs.Words.{Row, first_of, one_of}
use Rattle.rd_commands.specs.declared.serving.Place.{Place as Given}
use Rattle.rd_commands.specs.declared.serving.Place.TheVariants as given
use Rattle.rd_commands.specs.declared.serving.Timeouts.{Timeouts}

-- a place at which visits come: a port of the machine itself, or a Unix socket at a path
pub data Place : Type 0 where
  Port : ℕ → Place
  Socket : List ℕ → Place

-- the place that the program is given
abbrev pub place_of : Given → Place
place_of (given.Port port) = Port port
place_of (given.Socket path) = Socket path.now

-- an option gives this number: it is there, and its text writes the number
abbrev pub IsNumberGiven : Option (List ℕ) → ℕ → Type 0
IsNumberGiven given number = (text : List ℕ) × (given ≡ Some text) × ParsesUnsigned {E = ParseIntError} 16 10 text (Ok number)

-- the port that is given, or 8041 where none is
abbrev pub IsPortUsed : List Row → ℕ → Type 0
IsPortUsed rows port = IsNumberGiven (one_of (codes "port") rows) port ⊎ ((first_of (codes "port") rows ≡ None) × (port ≡ 8_041))

-- what `clap` found names this place: the option of the other sort of place is absent; where both are absent, it is the
-- port 8041
abbrev pub NamesPlace : List Row → Place → Type 0
NamesPlace rows (Port port) = IsPortUsed rows port × (first_of (codes "socket") rows ≡ None)
NamesPlace rows (Socket path) = (first_of (codes "socket") rows ≡ Some path) × (first_of (codes "port") rows ≡ None)

-- it names one
abbrev pub NamesOnePlace : List Row → Type 0
NamesOnePlace rows = (place : Place) × NamesPlace rows place

-- an option gives this number of visits: it is there, and its text writes the number
abbrev pub IsCountGiven : Option (List ℕ) → ℕ → Type 0
IsCountGiven given count = (text : List ℕ) × (given ≡ Some text) × ParsesUnsigned {E = ParseIntError} 32 10 text (Ok count)

-- the number of visits is the one that is given, and the greatest number of 32 bits if none is
abbrev pub IsCountUsed : List Row → ℕ → Type 0
IsCountUsed rows count = IsCountGiven (one_of (codes "count") rows) count
    ⊎ ((first_of (codes "count") rows ≡ None) × (count ≡ 4_294_967_295))

-- what an option for seconds gives: the number that its text writes, and the usual one if it is absent
abbrev pub AreSeconds : ℕ → Option (List ℕ) → ℕ → Type 0
AreSeconds usual (Some text) seconds = (number : ℕ) → ParsesUnsigned {E = ParseIntError} 16 10 text (Ok number) → seconds ≡ number
AreSeconds usual None seconds = seconds ≡ usual

-- what `clap` found gives these seconds: ten for a request, ten for a write and sixty for a reply where an option is
-- absent
pub record GivesTimeouts (rows : List Row) (timeouts : Timeouts) : Type 0 where
  pub request : AreSeconds 10 (one_of (codes "request-timeout") rows) timeouts.request
  pub write : AreSeconds 10 (one_of (codes "write-timeout") rows) timeouts.write
  pub reply : AreSeconds 60 (one_of (codes "reply-timeout") rows) timeouts.reply
