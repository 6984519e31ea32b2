-- The options that commands have in common: files with a key and with a zone, a day in place of a moment, and whether a
-- refusal is explained.
use Rattle.std.specs.Prelude.{◌≡◌, ◌⊎◌, ◌≤ℤ◌, ⊤, ℕ, ℤ, Bool, IsSome, List, None, Ok, Option, Some, codes, option_map, pos}
use Rattle.std.specs.Int.{w64}
use Rattle.std.specs.Str.Parse.{ParsesSigned}
use Rattle.std.specs.declared.num.ParseIntError.{ParseIntError}
use Rattle.clap.specs.Words.{Row, Text, first_of, one_of}
use Rattle.rd_policy.specs.Dates.{IsDateOf}
use Rattle.rd_commands.specs.CommandLine.{Enters, IsTakenAs}
use Rattle.rd_commands.specs.Zones.{HasClocks, IsFlagGiven}
use Rattle.rd_commands.specs.declared.common_options.CommonOptions.{CommonOptions}
use Rattle.rd_commands.specs.declared.words.Unread.{Unread}
use Rattle.rd_commands.specs.declared.words.Unread.TheVariants.{Key, Moment, Zones}

-- ---- a moment

-- the text writes this number of seconds, 0 or more
abbrev pub IsSeconds : Text → ℤ → Type 0
IsSeconds text seconds = ParsesSigned {E = ParseIntError} w64 10 text (Ok seconds) × (pos 0 ≤ℤ seconds)

-- it writes a number of seconds, or the date of a day; without a text there is nothing to write
abbrev pub IsMomentText : Option Text → Type 0
IsMomentText (Some text) = ((seconds : ℤ) × IsSeconds text seconds) ⊎ ((day : ℤ) × IsDateOf day text)
IsMomentText None = ⊤

-- the day that stands in place of a moment: that of the date, and none where the text writes seconds, or is absent
abbrev pub IsDayOfMoment : Option Text → Option ℤ → Type 0
IsDayOfMoment (Some text) on = (((seconds : ℤ) × IsSeconds text seconds) × (on ≡ None))
    ⊎ ((((seconds : ℤ) → ¬ IsSeconds text seconds) × ((day : ℤ) × IsDateOf day text × (on ≡ Some day))))
IsDayOfMoment None on = on ≡ None

-- ---- which options go together

-- at most one of the two is there
abbrev pub IsOneAtMost : Option Text → Option Text → Type 0
IsOneAtMost one other = (one ≡ None) ⊎ (other ≡ None)

-- the command of this name needs a key
abbrev pub NeedsKey : Text → Type 0
NeedsKey name = (name ≡ codes "init") ⊎ ((name ≡ codes "import") ⊎ ((name ≡ codes "check") ⊎ ((name ≡ codes "show") ⊎ (name ≡ codes "staff-key"))))

-- it takes a key
abbrev pub TakesKey : Text → Type 0
TakesKey name = NeedsKey name ⊎ (name ≡ codes "export")

-- it asks a desk at a moment
abbrev pub HasMoment : Text → Type 0
HasMoment name = (name ≡ codes "import") ⊎ ((name ≡ codes "export") ⊎ ((name ≡ codes "check") ⊎ (name ≡ codes "show")))

-- there is one key, on the command line or in a file, if the command needs one, and otherwise at most one
pub record KeysFit (name : Text) (rows : List Row) : Type 0 where
  pub most : TakesKey name → IsOneAtMost (first_of (codes "key") rows) (first_of (codes "key-file") rows)
  pub least : NeedsKey name → IsSome (first_of (codes "key") rows) ⊎ IsSome (first_of (codes "key-file") rows)

-- there is at most one rule for clocks, if the command has clocks
abbrev pub ZonesFit : Text → List Row → Type 0
ZonesFit name rows = HasClocks name → IsOneAtMost (first_of (codes "zone") rows) (first_of (codes "zone-file") rows)

-- if it asks at a moment, the text of --at writes one
abbrev pub MomentFits : Text → List Row → Type 0
MomentFits name rows = HasMoment name → IsMomentText (first_of (codes "at") rows)

-- What `clap` found for the command of this name goes together.
pub record GoTogether (name : Text) (rows : List Row) : Type 0 where
  pub keys : KeysFit name rows
  pub zones : ZonesFit name rows
  pub moment : MomentFits name rows

-- the fault is that options do not go together
abbrev pub IsApart : Unread → Type 0
IsApart fault = (fault ≡ Key) ⊎ ((fault ≡ Zones) ⊎ (fault ≡ Moment))

-- ---- what is read

-- What `clap` found for the command of this name says this.
pub record GivesOptions (name : Text) (rows : List Row) (options : CommonOptions) : Type 0 where
  pub explain : (flag : Bool) → IsFlagGiven (one_of (codes "explain") rows) flag → options.explain ≡ flag
  pub key_file : TakesKey name → option_map (λ path. path.now) options.key_file ≡ first_of (codes "key-file") rows
  pub no_key_file : ¬ TakesKey name → options.key_file ≡ None
  pub zone_file : HasClocks name → option_map (λ path. path.now) options.zone_file ≡ first_of (codes "zone-file") rows
  pub no_zone_file : ¬ HasClocks name → options.zone_file ≡ None
  pub day : HasMoment name → IsDayOfMoment (first_of (codes "at") rows) options.day
  pub no_day : ¬ HasMoment name → options.day ≡ None

-- no operand is in a file, and no day stands in place of a moment: what the command asks for is whole
abbrev pub IsPlain : CommonOptions → Type 0
IsPlain options = (options.key_file ≡ None) × ((options.zone_file ≡ None) × (options.day ≡ None))

-- ---- the command that a parse went into

-- if the parse went into a command, its options say this
abbrev pub EntersOptions : Option (Text × List Row) → CommonOptions → Type 0
EntersOptions entered options = (name : Text) (rows : List Row) → entered ≡ Some (name, rows) → GivesOptions name rows options

-- they go together
abbrev pub EntersTogether : Option (Text × List Row) → Type 0
EntersTogether entered = (name : Text) (rows : List Row) → entered ≡ Some (name, rows) → GoTogether name rows

-- it went into a command, and they do not
abbrev pub EntersApart : Option (Text × List Row) → Type 0
EntersApart entered = (name : Text) × (rows : List Row) × (entered ≡ Some (name, rows)) × ¬ GoTogether name rows

-- ---- the words

-- if `clap` takes the words as a command, these are the options that it has in common with others
abbrev pub TellsOptions : List Text → CommonOptions → Type 0
TellsOptions words options = (name : Text) (rows : List Row) → Enters words name rows → GivesOptions name rows options

-- if `clap` takes the words as a command, their options go together
abbrev pub FitsTogether : List Text → Type 0
FitsTogether words = (name : Text) (rows : List Row) → Enters words name rows → GoTogether name rows

-- `clap` takes the words as a command, whose options do not go together
abbrev pub IsTakenApart : List Text → Type 0
IsTakenApart words = (name : Text) × (taken : IsTakenAs name words) × ¬ GoTogether name taken.rows
