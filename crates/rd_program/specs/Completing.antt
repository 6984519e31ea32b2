-- What a command asks for once the operands that stand in files are read, and the first moment of a day is found.
use Rattle.std.specs.Prelude.{◌≡◌, ◌≢◌, ◌≤◌, ◌⊎◌, ⊤, ℕ, ℤ, IfSome, List, None, Option, Some, codes, length, option_map}
use Rattle.std.specs.Borrow.{Bor}
use Rattle.rd_operands.specs.KeyFiles.{key_of}
use Rattle.rd_operands.specs.Moments.{HasNoMoment, IsFirstMoment}
use Rattle.rd_policy.specs.Days.{HasDay}
use Rattle.rd_operands.specs.ZoneFiles.{IsZoneOfFile}
use Rattle.rd_policy.specs.declared.zone.Zone.{Zone}
use Rattle.rd_commands.specs.declared.common_options.CommonOptions.{CommonOptions}
use Rattle.rd_commands.specs.declared.common_options.Parsed.{Parsed}
use Rattle.rd_commands.specs.declared.words.Ask.{Ask}
use Rattle.rd_commands.specs.declared.words.Ask.TheVariants.{Import, Init, OneQuestion, Serve, FlaggedImport, StaffKey}
use Rattle.rd_commands.specs.declared.words.WhenAsk.{WhenAsk}

-- the key is that in these bytes, and a file with a key has no more than 4,096
pub record IsKeyIn (key all : List ℕ) : Type 0 where
  pub is : key ≡ key_of all
  pub few : length all ≤ 4_096

-- the key is that in the file at a path, if the machine shows its bytes, or on standard input, if the path is a hyphen
pub record IsKeyAt (files : List ℕ → Option (List ℕ)) (input : Option (List ℕ)) (path key : List ℕ) : Type 0 where
  pub on_input : path ≡ codes "-" → IfSome input (IsKeyIn key)
  pub in_file : path ≢ codes "-" → IfSome (files path) (IsKeyIn key)

-- the zone is that of the rule in which the file at a path ends, if the machine shows its bytes
abbrev pub IsZoneAt : (List ℕ → Option (List ℕ)) → List ℕ → Zone → Type 0
IsZoneAt files path zone = IfSome (files path) (λ bytes. IsZoneOfFile bytes zone)

-- ---- one part of what is asked for, in the place of another

-- the command asks with this key
abbrev pub with_key : Bor (List ℕ) → Ask → Ask
with_key key (Init ask) = Init (record ask { key = key })
with_key key (Import ask) = Import (record ask { key = key })
with_key key (FlaggedImport ask) = FlaggedImport (record ask { import = record ask.import { key = key } })
with_key key (OneQuestion ask) = OneQuestion (record ask { key = Some key })
with_key key (StaffKey ask) = StaffKey (record ask { key = key })
with_key key ask = ask

-- by the clocks of this zone
abbrev pub in_zone : Zone → WhenAsk → WhenAsk
in_zone zone when = record when { zone = zone }

abbrev pub with_zone : Zone → Ask → Ask
with_zone zone (Serve ask) = Serve (record ask { zone = zone })
with_zone zone (Import ask) = Import (record ask { when = in_zone zone ask.when })
with_zone zone (FlaggedImport ask) = FlaggedImport (record ask { import = record ask.import { when = in_zone zone ask.import.when } })
with_zone zone (OneQuestion ask) = OneQuestion (record ask { when = in_zone zone ask.when })
with_zone zone ask = ask

-- at this moment
abbrev pub at_moment : ℤ → WhenAsk → WhenAsk
at_moment seconds when = record when { seconds = Some seconds }

abbrev pub with_moment : ℤ → Ask → Ask
with_moment seconds (Import ask) = Import (record ask { when = at_moment seconds ask.when })
with_moment seconds (FlaggedImport ask) = FlaggedImport (record ask { import = record ask.import { when = at_moment seconds ask.import.when } })
with_moment seconds (OneQuestion ask) = OneQuestion (record ask { when = at_moment seconds ask.when })
with_moment seconds ask = ask

-- this holds of the zone of the clocks by which a command asks at a moment
abbrev pub OfClocks : Ask → (Zone → Type 0) → Type 0
OfClocks (Import ask) P = P ask.when.zone
OfClocks (FlaggedImport ask) P = P ask.import.when.zone
OfClocks (OneQuestion ask) P = P ask.when.zone
OfClocks ask P = ⊤

-- the moment is the first at which the clocks of the zone show the day, or one without a day where they never show it
abbrev pub IsMomentOf : ℤ → Zone → ℤ → Type 0
IsMomentOf day zone seconds = IsFirstMoment day zone seconds ⊎ (HasNoMoment day zone × ¬ HasDay seconds)

-- a command asks at the moment of a day, by its clocks
abbrev pub IsWhenDated : ℤ → WhenAsk → WhenAsk → Type 0
IsWhenDated day old new = (seconds : ℤ) × (new ≡ at_moment seconds old) × IsMomentOf day old.zone seconds

-- ---- all parts

-- the key of a file is in its place
abbrev pub IsKeyed : (List ℕ → Option (List ℕ)) → Option (List ℕ) → Option (Bor (List ℕ)) → Ask → Ask → Type 0
IsKeyed files input None old new = new ≡ old
IsKeyed files input (Some path) old new = (key : Bor (List ℕ)) × (new ≡ with_key key old) × IsKeyAt files input path.now key.now

-- so is the zone of a file
abbrev pub IsZoned : (List ℕ → Option (List ℕ)) → Option (Bor (List ℕ)) → Ask → Ask → Type 0
IsZoned files None old new = new ≡ old
IsZoned files (Some path) old new = (zone : Zone) × (new ≡ with_zone zone old) × IsZoneAt files path.now zone

-- and the moment of a day, by these clocks
abbrev pub IsDated : Option ℤ → Ask → Ask → Type 0
IsDated None old new = new ≡ old
IsDated (Some day) old new = (seconds : ℤ) × (new ≡ with_moment seconds old) × OfClocks old (λ zone. IsMomentOf day zone seconds)

-- a key was read exactly where there is a file with one
abbrev pub IsKeyRead : (List ℕ → Option (List ℕ)) → Option (List ℕ) → Option (List ℕ) → Option (List ℕ) → Type 0
IsKeyRead files input None None = ⊤
IsKeyRead files input (Some path) (Some key) = IsKeyAt files input path key
IsKeyRead files input _ _ = ⊥

-- so was a zone
abbrev pub IsZoneRead : (List ℕ → Option (List ℕ)) → Option (List ℕ) → Option Zone → Type 0
IsZoneRead files None None = ⊤
IsZoneRead files (Some path) (Some zone) = IsZoneAt files path zone
IsZoneRead files _ _ = ⊥

-- What the words tell is whole in this: the key and the zone are those of the files, which the machine may show, and the
-- moment is that of the day.
pub record Completes (files : List ℕ → Option (List ℕ)) (input : Option (List ℕ)) (parsed : Parsed) (ask : Ask) : Type 0 where
  pub keyed : Ask
  pub zoned : Ask
  pub key : IsKeyed files input parsed.options.key_file parsed.ask keyed
  pub zone : IsZoned files parsed.options.zone_file keyed zoned
  pub moment : IsDated parsed.options.day zoned ask

-- ---- inside

-- what was read is what stands in the files that the words name
pub record AreOperands (files : List ℕ → Option (List ℕ)) (input : Option (List ℕ)) (options : CommonOptions) (key : Option (List ℕ)) (zone : Option Zone) : Type 0 where
  pub key_is : IsKeyRead files input (option_map (λ path. path.now) options.key_file) key
  pub zone_is : IsZoneRead files (option_map (λ path. path.now) options.zone_file) zone

-- the key that was read, if one was, is in its place
abbrev pub IsKeyedBy : Option (List ℕ) → Ask → Ask → Type 0
IsKeyedBy None old new = new ≡ old
IsKeyedBy (Some bytes) old new = (key : Bor (List ℕ)) × (new ≡ with_key key old) × (key.now ≡ bytes)

-- so is the zone
abbrev pub IsZonedBy : Option Zone → Ask → Ask → Type 0
IsZonedBy None old new = new ≡ old
IsZonedBy (Some zone) old new = new ≡ with_zone zone old
