-- What the program takes from what `clap` found for a command, in all forms: also where a key or a rule for clocks is in a
-- file, and where a day stands in place of a moment.
use Rattle.std.specs.Prelude.{◌≡◌, ◌⊎◌, ⊤, ℕ, ℤ, Bool, IsSome, List, [], None, Ok, Option, Some, codes, false, option_map}
use Rattle.std.specs.Str.Parse.{ParsesUnsigned}
use Rattle.std.specs.declared.num.ParseIntError.{ParseIntError}
use Rattle.clap.specs.Words.{Row, Text, first_of, one_of}
use Rattle.httparse.specs.Grammar.{trim_ows}
use Rattle.rd_geometry.specs.Kinds.{word_of}
use Rattle.rd_geometry.specs.declared.kind.Kind.{Kind}
use Rattle.rd_policy.specs.Zones.{IsZoneOf}
use Rattle.rd_commands.specs.Asks.{AreImportFlags}
use Rattle.rd_commands.specs.CommonOptions.{GivesOptions, IsSeconds}
use Rattle.rd_commands.specs.CommandLine.{IsTakenAs}
use Rattle.rd_commands.specs.Serving.{IsCountUsed, NamesPlace, place_of}
use Rattle.rd_commands.specs.Shown.{IsAccessionGiven, NamesShown}
use Rattle.rd_commands.specs.Zones.{IsFlagGiven, rule_text}
use Rattle.rd_commands.specs.declared.common_options.Parsed.{Parsed}
use Rattle.rd_commands.specs.declared.words.Ask.{Ask}
use Rattle.rd_commands.specs.declared.words.Ask.TheVariants.{Copy, Extract, File, Files, Import, Init, OneQuestion, Serve, FlaggedImport, StaffKey}
use Rattle.rd_commands.specs.declared.words.CopyAsk.{CopyAsk}
use Rattle.rd_commands.specs.declared.words.ExtractAsk.{ExtractAsk}
use Rattle.rd_commands.specs.declared.words.FileAsk.{FileAsk}
use Rattle.rd_commands.specs.declared.words.ImageAsk.{ImageAsk}
use Rattle.rd_commands.specs.declared.words.ImportAsk.{ImportAsk}
use Rattle.rd_commands.specs.declared.words.InitAsk.{InitAsk}
use Rattle.rd_commands.specs.declared.words.OneQuestionAsk.{OneQuestionAsk}
use Rattle.rd_commands.specs.declared.words.Question.{Question}
use Rattle.rd_commands.specs.declared.words.Question.TheVariants as question
use Rattle.rd_commands.specs.declared.words.ServeAsk.{ServeAsk}
use Rattle.rd_commands.specs.declared.words.FlaggedImportAsk.{FlaggedImportAsk}
use Rattle.rd_commands.specs.declared.words.StaffKeyAsk.{StaffKeyAsk}
use Rattle.rd_commands.specs.declared.words.WhenAsk.{WhenAsk}

-- ---- parts

-- the key is that on the command line, without the blanks and tabs at both ends; or nothing yet, if it is in a file
abbrev pub IsKeyGiven : List Row → List ℕ → Type 0
IsKeyGiven rows key = ((text : Text) × (first_of (codes "key") rows ≡ Some text) × (key ≡ trim_ows text))
    ⊎ ((first_of (codes "key") rows ≡ None) × (IsSome (first_of (codes "key-file") rows) × (key ≡ [])))

-- the seconds are those that the text of --at writes; there are none if it writes none, or is absent
abbrev pub AreSecondsGiven : List Row → Option ℤ → Type 0
AreSecondsGiven rows (Some seconds) = (text : Text) × (first_of (codes "at") rows ≡ Some text) × IsSeconds text seconds
AreSecondsGiven rows None = (text : Text) → first_of (codes "at") rows ≡ Some text → (seconds : ℤ) → ¬ IsSeconds text seconds

-- The moment is that of --at, and the clocks are those of the rule of --zone: those of UTC if there is none, also if it is
-- in a file.
pub record WhenFrom (rows : List Row) (ask : WhenAsk) : Type 0 where
  pub seconds : AreSecondsGiven rows ask.seconds
  pub zone : IsZoneOf (rule_text (first_of (codes "zone") rows)) ask.zone

-- the operand for a kind is its word
abbrev pub IsKindGiven : List Row → Kind → Type 0
IsKindGiven rows kind = first_of (codes "KIND") rows ≡ Some (word_of kind)

-- the operand for a slot gives this number
abbrev pub IsSlotGiven : List Row → ℕ → Type 0
IsSlotGiven rows slot = (text : Text) × (one_of (codes "SLOT") rows ≡ Some text) × ParsesUnsigned {E = ParseIntError} 16 10 text (Ok slot)

-- ---- commands

-- what `cat` asks for
pub record FileFrom (rows : List Row) (ask : FileAsk) : Type 0 where
  pub kind : IsKindGiven rows ask.kind
  pub image : first_of (codes "IMAGE") rows ≡ Some ask.image.now
  pub slot : IsSlotGiven rows ask.slot

-- what `list` asks for
pub record ImageFrom (rows : List Row) (ask : ImageAsk) : Type 0 where
  pub kind : IsKindGiven rows ask.kind
  pub image : first_of (codes "IMAGE") rows ≡ Some ask.image.now

-- what `files` asks for
pub record ExtractFrom (rows : List Row) (ask : ExtractAsk) : Type 0 where
  pub image : ImageFrom rows ask.image
  pub folder : first_of (codes "to") rows ≡ Some ask.folder.now

-- what `init` asks for
pub record InitFrom (rows : List Row) (ask : InitAsk) : Type 0 where
  pub store : first_of (codes "store") rows ≡ Some ask.store.now
  pub key : IsKeyGiven rows ask.key.now
  pub sums : (flag : Bool) → IsFlagGiven (one_of (codes "sums") rows) flag → ask.has_sums ≡ flag

-- what `staff-key` asks for
pub record StaffKeyFrom (rows : List Row) (ask : StaffKeyAsk) : Type 0 where
  pub store : first_of (codes "store") rows ≡ Some ask.store.now
  pub key : IsKeyGiven rows ask.key.now

-- what `copy` asks for
pub record CopyFrom (rows : List Row) (ask : CopyAsk) : Type 0 where
  pub store : first_of (codes "store") rows ≡ Some ask.store.now
  pub target : first_of (codes "to") rows ≡ Some ask.target.now
  pub sums : (flag : Bool) → IsFlagGiven (one_of (codes "sums") rows) flag → ask.has_sums ≡ flag

-- what `serve` asks for
pub record ServeFrom (rows : List Row) (ask : ServeAsk) : Type 0 where
  pub store : first_of (codes "store") rows ≡ Some ask.store.now
  pub place : NamesPlace rows (place_of ask.place)
  pub count : IsCountUsed rows ask.count
  pub zone : IsZoneOf (rule_text (first_of (codes "zone") rows)) ask.zone

-- what `import` asks for, with whatever flags
pub record ImportFrom (rows : List Row) (ask : ImportAsk) : Type 0 where
  pub store : first_of (codes "store") rows ≡ Some ask.store.now
  pub key : IsKeyGiven rows ask.key.now
  pub sheet : first_of (codes "sheet") rows ≡ Some ask.sheet.now
  pub when : WhenFrom rows ask.when

-- the flags of `import` are these
abbrev pub ImportFlagsFrom : List Row → Bool → Bool → Type 0
ImportFlagsFrom rows dry_run keep_going = (dry going : Bool) → AreImportFlags rows dry going → (dry_run ≡ dry) × (keep_going ≡ going)

-- the caller of a question: the key of `check` and of `show` is needed, that of `export` may be absent
abbrev pub CallerFrom : List Row → Question → Option (List ℕ) → Type 0
CallerFrom rows question.Catalogue (Some key) = (text : Text) × (first_of (codes "key") rows ≡ Some text) × (key ≡ trim_ows text)
CallerFrom rows question.Catalogue None = first_of (codes "key") rows ≡ None
CallerFrom rows other (Some key) = IsKeyGiven rows key
CallerFrom rows other None = ⊥

-- what is asked
abbrev pub QuestionFrom : List Row → Question → Type 0
QuestionFrom rows question.Catalogue = ⊤
QuestionFrom rows (question.Check acc) = IsAccessionGiven rows acc
QuestionFrom rows (question.Show shown) = NamesShown rows shown

-- what `export`, `check` and `show` ask for
pub record OneFrom (rows : List Row) (ask : OneQuestionAsk) : Type 0 where
  pub store : first_of (codes "store") rows ≡ Some ask.store.now
  pub caller : CallerFrom rows ask.question (option_map (λ key. key.now) ask.key)
  pub question : QuestionFrom rows ask.question
  pub when : WhenFrom rows ask.when

-- what a command asks for
abbrev pub AskFrom : List Row → Ask → Type 0
AskFrom rows (File ask) = FileFrom rows ask
AskFrom rows (Files ask) = ImageFrom rows ask
AskFrom rows (Extract ask) = ExtractFrom rows ask
AskFrom rows (Init ask) = InitFrom rows ask
AskFrom rows (Serve ask) = ServeFrom rows ask
AskFrom rows (Import ask) = ImportFrom rows ask × ImportFlagsFrom rows false false
AskFrom rows (FlaggedImport ask) = ImportFrom rows ask.import × ImportFlagsFrom rows ask.dry_run ask.keep_going
AskFrom rows (OneQuestion ask) = OneFrom rows ask
AskFrom rows (StaffKey ask) = StaffKeyFrom rows ask
AskFrom rows (Copy ask) = CopyFrom rows ask

-- the name of a question's command
abbrev pub question_name : Question → Text
question_name question.Catalogue = codes "export"
question_name (question.Check acc) = codes "check"
question_name (question.Show shown) = codes "show"

-- the name of a command
abbrev pub command_name : Ask → Text
command_name (File ask) = codes "cat"
command_name (Files ask) = codes "list"
command_name (Extract ask) = codes "files"
command_name (Init ask) = codes "init"
command_name (Serve ask) = codes "serve"
command_name (Import ask) = codes "import"
command_name (FlaggedImport ask) = codes "import"
command_name (OneQuestion ask) = question_name ask.question
command_name (StaffKey ask) = codes "staff-key"
command_name (Copy ask) = codes "copy"

-- the parse went into the command, and what is asked for is from there
abbrev pub EntersFrom : Option (Text × List Row) → Ask → Type 0
EntersFrom entered ask = (rows : List Row) × (entered ≡ Some (command_name ask, rows)) × AskFrom rows ask

-- The words are this command, as `clap` takes them, and tell this.
pub record TellsAll (words : List Text) (parsed : Parsed) : Type 0 where
  pub taken : IsTakenAs (command_name parsed.ask) words
  pub asks : AskFrom taken.rows parsed.ask
  pub options : GivesOptions (command_name parsed.ask) taken.rows parsed.options
