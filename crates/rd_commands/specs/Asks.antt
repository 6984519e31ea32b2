-- What the program reads in the words of a command.
use Rattle.std.specs.Prelude.{◌≡◌, ◌+◌, ◌⊎◌, ◌||◌, ⊤, ℕ, ℤ, Bool, IsSomeAnd, List, None, Ok, Option, Some, codes, false, option_map, true}
use Rattle.std.specs.Int.{w64}
use Rattle.std.specs.Str.Parse.{ParsesSigned, ParsesUnsigned}
use Rattle.std.specs.declared.num.ParseIntError.{ParseIntError}
use Rattle.clap.specs.Values.{kind_of}
use Rattle.clap.specs.Words.{Row, Text, first_of, one_of}
use Rattle.clap.specs.declared.error.kind.ErrorKind.TheVariants.{DisplayHelp, DisplayVersion, OutOfMemory}
use Rattle.rd_geometry.specs.declared.kind.Kind.{Kind}
use Rattle.httparse.specs.Grammar.{trim_ows}
use Rattle.rd_geometry.specs.Kinds.{size_of, word_of}
use Rattle.rd_policy.specs.Zones.{IsZoneOf}
use Rattle.rd_policy.specs.Rules.{IsScope}
use Rattle.rd_commands.specs.declared.words.Ask.{Ask}
use Rattle.rd_commands.specs.declared.words.Ask.TheVariants.{Copy, Extract, File, Files, Import, Init, OneQuestion, Serve, FlaggedImport, StaffKey}
use Rattle.rd_commands.specs.declared.words.ExtractAsk.{ExtractAsk}
use Rattle.rd_commands.specs.declared.words.CopyAsk.{CopyAsk}
use Rattle.rd_commands.specs.declared.words.FileAsk.{FileAsk}
use Rattle.rd_commands.specs.declared.words.ImageAsk.{ImageAsk}
use Rattle.rd_commands.specs.declared.words.ImportAsk.{ImportAsk}
use Rattle.rd_commands.specs.declared.words.InitAsk.{InitAsk}
use Rattle.rd_commands.specs.declared.words.OneQuestionAsk.{OneQuestionAsk}
use Rattle.rd_commands.specs.declared.words.Question.{Question}
use Rattle.rd_commands.specs.declared.words.Question.TheVariants as question
use Rattle.rd_commands.specs.declared.words.ServeAsk.{ServeAsk}
use Rattle.rd_commands.specs.declared.words.Shown.{Shown}
use Rattle.rd_commands.specs.declared.words.FlaggedImportAsk.{FlaggedImportAsk}
use Rattle.rd_commands.specs.declared.words.StaffKeyAsk.{StaffKeyAsk}
use Rattle.rd_commands.specs.declared.words.Unread.{Unread}
use Rattle.rd_commands.specs.declared.words.WhenAsk.{WhenAsk}
use Rattle.rd_commands.specs.declared.words.Unread.TheVariants.{Day, Key, Moment, Place as NoPlace, Clap, Usage, NoMemory, Zones}
use Rattle.rd_commands.specs.CommonOptions.{IsApart, IsSeconds}
use Rattle.rd_commands.specs.CommandLine.{HasFault}
use Rattle.rd_commands.specs.Serving.{GivesTimeouts, IsCountUsed, NamesOnePlace, NamesPlace, Place, place_of}
use Rattle.rd_commands.specs.Shown.{IsShowable, NamesAny, NamesShown}
use Rattle.rd_commands.specs.Words.{IsSlotText}
use Rattle.rd_commands.specs.Zones.{HasClocks, HasZoneRule, IsFlagGiven, IsRuleNamed, TellsTrust}

-- it asks for the file at the slot of the image of the kind
pub record AsksFile (ask : FileAsk) (kind : Kind) (image : List ℕ) (slot : ℕ) : Type 0 where
  pub kind_is : ask.kind ≡ kind
  pub image_is : ask.image.now ≡ image
  pub slot_is : ask.slot ≡ slot

-- it asks for the files of the image of the kind
pub record AsksFiles (ask : ImageAsk) (kind : Kind) (image : List ℕ) : Type 0 where
  pub kind_is : ask.kind ≡ kind
  pub image_is : ask.image.now ≡ image

-- it asks for a desk in the file of the store, with this key without the blanks and tabs at both
-- ends
pub record AsksNew (ask : InitAsk) (store key : List ℕ) : Type 0 where
  pub store_is : ask.store.now ≡ store
  pub key_is : ask.key.now ≡ trim_ows key

-- it asks for so many visits, at the place, of the desk in the file of the store, with clocks by
-- the rule
pub record AsksVisits (ask : ServeAsk) (store : List ℕ) (place : Place) (count : ℕ) (rule : List ℕ) : Type 0 where
  pub store_is : ask.store.now ≡ store
  pub place_is : place_of ask.place ≡ place
  pub count_is : ask.count ≡ count
  pub zone_is : IsZoneOf rule ask.zone

-- it names a moment, in seconds since 1970-01-01T00:00:00 UTC, or none, and clocks by the rule
pub record AsksWhen (ask : WhenAsk) (moment : Option ℤ) (rule : List ℕ) : Type 0 where
  pub moment_is : ask.seconds ≡ moment
  pub zone_is : IsZoneOf rule ask.zone

-- It asks the desk in the file of the store to take in the images of the sheet, for a caller with
-- this key without the blanks and tabs at both ends, at that moment by these clocks.
pub record AsksImages (ask : ImportAsk) (store key sheet : List ℕ) (moment : Option ℤ) (rule : List ℕ) : Type 0 where
  pub store_is : ask.store.now ≡ store
  pub key_is : ask.key.now ≡ trim_ows key
  pub sheet_is : ask.sheet.now ≡ sheet
  pub when_is : AsksWhen ask.when moment rule

-- it asks so, and whether nothing is taken in, and whether it goes past files that cannot be read
pub record AsksFlaggedImages (ask : FlaggedImportAsk) (store key sheet : List ℕ) (moment : Option ℤ) (rule : List ℕ) (dry_run keep_going : Bool) : Type 0 where
  pub images : AsksImages ask.import store key sheet moment rule
  pub dry_run_is : ask.dry_run ≡ dry_run
  pub keep_going_is : ask.keep_going ≡ keep_going

-- it asks for the sound files of the image of the kind, in the folder
pub record AsksExtracted (ask : ExtractAsk) (kind : Kind) (image folder : List ℕ) : Type 0 where
  pub image_is : AsksFiles ask.image kind image
  pub folder_is : ask.folder.now ≡ folder

-- It asks the desk in the file of the store this question, for a caller with this key, or without one, at this
-- moment, by the clocks of this rule. Blanks and tabs at both ends of a key do not count.
pub record AsksOneQuestion (ask : OneQuestionAsk) (store : List ℕ) (key : Option (List ℕ)) (question : Question) (moment : Option ℤ) (rule : List ℕ) : Type 0 where
  pub store_is : ask.store.now ≡ store
  pub key_is : option_map (λ key. key.now) ask.key ≡ option_map trim_ows key
  pub question_is : ask.question ≡ question
  pub when_is : AsksWhen ask.when moment rule

-- it asks to put this key, without the blanks and tabs at both ends, as one of the staff, in the desk in the file of the
-- store
pub record AsksStaff (ask : StaffKeyAsk) (store key : List ℕ) : Type 0 where
  pub store_is : ask.store.now ≡ store
  pub key_is : ask.key.now ≡ trim_ows key

-- it asks to copy the desk in the file of the store to a new file, with sums or without
pub record AsksCopying (ask : CopyAsk) (store target : List ℕ) (summed : Bool) : Type 0 where
  pub store_is : ask.store.now ≡ store
  pub target_is : ask.target.now ≡ target
  pub sums_are : ask.has_sums ≡ summed

-- the command asks for the file at the slot of the image of the kind
abbrev pub IsFileAsk : Kind → List ℕ → ℕ → Ask → Type 0
IsFileAsk kind image slot (File ask) = AsksFile ask kind image slot
IsFileAsk kind image slot _ = ⊥

-- the command asks for the files of the image of the kind
abbrev pub IsFilesAsk : Kind → List ℕ → Ask → Type 0
IsFilesAsk kind image (Files ask) = AsksFiles ask kind image
IsFilesAsk kind image _ = ⊥

-- the command asks for a desk in the file of the store, with the key
abbrev pub IsInitAsk : List ℕ → List ℕ → Ask → Type 0
IsInitAsk store key (Init ask) = AsksNew ask store key
IsInitAsk store key _ = ⊥

-- the command asks for so many visits at the place, of the desk in the file of the store, by its
-- clocks
abbrev pub IsServeAsk : List ℕ → Place → ℕ → List ℕ → Ask → Type 0
IsServeAsk store place count rule (Serve ask) = AsksVisits ask store place count rule
IsServeAsk store place count rule _ = ⊥

-- a command that asks for visits gives visitors as long as these options do
abbrev pub HasTimeouts : List Row → Ask → Type 0
HasTimeouts rows (Serve ask) = GivesTimeouts rows ask.timeouts
HasTimeouts rows _ = ⊤

-- the command asks the desk in the file of the store to take in the images of the sheet, for the
-- key
abbrev pub IsImportAsk : List ℕ → List ℕ → List ℕ → Option ℤ → List ℕ → Ask → Type 0
IsImportAsk store key sheet moment rule (Import ask) = AsksImages ask store key sheet moment rule
IsImportAsk store key sheet moment rule _ = ⊥

-- the command asks for that with a flag
abbrev pub IsFlaggedImportAsk : List ℕ → List ℕ → List ℕ → Option ℤ → List ℕ → Bool → Bool → Ask → Type 0
IsFlaggedImportAsk store key sheet moment rule dry_run keep_going (FlaggedImport ask) = AsksFlaggedImages ask store key sheet moment rule dry_run keep_going
IsFlaggedImportAsk store key sheet moment rule dry_run keep_going _ = ⊥

-- the command asks for the sound files of the image of the kind, in the folder
abbrev pub IsExtractAsk : Kind → List ℕ → List ℕ → Ask → Type 0
IsExtractAsk kind image folder (Extract ask) = AsksExtracted ask kind image folder
IsExtractAsk kind image folder _ = ⊥

-- the command asks for an answer of the desk in the file of the store
abbrev pub IsOneQuestionAsk : List ℕ → Option (List ℕ) → Question → Option ℤ → List ℕ → Ask → Type 0
IsOneQuestionAsk store key question moment rule (OneQuestion ask) = AsksOneQuestion ask store key question moment rule
IsOneQuestionAsk store key question moment rule _ = ⊥

-- the command asks to put the key as one of the staff, in the desk in the file of the store
abbrev pub IsStaffKeyAsk : List ℕ → List ℕ → Ask → Type 0
IsStaffKeyAsk store key (StaffKey ask) = AsksStaff ask store key
IsStaffKeyAsk store key _ = ⊥

-- the command asks to copy the desk in the file of the store to a new file, with sums or without
abbrev pub IsCopyAsk : List ℕ → List ℕ → Bool → Ask → Type 0
IsCopyAsk store target summed (Copy ask) = AsksCopying ask store target summed
IsCopyAsk store target summed _ = ⊥

-- one question to a desk
abbrev pub AsksADesk : Ask → Type 0
AsksADesk (OneQuestion ask) = ⊤
AsksADesk _ = ⊥

-- the question what a check of this accession finds
abbrev pub IsCheckOf : ℕ → Question → Type 0
IsCheckOf acc (question.Check accession) = accession ≡ acc
IsCheckOf acc other = ⊥

-- the question to a desk what a check of this accession finds
abbrev pub AsksCheckOf : ℕ → Ask → Type 0
AsksCheckOf acc (OneQuestion ask) = IsCheckOf acc ask.question
AsksCheckOf acc _ = ⊥

-- the question asks for a check
abbrev pub IsCheck : Question → Type 0
IsCheck (question.Check accession) = ⊤
IsCheck other = ⊥

-- the number of an accession in a question is within its limits, and so is a day
abbrev pub IsAskable : Question → Type 0
IsAskable (question.Check accession) = IsScope accession
IsAskable (question.Show shown) = IsShowable shown
IsAskable other = ⊤

-- if not all is well, the output says so: what became of a row, or that an image is changed
abbrev pub TellsOnOutput : Ask → Type 0
TellsOnOutput (Import ask) = ⊤
TellsOnOutput (FlaggedImport ask) = ⊤
TellsOnOutput (OneQuestion ask) = IsCheck ask.question
TellsOnOutput _ = ⊥

-- the command goes row by row, and a line for each row says what became of it
abbrev pub TellsInRows : Ask → Type 0
TellsInRows (Import ask) = ⊤
TellsInRows (FlaggedImport ask) = ⊤
TellsInRows _ = ⊥

-- the command makes a file for each sound one of an image, and a line for each says so
abbrev pub IsExtraction : Ask → Type 0
IsExtraction (Extract ask) = ⊤
IsExtraction _ = ⊥

-- if the command names an accession, its number is from 1 to 999,999, and if it names a day, that is of the years 1 to
-- 9999
abbrev pub IsWithinLimits : Ask → Type 0
IsWithinLimits (OneQuestion ask) = IsAskable ask.question
IsWithinLimits _ = ⊤

-- the pages of the new store end in sums
abbrev pub has_sums : Ask → Bool
has_sums (Init ask) = ask.has_sums
has_sums ask = false

-- the command trusts the clock
abbrev pub is_trusting : Ask → Bool
is_trusting (Serve ask) = ask.is_trusting
is_trusting (Import ask) = ask.when.is_trusting
is_trusting (FlaggedImport ask) = ask.import.when.is_trusting
is_trusting (OneQuestion ask) = ask.when.is_trusting
is_trusting ask = false

-- how many bytes of the input the command reads at most: one more than an image of the kind has,
-- or none if it reads no image
abbrev pub most_read : Ask → ℕ
most_read (File ask) = size_of ask.kind + 1
most_read (Files ask) = size_of ask.kind + 1
most_read (Init ask) = 0
most_read (Serve ask) = 0
most_read (Import ask) = 0
most_read (OneQuestion ask) = 0
most_read (FlaggedImport ask) = 0
most_read (Extract ask) = size_of ask.image.kind + 1
most_read (StaffKey ask) = 0
most_read (Copy ask) = 0

-- the text to write is help
abbrev pub IsHelp : Unread → Type 0
IsHelp (Clap error) = kind_of error ≡ DisplayHelp
IsHelp Usage = ⊥
IsHelp Day = ⊥
IsHelp Key = ⊥
IsHelp Zones = ⊥
IsHelp Moment = ⊥
IsHelp NoPlace = ⊥
IsHelp NoMemory = ⊥

-- the text to write is the version
abbrev pub IsVersion : Unread → Type 0
IsVersion (Clap error) = kind_of error ≡ DisplayVersion
IsVersion Usage = ⊥
IsVersion Day = ⊥
IsVersion Key = ⊥
IsVersion Zones = ⊥
IsVersion Moment = ⊥
IsVersion NoPlace = ⊥
IsVersion NoMemory = ⊥

-- the words are no command, although `clap` accepts them: the text of --zone is no rule, that of --on does not go
-- with what `show` shows, `serve` has both a port and a socket, or options do not go together
abbrev pub IsMistake : Unread → Type 0
IsMistake unread = (unread ≡ Usage) ⊎ ((unread ≡ Day) ⊎ ((unread ≡ NoPlace) ⊎ IsApart unread))

-- memory ran out, in `clap` or elsewhere
abbrev pub IsForMemory : Unread → Type 0
IsForMemory (Clap error) = kind_of error ≡ OutOfMemory
IsForMemory NoMemory = ⊤
IsForMemory other = ⊥

-- `clap` says why
abbrev pub IsOfClap : Unread → Type 0
IsOfClap (Clap error) = ⊤
IsOfClap other = ⊥

-- what `clap` says is a fault that it finds in the words, or that memory ran out
abbrev pub IsFaultOf : List Text → Unread → Type 0
IsFaultOf words (Clap error) = (kind_of error ≡ OutOfMemory) ⊎ HasFault words (kind_of error)
IsFaultOf words Usage = Unit {0}
IsFaultOf words Day = Unit {0}
IsFaultOf words Key = Unit {0}
IsFaultOf words Zones = Unit {0}
IsFaultOf words Moment = Unit {0}
IsFaultOf words NoPlace = Unit {0}
IsFaultOf words NoMemory = Unit {0}

-- the operands that `clap` found for `cat`
pub record AreCatRows (rows : List Row) (kind : Kind) (image : List ℕ) (slot : ℕ) : Type 0 where
  pub kind_found : first_of (codes "KIND") rows ≡ Some (word_of kind)
  pub image_found : first_of (codes "IMAGE") rows ≡ Some image
  pub slot_text : List ℕ
  pub slot_found : one_of (codes "SLOT") rows ≡ Some slot_text
  pub number : IsSlotText slot_text slot

-- the parse went into `cat`, and found its operands
pub record EntersCat (entered : Option (Text × List Row)) (kind : Kind) (image : List ℕ) (slot : ℕ)
    : Type 0 where
  pub rows : List Row
  pub into : entered ≡ Some (codes "cat", rows)
  pub found : AreCatRows rows kind image slot

-- the operands that `clap` found for `list`
pub record AreListRows (rows : List Row) (kind : Kind) (image : List ℕ) : Type 0 where
  pub kind_found : first_of (codes "KIND") rows ≡ Some (word_of kind)
  pub image_found : first_of (codes "IMAGE") rows ≡ Some image

-- the parse went into `list`, and found its operands
pub record EntersList (entered : Option (Text × List Row)) (kind : Kind) (image : List ℕ)
    : Type 0 where
  pub rows : List Row
  pub into : entered ≡ Some (codes "list", rows)
  pub found : AreListRows rows kind image

-- the options that `clap` found for `init`
pub record AreInitRows (rows : List Row) (store key : List ℕ) : Type 0 where
  pub store_found : first_of (codes "store") rows ≡ Some store
  pub key_found : first_of (codes "key") rows ≡ Some key
  pub no_key_file : first_of (codes "key-file") rows ≡ None

-- the parse went into `init`, and found its options
pub record EntersInit (entered : Option (Text × List Row)) (store key : List ℕ) : Type 0 where
  pub rows : List Row
  pub into : entered ≡ Some (codes "init", rows)
  pub found : AreInitRows rows store key

-- the parse went into `init`, which tells whether the pages end in sums
abbrev pub EntersSumming : Option (Text × List Row) → Bool → Type 0
EntersSumming entered summed = (rows : List Row) × (entered ≡ Some (codes "init", rows)) × IsFlagGiven (one_of (codes "sums") rows) summed

-- the options that `clap` found for `serve`: of the numbers the texts, and of the zone one that may be absent
pub record AreServeRows (rows : List Row) (store : List ℕ) (place : Place) (count : ℕ) (rule : List ℕ) : Type 0 where
  pub store_found : first_of (codes "store") rows ≡ Some store
  pub place_named : NamesPlace rows place
  pub count_used : IsCountUsed rows count
  pub rule_named : IsRuleNamed (first_of (codes "zone") rows) rule
  pub no_zone_file : first_of (codes "zone-file") rows ≡ None

-- the parse went into `serve`, and found its options
pub record EntersServe (entered : Option (Text × List Row)) (store : List ℕ) (place : Place) (count : ℕ) (rule : List ℕ) : Type 0 where
  pub rows : List Row
  pub into : entered ≡ Some (codes "serve", rows)
  pub found : AreServeRows rows store place count rule

-- the parse did not go into `serve`, or names one place there
abbrev pub EntersAtAPlace : Option (Text × List Row) → Type 0
EntersAtAPlace entered = (rows : List Row) → entered ≡ Some (codes "serve", rows) → NamesOnePlace rows

-- it went into `serve`, and does not name one place there
abbrev pub EntersNoPlace : Option (Text × List Row) → Type 0
EntersNoPlace entered = (rows : List Row) × (entered ≡ Some (codes "serve", rows)) × ¬ NamesOnePlace rows

-- if it went into `serve`, the command gives visitors as long as the options there do
abbrev pub EntersTimed : Option (Text × List Row) → Ask → Type 0
EntersTimed entered ask = (rows : List Row) → entered ≡ Some (codes "serve", rows) → HasTimeouts rows ask

-- what the option for a moment gives: nothing if it is absent, and otherwise the number that its
-- text writes
abbrev pub IsMomentNamed : Option (List ℕ) → Option ℤ → Type 0
IsMomentNamed (Some text) moment = (seconds : ℤ) × IsSeconds text seconds × (moment ≡ Some seconds)
IsMomentNamed None moment = moment ≡ None

-- the options that `clap` found for `import`: of the moment and the zone those that are there
pub record AreImportRows (rows : List Row) (store key sheet : List ℕ) (moment : Option ℤ) (rule : List ℕ) : Type 0 where
  pub store_found : first_of (codes "store") rows ≡ Some store
  pub key_found : first_of (codes "key") rows ≡ Some key
  pub no_key_file : first_of (codes "key-file") rows ≡ None
  pub sheet_found : first_of (codes "sheet") rows ≡ Some sheet
  pub moment_named : IsMomentNamed (first_of (codes "at") rows) moment
  pub rule_named : IsRuleNamed (first_of (codes "zone") rows) rule
  pub no_zone_file : first_of (codes "zone-file") rows ≡ None

-- the flags that `clap` found for `import`
pub record AreImportFlags (rows : List Row) (dry_run keep_going : Bool) : Type 0 where
  pub dry_run_given : IsFlagGiven (one_of (codes "dry-run") rows) dry_run
  pub keep_going_given : IsFlagGiven (one_of (codes "keep-going") rows) keep_going

-- the parse went into `import`, found its options, and neither of these flags
pub record EntersImport (entered : Option (Text × List Row)) (store key sheet : List ℕ) (moment : Option ℤ) (rule : List ℕ)
    : Type 0 where
  pub rows : List Row
  pub into : entered ≡ Some (codes "import", rows)
  pub found : AreImportRows rows store key sheet moment rule
  pub flags : AreImportFlags rows false false

-- the parse went into `import`, found its options, and these flags, of which one is set
pub record EntersFlaggedImport (entered : Option (Text × List Row)) (store key sheet : List ℕ) (moment : Option ℤ) (rule : List ℕ) (dry_run keep_going : Bool)
    : Type 0 where
  pub rows : List Row
  pub into : entered ≡ Some (codes "import", rows)
  pub found : AreImportRows rows store key sheet moment rule
  pub flags : AreImportFlags rows dry_run keep_going
  pub one : (dry_run || keep_going) ≡ true

-- the operands that `clap` found for `files`
pub record AreFilesRows (rows : List Row) (kind : Kind) (image folder : List ℕ) : Type 0 where
  pub image_rows : AreListRows rows kind image
  pub folder_found : first_of (codes "to") rows ≡ Some folder

-- the parse went into `files`, and found its operands
pub record EntersFiles (entered : Option (Text × List Row)) (kind : Kind) (image folder : List ℕ) : Type 0 where
  pub rows : List Row
  pub into : entered ≡ Some (codes "files", rows)
  pub found : AreFilesRows rows kind image folder

-- the parse went into the command of this name
abbrev pub EntersAs : Text → Option (Text × List Row) → Type 0
EntersAs name entered = (rows : List Row) × (entered ≡ Some (name, rows))

-- if the parse went into a command that has clocks, it found a rule for them
abbrev pub EntersByRule : Option (Text × List Row) → Type 0
EntersByRule entered = (name : List ℕ) (rows : List Row) → entered ≡ Some (name, rows) → HasClocks name → HasZoneRule rows

-- the parse went into a command that has clocks, which tells whether these are trusted
abbrev pub EntersTrusting : Option (Text × List Row) → Bool → Type 0
EntersTrusting entered trusted = (name : List ℕ) × (rows : List Row) × (entered ≡ Some (name, rows)) × HasClocks name × TellsTrust rows trusted

-- the options that `clap` found for `export`: of the key, the moment and the zone those that are there
pub record AreExportRows (rows : List Row) (store : List ℕ) (key : Option (List ℕ)) (moment : Option ℤ) (rule : List ℕ) : Type 0 where
  pub store_found : first_of (codes "store") rows ≡ Some store
  pub key_named : first_of (codes "key") rows ≡ key
  pub no_key_file : first_of (codes "key-file") rows ≡ None
  pub moment_named : IsMomentNamed (first_of (codes "at") rows) moment
  pub rule_named : IsRuleNamed (first_of (codes "zone") rows) rule
  pub no_zone_file : first_of (codes "zone-file") rows ≡ None

-- the parse went into `export`, and found its options
pub record EntersExport (entered : Option (Text × List Row)) (store : List ℕ) (key : Option (List ℕ)) (moment : Option ℤ) (rule : List ℕ)
    : Type 0 where
  pub rows : List Row
  pub into : entered ≡ Some (codes "export", rows)
  pub found : AreExportRows rows store key moment rule

-- the options that `clap` found for `check`: of the moment and the zone those that are there
pub record AreCheckRows (rows : List Row) (store key : List ℕ) (acc : ℕ) (moment : Option ℤ) (rule : List ℕ) : Type 0 where
  pub store_found : first_of (codes "store") rows ≡ Some store
  pub key_found : first_of (codes "key") rows ≡ Some key
  pub no_key_file : first_of (codes "key-file") rows ≡ None
  pub acc_text : List ℕ
  pub acc_found : one_of (codes "acc") rows ≡ Some acc_text
  pub acc_number : ParsesUnsigned {E = ParseIntError} 32 10 acc_text (Ok acc)
  pub acc_within : IsScope acc
  pub moment_named : IsMomentNamed (first_of (codes "at") rows) moment
  pub rule_named : IsRuleNamed (first_of (codes "zone") rows) rule
  pub no_zone_file : first_of (codes "zone-file") rows ≡ None

-- the parse went into `check`, and found its options
pub record EntersCheck (entered : Option (Text × List Row)) (store key : List ℕ) (acc : ℕ) (moment : Option ℤ) (rule : List ℕ)
    : Type 0 where
  pub rows : List Row
  pub into : entered ≡ Some (codes "check", rows)
  pub found : AreCheckRows rows store key acc moment rule

-- the options that `clap` found for `show`, beside what says what it shows: of the moment and the zone those that are
-- there
pub record AreShowRows (rows : List Row) (store key : List ℕ) (moment : Option ℤ) (rule : List ℕ) : Type 0 where
  pub store_found : first_of (codes "store") rows ≡ Some store
  pub key_found : first_of (codes "key") rows ≡ Some key
  pub no_key_file : first_of (codes "key-file") rows ≡ None
  pub moment_given : IsMomentNamed (first_of (codes "at") rows) moment
  pub rule_given : IsRuleNamed (first_of (codes "zone") rows) rule
  pub no_zone_file : first_of (codes "zone-file") rows ≡ None

-- the parse went into `show`, and found its options
pub record EntersShow (entered : Option (Text × List Row)) (store key : List ℕ) (moment : Option ℤ) (rule : List ℕ) : Type 0 where
  pub rows : List Row
  pub into : entered ≡ Some (codes "show", rows)
  pub found : AreShowRows rows store key moment rule

-- the options that `clap` found for `staff-key`
pub record AreStaffKeyRows (rows : List Row) (store key : List ℕ) : Type 0 where
  pub store_found : first_of (codes "store") rows ≡ Some store
  pub key_found : first_of (codes "key") rows ≡ Some key
  pub no_key_file : first_of (codes "key-file") rows ≡ None

-- the parse went into `staff-key`, and found its options
pub record EntersStaffKey (entered : Option (Text × List Row)) (store key : List ℕ) : Type 0 where
  pub rows : List Row
  pub into : entered ≡ Some (codes "staff-key", rows)
  pub found : AreStaffKeyRows rows store key

-- the options that `clap` found for `copy`
pub record AreCopyRows (rows : List Row) (store target : List ℕ) (summed : Bool) : Type 0 where
  pub store_found : first_of (codes "store") rows ≡ Some store
  pub target_found : first_of (codes "to") rows ≡ Some target
  pub sums_given : IsFlagGiven (one_of (codes "sums") rows) summed

-- the parse went into `copy`, and found its options
pub record EntersCopy (entered : Option (Text × List Row)) (store target : List ℕ) (summed : Bool) : Type 0 where
  pub rows : List Row
  pub into : entered ≡ Some (codes "copy", rows)
  pub found : AreCopyRows rows store target summed

-- if the parse went into `show`, this is what is named there
abbrev pub EntersNaming : Option (Text × List Row) → Option Shown → Type 0
EntersNaming entered shown = (rows : List Row) → entered ≡ Some (codes "show", rows) → IsSomeAnd shown (NamesShown rows)

-- if the parse went into `show`, something is named there
abbrev pub EntersNamed : Option (Text × List Row) → Type 0
EntersNamed entered = (rows : List Row) → entered ≡ Some (codes "show", rows) → NamesAny rows

-- the parse went into `show`, and nothing is named there
abbrev pub EntersNamingNone : Option (Text × List Row) → Type 0
EntersNamingNone entered = (rows : List Row) × (entered ≡ Some (codes "show", rows)) × ¬ NamesAny rows

-- the parse went into a command whose output says if not all is well
abbrev pub EntersTelling : Option (Text × List Row) → Type 0
EntersTelling entered = EntersAs (codes "import") entered ⊎ EntersAs (codes "check") entered

-- ---- inside

-- what is looked at after `clap` finds a fault: of a place, of a day, of options that do not go together, or that memory
-- ran out
abbrev pub IsSeenFault : Unread → Type 0
IsSeenFault fault = (IsApart fault) ⊎ ((fault ≡ NoPlace) ⊎ ((fault ≡ Day) ⊎ (fault ≡ NoMemory)))
