-- What words ask for.
use Rattle.std.specs.Prelude.{◌≡◌, ◌⊎◌, ◌||◌, ℕ, ℤ, Bool, List, Option, Some, codes, false, true}
use Rattle.clap.specs.Words.{Row, Text, one_of}
use Rattle.rd_geometry.specs.declared.kind.Kind.{Kind}
use Rattle.rd_commands.specs.declared.words.Ask.{Ask}
use Rattle.rd_commands.specs.declared.words.Question.TheVariants.{Catalogue, Check, Show}
use Rattle.rd_commands.specs.declared.words.Shown.{Shown}
use Rattle.rd_commands.specs.Asks.{AreCheckRows, AreCopyRows, AreExportRows, AreFilesRows, AreImportRows, AreInitRows, AreServeRows, AreShowRows, AreStaffKeyRows, AreImportFlags, HasTimeouts, IsCopyAsk, IsExtractAsk, IsFileAsk, IsFilesAsk, IsImportAsk, IsInitAsk, IsOneQuestionAsk, IsServeAsk, IsFlaggedImportAsk, IsStaffKeyAsk}
use Rattle.rd_commands.specs.CommandLine.{Enters, IsTakenAs}
use Rattle.rd_commands.specs.Serving.{NamesOnePlace, Place}
use Rattle.rd_commands.specs.Shown.{NamesAny, NamesShown}
use Rattle.rd_commands.specs.Words.{AsksCat, AsksList}
use Rattle.rd_commands.specs.Zones.{HasClocks, HasZoneRule, IsFlagGiven, TellsTrust}

-- The words ask for a desk in the file of a store, with a key: they are those of `init`, as `clap` takes them.
pub record AsksInit (words : List Text) (store key : List ℕ) : Type 0 where
  pub rows : List Row
  pub enters : Enters words (codes "init") rows
  pub found : AreInitRows rows store key

-- The words ask for so many visits at a place, of the desk in the file of a store whose clocks are those of the
-- rule: they are those of `serve`, as `clap` takes them.
pub record AsksServe (words : List Text) (store : List ℕ) (place : Place) (count : ℕ) (rule : List ℕ) : Type 0 where
  pub rows : List Row
  pub enters : Enters words (codes "serve") rows
  pub found : AreServeRows rows store place count rule

-- The words ask the desk in the file of a store to take in the images of a sheet, for a caller
-- with this key, at a moment that they name, or that of the clock, by the clocks of the rule: they
-- are those of `import`, as `clap` takes them.
pub record AsksImport (words : List Text) (store key sheet : List ℕ) (moment : Option ℤ) (rule : List ℕ) : Type 0 where
  pub rows : List Row
  pub enters : Enters words (codes "import") rows
  pub found : AreImportRows rows store key sheet moment rule
  pub flags : AreImportFlags rows false false

-- they ask for it with some options
abbrev pub IsImport : List Text → Type 0
IsImport words = (store : List ℕ) × (key : List ℕ) × (sheet : List ℕ) × (moment : Option ℤ) × (rule : List ℕ)
    × AsksImport words store key sheet moment rule

-- The words ask for that with one of the flags --dry-run and --keep-going, or both: they have these.
pub record AsksFlaggedImport (words : List Text) (store key sheet : List ℕ) (moment : Option ℤ) (rule : List ℕ) (dry_run keep_going : Bool) : Type 0 where
  pub rows : List Row
  pub enters : Enters words (codes "import") rows
  pub found : AreImportRows rows store key sheet moment rule
  pub flags : AreImportFlags rows dry_run keep_going
  pub one : (dry_run || keep_going) ≡ true

-- they ask for it with some options
abbrev pub IsFlaggedImport : List Text → Type 0
IsFlaggedImport words = (store : List ℕ) × (key : List ℕ) × (sheet : List ℕ) × (moment : Option ℤ) × (rule : List ℕ) × (dry_run : Bool) × (keep_going : Bool)
    × AsksFlaggedImport words store key sheet moment rule dry_run keep_going

-- The words ask for the sound files of an image of a kind, in a folder: they are those of `files`, as `clap` takes them.
pub record AsksFiles (words : List Text) (kind : Kind) (image folder : List ℕ) : Type 0 where
  pub rows : List Row
  pub enters : Enters words (codes "files") rows
  pub found : AreFilesRows rows kind image folder

-- they ask for them of some image
abbrev pub IsFiles : List Text → Type 0
IsFiles words = (kind : Kind) × (image : List ℕ) × (folder : List ℕ) × AsksFiles words kind image folder

-- The words ask for the catalogue of the desk in the file of a store, for a caller with this key
-- or without one, at a moment that they name, or that of the clock, by the clocks of the rule:
-- they are those of `export`, as `clap` takes them.
pub record AsksExport (words : List Text) (store : List ℕ) (key : Option (List ℕ)) (moment : Option ℤ) (rule : List ℕ) : Type 0 where
  pub rows : List Row
  pub enters : Enters words (codes "export") rows
  pub found : AreExportRows rows store key moment rule

-- they ask for it with some options
abbrev pub IsExport : List Text → Type 0
IsExport words = (store : List ℕ) × (key : Option (List ℕ)) × (moment : Option ℤ) × (rule : List ℕ) × AsksExport words store key moment rule

-- The words ask the desk in the file of a store to check the image of an accession, for a caller
-- with this key, at such a moment by such clocks: they are those of `check`, as `clap` takes them.
pub record AsksCheck (words : List Text) (store key : List ℕ) (acc : ℕ) (moment : Option ℤ) (rule : List ℕ) : Type 0 where
  pub rows : List Row
  pub enters : Enters words (codes "check") rows
  pub found : AreCheckRows rows store key acc moment rule

-- they ask for it with some options, of an accession
abbrev pub IsCheckOf : List Text → ℕ → Type 0
IsCheckOf words acc = (store : List ℕ) × (key : List ℕ) × (moment : Option ℤ) × (rule : List ℕ) × AsksCheck words store key acc moment rule

-- The words ask the desk in the file of a store to show this, for a caller with this key, at such a moment by such
-- clocks: they are those of `show`, as `clap` takes them.
pub record AsksShow (words : List Text) (store key : List ℕ) (shown : Shown) (moment : Option ℤ) (rule : List ℕ) : Type 0 where
  pub rows : List Row
  pub enters : Enters words (codes "show") rows
  pub found : AreShowRows rows store key moment rule
  pub names : NamesShown rows shown

-- they ask for it with some options
abbrev pub IsShow : List Text → Type 0
IsShow words = (store : List ℕ) × (key : List ℕ) × (shown : Shown) × (moment : Option ℤ) × (rule : List ℕ)
    × AsksShow words store key shown moment rule

-- The words ask to put a key as one of the staff, in the desk in the file of a store: they are those of `staff-key`, as
-- `clap` takes them.
pub record AsksStaffKey (words : List Text) (store key : List ℕ) : Type 0 where
  pub rows : List Row
  pub enters : Enters words (codes "staff-key") rows
  pub found : AreStaffKeyRows rows store key

-- they ask for it with some options
abbrev pub IsStaffKey : List Text → Type 0
IsStaffKey words = (store : List ℕ) × (key : List ℕ) × AsksStaffKey words store key

-- The words ask to copy the desk in the file of a store to a new file, whose pages end in sums or do not: they are those of
-- `copy`, as `clap` takes them.
pub record AsksCopy (words : List Text) (store target : List ℕ) (summed : Bool) : Type 0 where
  pub rows : List Row
  pub enters : Enters words (codes "copy") rows
  pub found : AreCopyRows rows store target summed

-- they ask for it with some options
abbrev pub IsCopy : List Text → Type 0
IsCopy words = (store : List ℕ) × (target : List ℕ) × (summed : Bool) × AsksCopy words store target summed

-- the words ask for a desk, for visits, to take in images, for the catalogue, for a check, to show what the desk holds, to
-- put a key of the staff, or to copy a desk; none of these reads the input
abbrev pub AsksOfStore : List Text → Type 0
AsksOfStore words = ((store : List ℕ) × (key : List ℕ) × AsksInit words store key)
    ⊎ (((store : List ℕ) × (place : Place) × (count : ℕ) × (rule : List ℕ) × AsksServe words store place count rule)
    ⊎ (IsImport words ⊎ (IsExport words ⊎ (((acc : ℕ) × IsCheckOf words acc) ⊎ (IsShow words ⊎ (IsStaffKey words ⊎ IsCopy words))))))

-- the words are a command of the program: a plain form of `cat` or `list`, or any form of the others in which no key and no
-- rule for clocks is in a file, and no date stands in place of a moment
abbrev pub IsCommand : List Text → Type 0
IsCommand words = (((kind : Kind) × (image : List ℕ) × (slot : ℕ) × AsksCat words kind image slot) ⊎ (IsFiles words ⊎ IsFlaggedImport words))
    ⊎ (((kind : Kind) × (image : List ℕ) × AsksList words kind image) ⊎ AsksOfStore words)

-- if `clap` takes the words as a command that has clocks, they give a rule for these
abbrev pub TellsARule : List Text → Type 0
TellsARule words = (name : List ℕ) (rows : List Row) → Enters words name rows → HasClocks name → HasZoneRule rows

-- if `clap` takes the words as `show`, they name what it shows
abbrev pub NamesWhatItShows : List Text → Type 0
NamesWhatItShows words = (rows : List Row) → Enters words (codes "show") rows → NamesAny rows

-- if `clap` takes the words as `serve`, they name one place
abbrev pub NamesAPlace : List Text → Type 0
NamesAPlace words = (rows : List Row) → Enters words (codes "serve") rows → NamesOnePlace rows

-- `clap` takes the words as `show`, and they name nothing that it shows
abbrev pub IsTakenShowingNothing : List Text → Type 0
IsTakenShowingNothing words = (taken : IsTakenAs (codes "show") words) × ¬ NamesAny taken.rows

-- it takes them as `serve`, and they do not name one place
abbrev pub IsTakenServingNowhere : List Text → Type 0
IsTakenServingNowhere words = (taken : IsTakenAs (codes "serve") words) × ¬ NamesOnePlace taken.rows

-- `clap` takes the words as a command that has clocks, and they tell whether these are trusted
abbrev pub Trusts : List Text → Bool → Type 0
Trusts words trusted = (name : List ℕ) × (rows : List Row) × Enters words name rows × HasClocks name × TellsTrust rows trusted

-- `clap` takes the words as `init`, and they tell whether the pages of the new store end in sums
abbrev pub Sums : List Text → Bool → Type 0
Sums words summed = (rows : List Row) × Enters words (codes "init") rows × IsFlagGiven (one_of (codes "sums") rows) summed

-- the program asks for what the words ask for
pub record IsAskOf (words : List Text) (ask : Ask) : Type 0 where
  pub file : (kind : Kind) (image : List ℕ) (slot : ℕ) → AsksCat words kind image slot → IsFileAsk kind image slot ask
  pub files : (kind : Kind) (image : List ℕ) → AsksList words kind image → IsFilesAsk kind image ask
  pub init : (store key : List ℕ) → AsksInit words store key → IsInitAsk store key ask
  pub serve : (store : List ℕ) (place : Place) (count : ℕ) (rule : List ℕ) → AsksServe words store place count rule
      → IsServeAsk store place count rule ask
  pub timeouts : (rows : List Row) → Enters words (codes "serve") rows → HasTimeouts rows ask
  pub flagged_import : (store key sheet : List ℕ) (moment : Option ℤ) (rule : List ℕ) (dry_run keep_going : Bool)
      → AsksFlaggedImport words store key sheet moment rule dry_run keep_going → IsFlaggedImportAsk store key sheet moment rule dry_run keep_going ask
  pub extract : (kind : Kind) (image folder : List ℕ) → AsksFiles words kind image folder → IsExtractAsk kind image folder ask
  pub import : (store key sheet : List ℕ) (moment : Option ℤ) (rule : List ℕ)
      → AsksImport words store key sheet moment rule → IsImportAsk store key sheet moment rule ask
  pub export : (store : List ℕ) (key : Option (List ℕ)) (moment : Option ℤ) (rule : List ℕ)
      → AsksExport words store key moment rule → IsOneQuestionAsk store key Catalogue moment rule ask
  pub check : (store key : List ℕ) (acc : ℕ) (moment : Option ℤ) (rule : List ℕ)
      → AsksCheck words store key acc moment rule → IsOneQuestionAsk store (Some key) (Check acc) moment rule ask
  pub show : (store key : List ℕ) (shown : Shown) (moment : Option ℤ) (rule : List ℕ)
      → AsksShow words store key shown moment rule → IsOneQuestionAsk store (Some key) (Show shown) moment rule ask
  pub staff_key : (store key : List ℕ) → AsksStaffKey words store key → IsStaffKeyAsk store key ask
  pub copy : (store target : List ℕ) (summed : Bool) → AsksCopy words store target summed → IsCopyAsk store target summed ask
