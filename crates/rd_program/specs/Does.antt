-- What a command does: one step from world to world, by what is asked of it.
--
-- `before` and `after` are what the machine shows before the command and after it, `io` is what it read and wrote, and
-- `result` is how it ended: well, where all is done, or a part is, since a row was refused or an image is changed; or it was
-- refused.
-- `g` is what a connection shows, and `told` (its `so_far`) and `coming` are what a door shows. A command that is refused ends with the
-- status of its refusal and writes its line; else the status is 1 where a part is done, and 0 where all is.
use Rattle.std.specs.Prelude.{◌≡◌, ◌⊎◌, ⊤, ℕ, ℤ, Bool, IfErr, IfOk, IfSome, IsErr, IsSomeAnd, IsTrue, List, MatchResult, Ok, OnErr, OnOk, Option, Result, Err, false, true}
use Rattle.std.specs.Io.KnownBytes.{Appends, Keeps}
use Rattle.sha2.specs.Sha256.{sha256}
use Rattle.sqlite.specs.Held.{Held}
use Rattle.sqlite.specs.Store.{Ghosts}
use Rattle.rd_messages.specs.DoorVisits.{Coming, VisitsSoFar}
use Rattle.rd_store.specs.Held.{Lasts}
use Rattle.rd_commands.specs.Asks.{IsCheckOf}
use Rattle.rd_commands.specs.Cat.{Refuses, Serves}
use Rattle.rd_commands.specs.Listed.{Lists, RefusesList}
use Rattle.rd_commands.specs.Output.{AppendsPart}
use Rattle.rd_commands.specs.Printed.{refusal_line}
use Rattle.rd_commands.specs.Refusals.{IsDeviceOrMemory, status_of}
use Rattle.rd_commands.specs.Serving.{place_of}
use Rattle.rd_commands.specs.declared.common_options.Parsed.{Parsed}
use Rattle.rd_commands.specs.declared.done.Done.{Done}
use Rattle.rd_commands.specs.declared.done.Done.TheVariants.{InPart, Whole}
use Rattle.rd_commands.specs.declared.refusal.Refusal.{Refusal}
use Rattle.rd_commands.specs.declared.words.Ask.{Ask}
use Rattle.rd_commands.specs.declared.words.Ask.TheVariants.{Copy, Extract, File, Files, Import, Init, OneQuestion, Serve, FlaggedImport, StaffKey}
use Rattle.rd_commands.specs.declared.words.CopyAsk.{CopyAsk}
use Rattle.rd_commands.specs.declared.words.ExtractAsk.{ExtractAsk}
use Rattle.rd_commands.specs.declared.words.FileAsk.{FileAsk}
use Rattle.rd_commands.specs.declared.words.ImageAsk.{ImageAsk}
use Rattle.rd_commands.specs.declared.words.ImportAsk.{ImportAsk}
use Rattle.rd_commands.specs.declared.words.InitAsk.{InitAsk}
use Rattle.rd_commands.specs.declared.words.OneQuestionAsk.{OneQuestionAsk}
use Rattle.rd_commands.specs.declared.words.ServeAsk.{ServeAsk}
use Rattle.rd_commands.specs.declared.words.StaffKeyAsk.{StaffKeyAsk}
use Rattle.rd_commands.specs.declared.words.WhenAsk.{WhenAsk}
use Rattle.rd_program.specs.Asked.{IsClockDue}
use Rattle.rd_program.specs.Asking.{RefusesOneQuestion, TellsCheck}
use Rattle.rd_program.specs.Completing.{Completes}
use Rattle.rd_program.specs.Copying.{OpensDesk, RunsCopy}
use Rattle.rd_program.specs.Doors.{Asks, AsksThen}
use Rattle.rd_program.specs.Extracting.{Extracts, OfImage, RefusesExtract}
use Rattle.rd_program.specs.Importing.{RefusesImport, TellsRows}
use Rattle.rd_program.specs.Inits.{LeavesInit, MakesDesk, RefusesInit, done_line}
use Rattle.rd_program.specs.Leaves.{HasBoth, IsDayAt, IsSame, Leaves, LeavesStore, NamesOpening, OnEnded, StepsOf, TakesUnlessDry, moment_of}
use Rattle.rd_program.specs.OnTime.{IsBehindIn, ServesOnTime, WasOnTime, is_dated, must_be_on_time}
use Rattle.rd_program.specs.Rows.{IsBadSheetDue}
use Rattle.rd_program.specs.Serving.{AreLimitsOf, IsUnasked, RefusesServe, WritesOnceLent, serve_text}
use Rattle.rd_program.specs.Showing.{AnswersOneQuestion, EndsWith, badge_of}
use Rattle.rd_program.specs.ImportedRows.{ImportsSheetIn, StopsSheetIn, rows_outcome}
use Rattle.rd_program.specs.StaffKeys.{LeavesStaffKey, PutsStaff, RefusesStaffKey}
use Rattle.rd_program.specs.Visiting.{LeavesServe, ServesDoor, ServesSome}
use Rattle.rd_program.specs.declared.import.ImportFlags.{ImportFlags}
use Rattle.rd_program.specs.World.{ChangesFolders, ChangesStore, ChangesStoreAndDoors, CopiesStore, OpensStore, World}
use Rattle.rd_program.specs.World.Wanted.{DoorAt, NewAt, StoreAt}

-- What a command reads and writes beside the machine: what is to come on standard input, and what standard output has taken
-- before it and after it, where that is known.
pub record Io : Type 0 where
  pub input : Option (List ℕ)
  pub out : Option (List ℕ)
  pub written : Option (List ℕ)

-- what stands on standard input, and what standard output had before and has after
abbrev pub io_of : Option (List ℕ) → Option (List ℕ) → Option (List ℕ) → Io
io_of input out written = record { input = input; out = out; written = written }

-- ---- by what is asked for

module _ {S D : Type 0} (g : Ghosts S) (before after : World S D) where
  -- A connection to the store at a path was asked for, and nothing else, and a file is made there only if the command makes
  -- stores. A machine that shows its connections had one for it where the command ends well, and has taken one back.
  pub record UsesStore {T : Type 0} (path : List ℕ) (makes has_sums : Bool) (result : Result T Refusal) : Type 0 where
    pub asked : Asks before.wanted (StoreAt path makes has_sums) after.wanted
    pub there : OnEnded result (HasBoth before.shows (before.stands path) after.left)

  -- this is so of the connection that stood for the store at a path and of the one that is left, if the machine shows both
  abbrev pub LeavesAt : List ℕ → (Held S → Held S → Type 0) → Type 0
  LeavesAt path P = Leaves before.left (before.stands path) after.left P

  -- one stood for it, and the command ended with one of which this is so
  abbrev pub EndsAt : List ℕ → (Held S → Held S → Type 0) → Type 0
  EndsAt path P = EndsWith (before.stands path) after.left P

  -- a failed opening of the store at a path is named only if the opening gave it
  abbrev pub NamesOpeningAt : List ℕ → Refusal → Type 0
  NamesOpeningAt path refusal = NamesOpening g (before.stands path) after.left refusal

  -- the days of the moment at which a desk is asked: the one that the words name or, if they name none, that of the clock
  abbrev pub Days : WhenAsk → ℤ → Type 0
  Days when = IsDayAt (moment_of when.seconds before.clock) when.zone

  -- A desk is asked at a moment. If the moment is known and has no day, the desk is not asked. If the words name none, do not
  -- trust the clock, and ask what depends on the day, the clock was not behind the recorded checks where the command ends
  -- well; and `clock` comes only where the moment has no day, or the clock is behind.
  pub record AsksAt (path : List ℕ) (when : WhenAsk) (dated : Bool) (result : Result Done Refusal) : Type 0 where
    pub unasked : IsUnasked (moment_of when.seconds before.clock) result
    pub on_time : dated ≡ true → IsTrue (must_be_on_time when.seconds when.is_trusting) → OnOk result (WasOnTime g before.clock when.zone (before.stands path) after.left)
    pub due : IfErr result (IsClockDue g dated when.seconds (before.stands path) after.left)
    pub behind : IfErr result (IsBehindIn g dated (must_be_on_time when.seconds when.is_trusting) (moment_of when.seconds before.clock) when.zone (before.stands path) after.left)

  -- ---- each command

  module _ (out written : Option (List ℕ)) where
    -- `cat` writes exactly the bytes of a sound file of the image, or names the refusal that is due. The machine shows what it
    -- showed.
    pub record DoesCat (input : Option (List ℕ)) (ask : FileAsk) (result : Result Done Refusal) : Type 0 where
      pub same : after ≡ before
      pub so : OfImage before.files input ask.image.now (λ image. MatchResult result
          (λ done. Serves ask.kind ask.slot image out written)
          (λ refusal. Refuses refusal ask.kind ask.slot image out written))

    -- `list` writes exactly the list of the image's files, or names the refusal that is due. The machine shows what it showed.
    pub record DoesList (input : Option (List ℕ)) (ask : ImageAsk) (result : Result Done Refusal) : Type 0 where
      pub same : after ≡ before
      pub so : OfImage before.files input ask.image.now (λ image. MatchResult result
          (λ done. Lists ask.kind image out written)
          (λ refusal. RefusesList refusal ask.kind image out written))

    -- `files` makes the sound files of the image in the folder that the words name, over nothing, and writes the line of each;
    -- or it made a front part of them, and names why it stopped. Nothing else of the machine changes.
    pub record DoesFiles (input : Option (List ℕ)) (ask : ExtractAsk) (result : Result Done Refusal) : Type 0 where
      pub frame : ChangesFolders before after
      pub so : MatchResult result
          (λ done. OfImage before.files input ask.image.image.now (λ image.
          Extracts ask.image.kind image ask.folder.now before.written after.written out written))
          (λ refusal. OfImage before.files input ask.image.image.now (λ image.
          RefusesExtract ask.image.kind image ask.folder.now before.written after.written out written refusal))

    -- `init` makes a desk in the store, whose one key of the staff is this, with sums as its words say, and says that it is
    -- done; or it names why not.
    pub record DoesInit (ask : InitAsk) (result : Result Done Refusal) : Type 0 where
      pub frame : OpensStore before after
      pub store : UsesStore ask.store.now true ask.has_sums result
      pub so : MatchResult result
          (λ done. MakesDesk g (before.stands ask.store.now) after.left (sha256 ask.key.now) × Appends out written done_line)
          (λ refusal. RefusesInit refusal out written × LeavesInit g before.left (before.stands ask.store.now) after.left (sha256 ask.key.now) refusal)

    -- `staff-key` puts this key as one of the staff of the desk that stood, changes nothing else, and says that it is done; or
    -- it names why not.
    pub record DoesStaffKey (ask : StaffKeyAsk) (result : Result Done Refusal) : Type 0 where
      pub frame : OpensStore before after
      pub store : UsesStore ask.store.now false false result
      pub so : MatchResult result
          (λ done. EndsAt ask.store.now (PutsStaff g (sha256 ask.key.now)) × Appends out written done_line)
          (λ refusal. RefusesStaffKey refusal out written
          × LeavesStaffKey g before.left (before.stands ask.store.now) after.left (sha256 ask.key.now) refusal × NamesOpeningAt ask.store.now refusal)

    -- `copy` makes the desk that stood in a new store, and says that it is done; or it names why not. It asks for no new store
    -- but this one, and only where it opened the desk, which is as it was.
    pub record DoesCopy (ask : CopyAsk) (result : Result Done Refusal) : Type 0 where
      pub frame : CopiesStore before after
      pub asked : AsksThen before.wanted (StoreAt ask.store.now false false) (NewAt ask.target.now ask.has_sums) after.wanted (EndsAt ask.store.now (OpensDesk g))
      pub there : OnEnded result (HasBoth before.shows (before.stands ask.store.now) after.left)
      pub leaves : LeavesAt ask.store.now (LeavesStore g IsSame)
      pub copies : RunsCopy g before.shows (before.stands ask.store.now) after.left before.made (before.fresh ask.target.now) after.made out written result

    -- `export`, `check` and `show` ask the desk that stood one question, at a moment, and write its answer; or they name why
    -- there is none. A check is recorded, and nothing else changes.
    pub record DoesQuestion (ask : OneQuestionAsk) (result : Result Done Refusal) : Type 0 where
      pub frame : ChangesStore before after
      pub store : UsesStore ask.store.now false false result
      pub leaves : LeavesAt ask.store.now (LeavesStore g (StepsOf (badge_of ask) (Days ask.when) ask.question))
      pub moment : AsksAt ask.store.now ask.when (is_dated ask.question) result
      pub answers : AnswersOneQuestion g before.clock (before.stands ask.store.now) after.left out written ask result
      pub tells : (acc : ℕ) → IsCheckOf acc ask.question → IfOk result (TellsCheck acc out written)
      pub refused : IfErr result (RefusesOneQuestion out written)
      pub opening : IfErr result (NamesOpeningAt ask.store.now)

    -- `import` takes in the images of a sheet at a moment, row by row, and writes the line of each, which says what became of
    -- it; or it names why it was refused, and the lines say what became of the first rows, perhaps of all. With `--dry-run` the
    -- lines say what would become of the rows, and the desk is as it was; with `--keep-going` a row whose file is not read has
    -- a line, and the next one follows. `rows` and `stopped` tell of rows while the connection is open at the end, `tells` of
    -- the form of the lines in any case. Nothing else changes.
    pub record DoesImport (ask : ImportAsk) (flags : ImportFlags) (result : Result Done Refusal) : Type 0 where
      pub frame : ChangesStore before after
      pub store : UsesStore ask.store.now false false result
      pub leaves : LeavesAt ask.store.now (LeavesStore g (TakesUnlessDry flags.dry_run (sha256 ask.key.now) (Days ask.when)))
      pub moment : AsksAt ask.store.now ask.when true result
      pub rows : IfOk result (λ done. EndsAt ask.store.now
          (ImportsSheetIn g before.files flags (sha256 ask.key.now) (Days ask.when) (before.sheets ask.sheet.now) out written done))
      pub stopped : OnErr result (StopsSheetIn g before.files flags (sha256 ask.key.now) (Days ask.when) (before.sheets ask.sheet.now) out written before.left (before.stands ask.store.now) after.left)
      pub tells : MatchResult result (λ done. TellsRows flags.dry_run out written (rows_outcome done)) (RefusesImport out written)
      pub opening : IfErr result (NamesOpeningAt ask.store.now)
      pub bad_sheet : IfErr result (λ refusal. IfSome (before.sheets ask.sheet.now) (λ bytes. IsBadSheetDue bytes refusal))

    -- `serve` writes where visits come, takes as many there as its words say, replies to each, and says how many there were; or
    -- it names why it ends before that, and has replied to each that came. It has no door lent at another place. It writes
    -- nothing before a door is lent, and nothing by a clock that is behind the recorded checks and is not trusted.
    pub record DoesServe (told : D → Option VisitsSoFar) (coming : D → Option (List Coming)) (ask : ServeAsk) (result : Result Done Refusal) : Type 0 where
      pub frame : ChangesStoreAndDoors before after
      pub asked : AsksThen before.wanted (StoreAt ask.store.now false false) (DoorAt (place_of ask.place)) after.wanted ⊤
      pub there : OnEnded result (HasBoth before.shows (before.stands ask.store.now) after.left)
      pub leaves : LeavesAt ask.store.now (Lasts g)
      pub so : MatchResult result
          (λ done. Appends out written (serve_text (place_of ask.place) ask.count))
          (λ refusal. RefusesServe refusal (place_of ask.place) ask.count out written
          × LeavesServe g before.left (before.stands ask.store.now) after.left (place_of ask.place) out written
          (ServesSome g told coming ask.zone (before.doors (place_of ask.place)) (after.doors (place_of ask.place)) (before.stands ask.store.now) after.left) refusal)
      pub visits : OnOk result (ServesDoor g told coming ask.count ask.zone (before.doors (place_of ask.place)) (after.doors (place_of ask.place))
          (before.stands ask.store.now) after.left)
      pub limits : OnOk result (IsTrue before.shows → IsSomeAnd after.limits (AreLimitsOf ask.timeouts))
      pub lent : WritesOnceLent before.shows after.limits out written
      pub on_time : ask.is_trusting ≡ false → Keeps out written ⊎ ServesOnTime g before.clock ask.zone (before.stands ask.store.now) after.left

-- what a command does: `File` is `cat`, `Files` is `list`, `Extract` is `files`, and `FlaggedImport` is `import` with `--dry-run`,
-- `--keep-going` or both
abbrev pub Does : {S D : Type 0} → Ghosts S → (D → Option VisitsSoFar) → (D → Option (List Coming)) → World S D → World S D → Io → Ask → Result Done Refusal → Type 0
Does g told coming before after io (File ask) result = DoesCat g before after io.out io.written io.input ask result
Does g told coming before after io (Files ask) result = DoesList g before after io.out io.written io.input ask result
Does g told coming before after io (Extract ask) result = DoesFiles g before after io.out io.written io.input ask result
Does g told coming before after io (Init ask) result = DoesInit g before after io.out io.written ask result
Does g told coming before after io (StaffKey ask) result = DoesStaffKey g before after io.out io.written ask result
Does g told coming before after io (Copy ask) result = DoesCopy g before after io.out io.written ask result
Does g told coming before after io (OneQuestion ask) result = DoesQuestion g before after io.out io.written ask result
Does g told coming before after io (Import ask) result = DoesImport g before after io.out io.written ask (record { dry_run = false; keep_going = false }) result
Does g told coming before after io (FlaggedImport ask) result = DoesImport g before after io.out io.written ask.import (record { dry_run = ask.dry_run; keep_going = ask.keep_going }) result
Does g told coming before after io (Serve ask) result = DoesServe g before after io.out io.written told coming ask result

-- ---- a run of the program

-- the status and the line of a result
abbrev pub EndsSo : Result Done Refusal → ℕ → Option (List ℕ) → Option (List ℕ) → Type 0
EndsSo (Ok Whole) status old new = (status ≡ 0) × Keeps old new
EndsSo (Ok InPart) status old new = (status ≡ 1) × Keeps old new
EndsSo (Err refusal) status old new = (status ≡ status_of refusal) × AppendsPart old new (refusal_line refusal)

-- A command ended before it asked the machine for a connection, since a file was not read or memory ran out: the machine
-- shows what it showed, and nothing was written.
pub record EndsEarly {S D : Type 0} (before after : World S D) (io : Io) (result : Result Done Refusal) : Type 0 where
  pub refused : IsErr result
  pub why : IfErr result IsDeviceOrMemory
  pub same : after ≡ before
  pub kept : Keeps io.out io.written

-- The command of the words did what `Does` says. Where they name a file with a key or with clocks, or a
-- day, it is what they would ask for with the key, the clocks and the first moment in its place.
pub record DoesParsed {S D : Type 0} (g : Ghosts S) (told : D → Option VisitsSoFar) (coming : D → Option (List Coming)) (before after : World S D) (io : Io)
    (words : Parsed) (result : Result Done Refusal) : Type 0 where
  pub command : Ask
  pub whole : Completes before.files io.input words command
  pub does : Does g told coming before after io command result

-- A run of these words ended with the status and the line of a result: that of its command, or of one that ended early.
pub record Runs {S D : Type 0} (g : Ghosts S) (told : D → Option VisitsSoFar) (coming : D → Option (List Coming)) (before after : World S D) (io : Io)
    (errors said : Option (List ℕ)) (words : Parsed) (status : ℕ) : Type 0 where
  pub result : Result Done Refusal
  pub ends : EndsSo result status errors said
  pub does : DoesParsed g told coming before after io words result ⊎ EndsEarly before after io result
