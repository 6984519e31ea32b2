-- What the getters of `clap` read of the operands of a command.
use Rattle.std.proofs.Common.{◌≡◌, ◌≢◌, ◌∙◌, ◌⊎◌, ◌||◌, ◌==◌, Bool, false, ◌∷◌, OnSome, ◌↔◌, IsOk, codes, ℕ, ℤ, List, [], Ok, Err, OnOk, Option, Some, None, Result, option_map, IfSome, IfNone, IfOk, IfErr, sym, ap, subst, true, inl, inr, refl}
use Rattle.std.specs.Prelude.{Box, IsErrAnd, IsSomeAnd, ok_or, unwrap_or}
use Rattle.std.specs.Borrow.{Bor}
use Rattle.std.specs.Box.{box_value}
use Rattle.std.specs.Result.{result_ok}
use Rattle.std.specs.Int.{w64}
use Rattle.std.specs.Str.Parse.{ExplainsSignedError, ExplainsUnsignedError, HasSignedDigitsIfOk, HasUnsignedDigitsIfOk, ParsesSigned, ParsesUnsigned}
use Rattle.std.specs.declared.num.ParseIntError.{ParseIntError}
use Rattle.clap.specs.Words.{App, HasKind, HasMatchesOf, Row, Text, fault_of, first_of, first_value, is_simple, is_simple_and_free, rows_of, found_of, subcommand_name_of, subcommand_of, subcommand_rows, subcommand_rows_of, takes}
use Rattle.clap.specs.declared.parser.matches.ArgMatches.TheViews.{out-ArgMatches, out-SubCommand}
use Rattle.clap.specs.declared.parser.matches.SubCommand.{SubCommand}
use Rattle.clap.specs.Values.{kind_of}
use Rattle.clap.specs.Kinds.{IsAmong}
use Rattle.clap.specs.declared.error.Error.{Error}
use Rattle.clap.specs.declared.error.kind.ErrorKind.TheVariants.{DisplayHelp, OutOfMemory}
use Rattle.clap.specs.declared.parser.matches.ArgMatches.{ArgMatches}
use Rattle.clap.specs.Matches.{ReadsOne}
use Rattle.clap.specs.declared.parser.matches.Found.{Found}
use Rattle.clap.proofs.WalkLemmas.{first_value-rows}
use Rattle.rd_geometry.specs.declared.kind.Kind.{Kind}
use Rattle.rd_policy.specs.Zones.{IsZoneOf, IsZoneRule}
use Rattle.rd_policy.specs.declared.zone.Zone.{Zone}
use Rattle.rd_policy.specs.declared.zone.ZoneFault.{ZoneFault}
use Rattle.rd_geometry.specs.Kinds.{word_of}
use Rattle.clap.specs.declared.error.kind.ErrorKind.{ErrorKind}
use Rattle.rd_commands.specs.Asks.{EntersAs, EntersByRule, EntersCat, EntersCheck, EntersCopy, EntersExport, EntersFiles, EntersImport, EntersInit, EntersList, EntersNaming, EntersNamingNone, EntersNoPlace, EntersServe, EntersShow, EntersFlaggedImport, EntersStaffKey, EntersSumming, EntersTelling, EntersTimed, HasTimeouts, IsCopyAsk, IsExtractAsk, IsFaultOf, IsFileAsk, IsFilesAsk, IsForMemory, IsHelp, IsImportAsk, IsInitAsk, IsMistake, IsMomentNamed, IsOneQuestionAsk, IsServeAsk, IsFlaggedImportAsk, IsStaffKeyAsk, IsWithinLimits, TellsOnOutput, has_sums, EntersTrusting, is_trusting}
use Rattle.rd_commands.specs.CommandLine.{AsksForHelp, Enters, HasFault, IsDeskApp, IsTaken, IsTakenAs, IsTakenTelling, NameList, desk_app}
use Rattle.rd_commands.specs.Commands.{AsksCheck, AsksCopy, AsksExport, AsksFiles, AsksImport, AsksInit, AsksServe, AsksShow, AsksFlaggedImport, AsksStaffKey, IsAskOf, IsCommand, IsTakenServingNowhere, IsTakenShowingNothing, NamesWhatItShows, Sums, TellsARule, Trusts}
use Rattle.rd_commands.specs.CommonOptions.{EntersApart, IsTakenApart}
use Rattle.rd_commands.specs.Serving.{Place}
use Rattle.rd_commands.specs.Words.{AsksCat, AsksList, IsSlotText}
use Rattle.rd_commands.specs.Zones.{HasClocks, IsFlagGiven, rule_text}
use Rattle.rd_commands.specs.declared.words.Ask.{Ask}
use Rattle.rd_commands.specs.declared.words.Question.TheVariants.{Catalogue, Check, Show}
use Rattle.rd_commands.specs.declared.words.Shown.{Shown}
use Rattle.rd_commands.specs.declared.words.Unread.{Unread}
use Rattle.rd_commands.specs.declared.words.Unread.TheVariants.{Day, Key, Moment, NoMemory, Place as NoPlace, Clap, Usage, Zones}
use Rattle.rd_commands.proofs.CatLine.{gives_cat, simple, takes_cat}
use Rattle.rd_commands.proofs.ListLine.{gives_list, takes_list}
use Rattle.rd_commands.proofs.ShowWords.{command_names, named_given, named_some}
use Rattle.rd_commands.proofs.Texts.{same_kind}

-- the text that a getter gives is the one in the rows
pub text_is : (found : Found) (id s t : Text) → Some s ≡ first_value found id → first_of id (rows_of found) ≡ Some t → s ≡ t
text_is found id s t given there = let same : Some s ≡ Some t = given ∙ first_value-rows found id ∙ there in cc

-- where the rows have a text a getter gives one
pub text_there : (found : Found) (id t : Text) → None ≡ first_value found id → first_of id (rows_of found) ≡ Some t → ⊥
text_there found id t none there = let same : None ≡ Some t = none ∙ first_value-rows found id ∙ there in cc

-- the rule that a getter gives, or that of UTC in its place, is the one that the rows tell
pub rule_is : (found : Found) (id : Text) (given : Option (Bor Text)) (other : Bor Text) → option_map (λ (text : Bor Text). text.now) given ≡ first_value found id
    → other.now ≡ codes "UTC0" → (unwrap_or given other).now ≡ rule_text (first_of id (rows_of found))
rule_is found id given other is utc = told given ∙ ap rule_text (is ∙ first_value-rows found id)
  where
    told : (text : Option (Bor Text)) → (unwrap_or text other).now ≡ rule_text (option_map (λ (text : Bor Text). text.now) text)
    told (Some text) = refl
    told None = utc

-- a zone that is read is of a rule
pub zone_ruled : (read : Result Zone ZoneFault) (zone : Option Zone) (rule : Text) → zone ≡ result_ok read → (IsOk read ↔ IsZoneRule rule) → OnSome zone (IsZoneRule rule)
zone_ruled (Ok zone) o rule is taken = subst (λ x. OnSome x (IsZoneRule rule)) (sym is) (taken.0 refl)
zone_ruled (Err fault) o rule is taken = subst (λ x. OnSome x (IsZoneRule rule)) (sym is) tt

-- of a rule a zone is read
pub zone_given : (read : Result Zone ZoneFault) (zone : Option Zone) (rule : Text) → zone ≡ result_ok read → (IsOk read ↔ IsZoneRule rule) → IfOk read (IsZoneOf rule)
    → IsZoneRule rule → IsSomeAnd zone (IsZoneOf rule)
zone_given (Ok zone) o rule is taken of has = subst (λ x. IsSomeAnd x (IsZoneOf rule)) (sym is) of
zone_given (Err fault) o rule is taken of has = let fails : false ≡ true = taken.1 has in cc

-- the kind of a kind's word
pub kind_is : (r : Option Kind) (word : Text) (kind : Kind) → IfSome r (λ k. word ≡ word_of k) → IfNone r ((k : Kind) → word ≢ word_of k)
    → word ≡ word_of kind → r ≡ Some kind
kind_is (Some k) word kind found none is = ap Some (same_kind k kind (sym found ∙ is))
kind_is None word kind found none is = absurd (none kind is)

-- how `parse` reads an unsigned number of so many bits
abbrev pub ReadsAs : ℕ → Text → Result ℕ ParseIntError → Type 0
ReadsAs bits text r = ParsesUnsigned bits 10 text r × ExplainsUnsignedError 10 text r × HasUnsignedDigitsIfOk text r

-- the word of a kind that is read is told
pub kind_given : (rows : List Row) (word : Text) (r : Option Kind) → first_of (codes "KIND") rows ≡ Some word → IfSome r (λ kind. word ≡ word_of kind)
    → IfSome r (λ kind. first_of (codes "KIND") rows ≡ Some (word_of kind))
kind_given rows word (Some kind) there is = there ∙ ap Some is
kind_given rows word None there is = tt

-- the text of a number reads as the number
pub number_is : (bits : ℕ) (text : Text) (number : ℕ) (r : Option ℕ) → ReadsOne (ReadsAs bits) text r → ParsesUnsigned {E = ParseIntError} bits 10 text (Ok number)
    → r ≡ Some number
number_is bits text number (Some n) read parses = ap Some (read.0.1 ∙ sym parses.1)
number_is bits text number None read parses = absurd (read.1.0 parses.0)

-- a slot's text reads as the slot
pub slot_is : (text : Text) (slot : ℕ) (r : Option ℕ) → ReadsOne (ReadsAs 16) text r → IsSlotText text slot → r ≡ Some slot
slot_is text slot r read number = number_is 16 text slot r read number.reads

-- how `parse` reads a number of 64 bits with a sign
abbrev pub ReadsSigned : Text → Result ℤ ParseIntError → Type 0
ReadsSigned text r = ParsesSigned w64 10 text r × ExplainsSignedError 10 text r × HasSignedDigitsIfOk text r

-- the truth value that is read is the one that is told
pub flag_is : (o : Option Text) (flag r : Bool) → (o ≡ None → r ≡ false) → (o ≡ Some (codes "true") → r ≡ true) → (o ≡ Some (codes "false") → r ≡ false)
    → IsFlagGiven o flag → r ≡ flag
flag_is (Some text) true r none on off told = on (ap Some told)
flag_is (Some text) false r none on off told = off (ap Some told)
flag_is None flag r none on off told = none refl ∙ sym told

-- the words that a parse of the program's command line was given went into a command
pub entered_is : (app : App) (words : List Text) (m : ArgMatches) → IsDeskApp app → HasMatchesOf app words m → subcommand_of app words ≡ subcommand_rows_of m
entered_is app words m desk matches = sym (matches (ap is_simple desk.is ∙ simple desk.cat_kinds desk.list_kinds desk.files_kinds desk.shown)).1

-- What a parse of the words found is what they ask for.
pub record GivesAsk (words : List Text) (o : Option Ask) : Type 0 where
  pub file : (kind : Kind) (image : Text) (slot : ℕ) → AsksCat words kind image slot → IsSomeAnd o (IsFileAsk kind image slot)
  pub files : (kind : Kind) (image : Text) → AsksList words kind image → IsSomeAnd o (IsFilesAsk kind image)
  pub init : (store key : Text) → AsksInit words store key → IsSomeAnd o (IsInitAsk store key)
  pub serve : (store : Text) (place : Place) (count : ℕ) (rule : Text) → AsksServe words store place count rule → IsSomeAnd o (IsServeAsk store place count rule)
  pub timeouts : (rows : List Row) → Enters words (codes "serve") rows → IfSome o (HasTimeouts rows)
  pub import : (store key sheet : Text) (moment : Option ℤ) (rule : Text) → AsksImport words store key sheet moment rule
      → IsSomeAnd o (IsImportAsk store key sheet moment rule)
  pub export : (store : Text) (key : Option Text) (moment : Option ℤ) (rule : Text) → AsksExport words store key moment rule
      → IsSomeAnd o (IsOneQuestionAsk store key Catalogue moment rule)
  pub check : (store key : Text) (acc : ℕ) (moment : Option ℤ) (rule : Text) → AsksCheck words store key acc moment rule
      → IsSomeAnd o (IsOneQuestionAsk store (Some key) (Check acc) moment rule)
  pub show : (store key : Text) (shown : Shown) (moment : Option ℤ) (rule : Text) → AsksShow words store key shown moment rule
      → IsSomeAnd o (IsOneQuestionAsk store (Some key) (Show shown) moment rule)
  pub flagged_import : (store key sheet : Text) (moment : Option ℤ) (rule : Text) (dry_run keep_going : Bool) → AsksFlaggedImport words store key sheet moment rule dry_run keep_going
      → IsSomeAnd o (IsFlaggedImportAsk store key sheet moment rule dry_run keep_going)
  pub extract : (kind : Kind) (image folder : Text) → AsksFiles words kind image folder → IsSomeAnd o (IsExtractAsk kind image folder)
  pub staff_key : (store key : Text) → AsksStaffKey words store key → IsSomeAnd o (IsStaffKeyAsk store key)
  pub copy : (store target : Text) (summed : Bool) → AsksCopy words store target summed → IsSomeAnd o (IsCopyAsk store target summed)

-- What the rows of the command that a parse went into ask for is found.
pub record GivesRows (entered : Option (Text × List Row)) (shown : Option Shown) (o : Option Ask) : Type 0 where
  pub file : (kind : Kind) (image : Text) (slot : ℕ) → EntersCat entered kind image slot → IsSomeAnd o (IsFileAsk kind image slot)
  pub files : (kind : Kind) (image : Text) → EntersList entered kind image → IsSomeAnd o (IsFilesAsk kind image)
  pub init : (store key : Text) → EntersInit entered store key → IsSomeAnd o (IsInitAsk store key)
  pub serve : (store : Text) (place : Place) (count : ℕ) (rule : Text) → EntersServe entered store place count rule → IsSomeAnd o (IsServeAsk store place count rule)
  pub timeouts : IfSome o (EntersTimed entered)
  pub import : (store key sheet : Text) (moment : Option ℤ) (rule : Text) → EntersImport entered store key sheet moment rule
      → IsSomeAnd o (IsImportAsk store key sheet moment rule)
  pub export : (store : Text) (key : Option Text) (moment : Option ℤ) (rule : Text) → EntersExport entered store key moment rule
      → IsSomeAnd o (IsOneQuestionAsk store key Catalogue moment rule)
  pub check : (store key : Text) (acc : ℕ) (moment : Option ℤ) (rule : Text) → EntersCheck entered store key acc moment rule
      → IsSomeAnd o (IsOneQuestionAsk store (Some key) (Check acc) moment rule)
  pub show : (store key : Text) (what : Shown) (moment : Option ℤ) (rule : Text) → shown ≡ Some what → EntersShow entered store key moment rule
      → IsSomeAnd o (IsOneQuestionAsk store (Some key) (Show what) moment rule)
  pub flagged_import : (store key sheet : Text) (moment : Option ℤ) (rule : Text) (dry_run keep_going : Bool) → EntersFlaggedImport entered store key sheet moment rule dry_run keep_going
      → IsSomeAnd o (IsFlaggedImportAsk store key sheet moment rule dry_run keep_going)
  pub extract : (kind : Kind) (image folder : Text) → EntersFiles entered kind image folder → IsSomeAnd o (IsExtractAsk kind image folder)
  pub staff_key : (store key : Text) → EntersStaffKey entered store key → IsSomeAnd o (IsStaffKeyAsk store key)
  pub copy : (store target : Text) (summed : Bool) → EntersCopy entered store target summed → IsSomeAnd o (IsCopyAsk store target summed)

-- so the options of `serve` say how long a visitor may take
timed_rows : (o : Option Ask) (entered : Option (Text × List Row)) (rows : List Row) → entered ≡ Some (codes "serve", rows) → IfSome o (EntersTimed entered)
    → IfSome o (HasTimeouts rows)
timed_rows (Some ask) entered rows into timed = timed rows into
timed_rows None entered rows into timed = tt

pub ask_given : (o : Option Ask) (shown : Option Shown) (app : App) (words : List Text) (m : ArgMatches) → IsDeskApp app → HasMatchesOf app words m
    → EntersNaming (subcommand_rows_of m) shown → GivesRows (subcommand_rows_of m) shown o → GivesAsk words o
ask_given o shown app words m desk matches naming given =
    let same : subcommand_of app words ≡ subcommand_rows_of m = entered_is app words m desk matches in
    record {
      file = λ kind image slot asks. given.file kind image slot (subst (λ e. EntersCat e kind image slot) same (gives_cat app words kind image slot desk asks));
      files = λ kind image asks. given.files kind image (subst (λ e. EntersList e kind image) same (gives_list app words kind image desk asks));
      init = λ store key asks. given.init store key (record { rows = asks.rows; into = sym same ∙ asks.enters.into app desk; found = asks.found });
      serve = λ store place count rule asks. given.serve store place count rule (record { rows = asks.rows; into = sym same ∙ asks.enters.into app desk; found = asks.found });
      timeouts = λ rows enters. timed_rows o (subcommand_rows_of m) rows (sym same ∙ enters.into app desk) given.timeouts;
      import = λ store key sheet moment rule asks.
          given.import store key sheet moment rule (record { rows = asks.rows; into = sym same ∙ asks.enters.into app desk; found = asks.found; flags = asks.flags });
      export = λ store key moment rule asks. given.export store key moment rule (record { rows = asks.rows; into = sym same ∙ asks.enters.into app desk; found = asks.found });
      check = λ store key acc moment rule asks. given.check store key acc moment rule (record { rows = asks.rows; into = sym same ∙ asks.enters.into app desk; found = asks.found });
      show = λ store key what moment rule asks.
          let into = sym same ∙ asks.enters.into app desk in
          given.show store key what moment rule (named_given shown asks.rows what (naming asks.rows into) asks.names)
          (record { rows = asks.rows; into = into; found = asks.found });
      flagged_import = λ store key sheet moment rule dry_run keep_going asks.
          given.flagged_import store key sheet moment rule dry_run keep_going
          (record { rows = asks.rows; into = sym same ∙ asks.enters.into app desk; found = asks.found; flags = asks.flags; one = asks.one });
      extract = λ kind image folder asks.
          given.extract kind image folder (record { rows = asks.rows; into = sym same ∙ asks.enters.into app desk; found = asks.found });
      staff_key = λ store key asks. given.staff_key store key (record { rows = asks.rows; into = sym same ∙ asks.enters.into app desk; found = asks.found });
      copy = λ store target summed asks. given.copy store target summed (record { rows = asks.rows; into = sym same ∙ asks.enters.into app desk; found = asks.found });
    }

-- words that are read are what is asked for
pub ask_read : (o : Option Ask) (fault : Unread) (r : Result Ask Unread) (words : List Text) → r ≡ ok_or o fault → GivesAsk words o
    → IfOk r (IsAskOf words)
ask_read (Some ask) fault r words is given = subst (λ x. IfOk x (IsAskOf words)) (sym is) (record { file = given.file; files = given.files; init = given.init; serve = given.serve; timeouts = given.timeouts; import = given.import; export = given.export; check = given.check; show = given.show; flagged_import = given.flagged_import; extract = given.extract; staff_key = given.staff_key; copy = given.copy })
ask_read None fault r words is given = subst (λ x. IfOk x (IsAskOf words)) (sym is) tt

-- an accession that is read is a number of one
pub ask_accession : (o : Option Ask) (fault : Unread) (r : Result Ask Unread) → r ≡ ok_or o fault → IfSome o IsWithinLimits → IfOk r IsWithinLimits
ask_accession (Some ask) fault r is has = subst (λ x. IfOk x IsWithinLimits) (sym is) has
ask_accession None fault r is has = subst (λ x. IfOk x IsWithinLimits) (sym is) tt

free : (kinds others more shown : NameList) → is_simple_and_free (desk_app kinds others more shown) ≡ true
free kinds others more shown = refl

-- words that a parse takes have no fault
pub faultless : (app : App) (words : List Text) → IsDeskApp app → (is_simple_and_free app ≡ true → fault_of app words ≡ []) → fault_of app words ≡ []
faultless app words desk none = none (ap is_simple_and_free desk.is ∙ free desk.cat_kinds desk.list_kinds desk.files_kinds desk.shown)

-- so `clap` takes them
pub taken_by : (app : App) (words : List Text) → IsDeskApp app → (is_simple_and_free app ≡ true → fault_of app words ≡ []) → IsTaken words
taken_by app words desk none = record { app = app; is_desk = desk; no_fault = faultless app words desk none }

-- so where a parse of the words succeeds
pub words_taken : {T E : Type 0} (r : Result T E) (app : App) (words : List Text) → IsDeskApp app → (is_simple_and_free app ≡ true → fault_of app words ≡ [])
    → OnOk r (IsTaken words)
words_taken (Ok value) app words desk none = taken_by app words desk none
words_taken (Err error) app words desk none = tt

-- where it fails, they have a fault of the error's kind, or memory ran out
pub words_at_fault : (app : App) (words : List Text) (error : Error) → IsDeskApp app → (is_simple_and_free app ≡ true → HasKind (fault_of app words) error)
    → IsFaultOf words (Clap error)
words_at_fault app words error desk has = elim (has (ap is_simple_and_free desk.is ∙ free desk.cat_kinds desk.list_kinds desk.files_kinds desk.shown)) [
  | inl out ↦ inl out
  | inr among ↦ inr (record { app = app; is_desk = desk; fault = among })
]

-- what is told of the words is help only where they ask for it
pub help_asked : (words : List Text) (unread : Unread) → IsHelp unread → IsFaultOf words unread → AsksForHelp words
help_asked words (Clap error) help fault = elim fault [
  | inl out ↦ let same : DisplayHelp ≡ OutOfMemory = sym help ∙ out in cc
  | inr found ↦ subst (HasFault words) help found
]
help_asked words Usage help fault = absurd help
help_asked words Day help fault = absurd help
help_asked words NoPlace help fault = absurd help
help_asked words Key help fault = absurd help
help_asked words Zones help fault = absurd help
help_asked words Moment help fault = absurd help
help_asked words NoMemory help fault = absurd help

-- a command is found
no_command : (words : List Text) → GivesAsk words None → IsCommand words → ⊥
no_command words given (inl (inl cat)) = given.file cat.0 cat.1 cat.2 cat.3
no_command words given (inl (inr (inl files))) = given.extract files.0 files.1 files.2 files.3
no_command words given (inl (inr (inr flagged_import))) = given.flagged_import flagged_import.0 flagged_import.1 flagged_import.2 flagged_import.3 flagged_import.4 flagged_import.5 flagged_import.6 flagged_import.7
no_command words given (inr (inl list)) = given.files list.0 list.1 list.2
no_command words given (inr (inr (inl init))) = given.init init.0 init.1 init.2
no_command words given (inr (inr (inr (inl serve)))) = given.serve serve.0 serve.1 serve.2 serve.3 serve.4
no_command words given (inr (inr (inr (inr (inl import))))) = given.import import.0 import.1 import.2 import.3 import.4 import.5
no_command words given (inr (inr (inr (inr (inr (inl export)))))) = given.export export.0 export.1 export.2 export.3 export.4
no_command words given (inr (inr (inr (inr (inr (inr (inl check))))))) = given.check check.1.0 check.1.1 check.0 check.1.2 check.1.3 check.1.4
no_command words given (inr (inr (inr (inr (inr (inr (inr (inl show)))))))) = given.show show.0 show.1 show.2 show.3 show.4 show.5
no_command words given (inr (inr (inr (inr (inr (inr (inr (inr (inl staff_key))))))))) = given.staff_key staff_key.0 staff_key.1 staff_key.2
no_command words given (inr (inr (inr (inr (inr (inr (inr (inr (inr copy))))))))) = given.copy copy.0 copy.1 copy.2 copy.3

-- words that are not read are no command
pub ask_unread : (o : Option Ask) (fault : Unread) (r : Result Ask Unread) (words : List Text) (P : Unread → Type 0) → r ≡ ok_or o fault → GivesAsk words o
    → IfErr r (λ f. IsCommand words → P f)
ask_unread (Some ask) fault r words P is given = subst (λ x. IfErr x (λ f. IsCommand words → P f)) (sym is) tt
ask_unread None fault r words P is given =
    subst (λ x. IfErr x (λ f. IsCommand words → P f)) (sym is) (λ command. absurd (no_command words given command))

none_among : (kinds : List ErrorKind) (error : Error) → kinds ≡ [] → HasKind kinds error → kind_of error ≡ OutOfMemory
none_among kinds error none has = elim (subst (λ ks. HasKind ks error) none has) [
  | inl out ↦ out
  | inr among ↦ absurd among
]

-- a parse of a command fails for want of memory alone
pub fails_for_memory : (app : App) (words : List Text) (error : Error) → IsDeskApp app → IsCommand words → (takes app words ≡ true → kind_of error ≡ OutOfMemory)
    → (is_simple_and_free app ≡ true → HasKind (fault_of app words) error) → kind_of error ≡ OutOfMemory
fails_for_memory app words error desk (inl (inl cat)) passes has = passes (takes_cat app words cat.0 cat.1 cat.2 desk cat.3)
fails_for_memory app words error desk (inl (inr (inl files))) passes has =
    none_among (fault_of app words) error (files.3.enters.no_fault app desk) (has (ap is_simple_and_free desk.is ∙ free desk.cat_kinds desk.list_kinds desk.files_kinds desk.shown))
fails_for_memory app words error desk (inl (inr (inr flagged_import))) passes has =
    none_among (fault_of app words) error (flagged_import.7.enters.no_fault app desk) (has (ap is_simple_and_free desk.is ∙ free desk.cat_kinds desk.list_kinds desk.files_kinds desk.shown))
fails_for_memory app words error desk (inr (inl list)) passes has = passes (takes_list app words list.0 list.1 desk list.2)
fails_for_memory app words error desk (inr (inr (inl init))) passes has =
    none_among (fault_of app words) error (init.2.enters.no_fault app desk) (has (ap is_simple_and_free desk.is ∙ free desk.cat_kinds desk.list_kinds desk.files_kinds desk.shown))
fails_for_memory app words error desk (inr (inr (inr (inl serve)))) passes has =
    none_among (fault_of app words) error (serve.4.enters.no_fault app desk) (has (ap is_simple_and_free desk.is ∙ free desk.cat_kinds desk.list_kinds desk.files_kinds desk.shown))
fails_for_memory app words error desk (inr (inr (inr (inr (inl import))))) passes has =
    none_among (fault_of app words) error (import.5.enters.no_fault app desk) (has (ap is_simple_and_free desk.is ∙ free desk.cat_kinds desk.list_kinds desk.files_kinds desk.shown))
fails_for_memory app words error desk (inr (inr (inr (inr (inr (inl export)))))) passes has =
    none_among (fault_of app words) error (export.4.enters.no_fault app desk) (has (ap is_simple_and_free desk.is ∙ free desk.cat_kinds desk.list_kinds desk.files_kinds desk.shown))
fails_for_memory app words error desk (inr (inr (inr (inr (inr (inr (inl check))))))) passes has =
    none_among (fault_of app words) error (check.1.4.enters.no_fault app desk) (has (ap is_simple_and_free desk.is ∙ free desk.cat_kinds desk.list_kinds desk.files_kinds desk.shown))
fails_for_memory app words error desk (inr (inr (inr (inr (inr (inr (inr (inl show)))))))) passes has =
    none_among (fault_of app words) error (show.5.enters.no_fault app desk) (has (ap is_simple_and_free desk.is ∙ free desk.cat_kinds desk.list_kinds desk.files_kinds desk.shown))
fails_for_memory app words error desk (inr (inr (inr (inr (inr (inr (inr (inr (inl staff_key))))))))) passes has =
    none_among (fault_of app words) error (staff_key.2.enters.no_fault app desk) (has (ap is_simple_and_free desk.is ∙ free desk.cat_kinds desk.list_kinds desk.files_kinds desk.shown))
fails_for_memory app words error desk (inr (inr (inr (inr (inr (inr (inr (inr (inr copy))))))))) passes has =
    none_among (fault_of app words) error (copy.3.enters.no_fault app desk) (has (ap is_simple_and_free desk.is ∙ free desk.cat_kinds desk.list_kinds desk.files_kinds desk.shown))

-- words that `clap` takes as a command have no fault
pub no_fault_in : (words : List Text) (name : Text) (rows : List Row) (kind : ErrorKind) → Enters words name rows → HasFault words kind → ⊥
no_fault_in words name rows kind enters wrong = subst (IsAmong kind) (enters.no_fault wrong.app wrong.is_desk) wrong.fault

-- the second letter of a command's name
abbrev second : Text → ℕ
second (first ∷ letter ∷ rest) = letter
second other = 0

-- it is that of a command that has clocks
abbrev is_clocked : ℕ → Bool
is_clocked letter = (letter == 101) || ((letter == 109) || ((letter == 120) || (letter == 104)))

clocked : (name : Text) → HasClocks name → is_clocked (second name) ≡ true
clocked name (inl serve) = subst (λ n. is_clocked (second n) ≡ true) (sym serve) refl
clocked name (inr (inl import)) = subst (λ n. is_clocked (second n) ≡ true) (sym import) refl
clocked name (inr (inr (inl export))) = subst (λ n. is_clocked (second n) ≡ true) (sym export) refl
clocked name (inr (inr (inr (inl check)))) = subst (λ n. is_clocked (second n) ≡ true) (sym check) refl
clocked name (inr (inr (inr (inr show)))) = subst (λ n. is_clocked (second n) ≡ true) (sym show) refl

unset : false ≡ true → ⊥
unset set = cc

-- the commands on images, `init`, `staff-key` and `copy` have no clocks
pub clockless : (name : Text) → (name ≡ codes "cat") ⊎ ((name ≡ codes "list") ⊎ ((name ≡ codes "files") ⊎ ((name ≡ codes "init") ⊎ ((name ≡ codes "staff-key") ⊎ (name ≡ codes "copy"))))) → HasClocks name → ⊥
clockless name (inl cat) clocks = unset (subst (λ n. is_clocked (second n) ≡ true) cat (clocked name clocks))
clockless name (inr (inl list)) clocks = unset (subst (λ n. is_clocked (second n) ≡ true) list (clocked name clocks))
clockless name (inr (inr (inl files))) clocks = unset (subst (λ n. is_clocked (second n) ≡ true) files (clocked name clocks))
clockless name (inr (inr (inr (inl init)))) clocks = unset (subst (λ n. is_clocked (second n) ≡ true) init (clocked name clocks))
clockless name (inr (inr (inr (inr (inl staff_key))))) clocks = unset (subst (λ n. is_clocked (second n) ≡ true) staff_key (clocked name clocks))
clockless name (inr (inr (inr (inr (inr copy))))) clocks = unset (subst (λ n. is_clocked (second n) ≡ true) copy (clocked name clocks))

-- the rows of the command that a parse went into
pub rows_met : (m : ArgMatches) (name : Text) (rows shown : List Row) → subcommand_rows_of m ≡ Some (name, rows)
    → option_map (λ (p : Text × List Row). p.1) (subcommand_rows_of m) ≡ Some shown → rows ≡ shown
rows_met m name rows shown into are = let same : Some rows ≡ Some shown = sym (ap (option_map (λ (p : Text × List Row). p.1)) into) ∙ are in cc

-- the name of the command that a parse went into, and its rows
pub entered_as : (m : ArgMatches) (name : Text) (rows : List Row) → Some name ≡ subcommand_name_of m
    → Some rows ≡ option_map (λ (p : Text × List Row). p.1) (subcommand_rows_of m) → EntersAs name (subcommand_rows_of m)
entered_as m name rows = both (out-ArgMatches m).subcommand
  where
    both : {Z : Type 0} (e : Option (Box SubCommand Z)) → Some name ≡ option_map (λ b. (out-SubCommand (box_value b)).name.now) e
        → Some rows ≡ option_map (λ (p : Text × List Row). p.1) (subcommand_rows e) → EntersAs name (subcommand_rows e)
    both (Some b) is are =
        let same : name ≡ (out-SubCommand (box_value b)).name.now = cc in
        (_, ap (λ t. Some (t, rows_of (found_of (out-SubCommand (box_value b)).matches))) (sym same))
    both None is are = let none : Some name ≡ None = is in cc

abbrev name_in : Option (Text × List Row) → Text
name_in (Some entered) = entered.0
name_in None = []

-- the name of the command that a parse went into is the one that is shown
pub name_met : (m : ArgMatches) (name shown : Text) (rows rest : List Row) → subcommand_rows_of m ≡ Some (name, rows) → Some shown ≡ subcommand_name_of m
    → Some rest ≡ option_map (λ (p : Text × List Row). p.1) (subcommand_rows_of m) → name ≡ shown
name_met m name shown rows rest into is are =
    let entered = entered_as m shown rest is are in
    ap name_in (sym into ∙ entered.1)

-- words that are read tell a rule, where what was found in them does
pub rule_read : (words : List Text) (entered : Option (Text × List Row)) (o : Option Ask) (fault : Unread) (r : Result Ask Unread) → r ≡ ok_or o fault
    → OnSome o (EntersByRule entered) → (EntersByRule entered → TellsARule words) → OnOk r (TellsARule words)
rule_read words entered (Some ask) fault r is found tells = subst (λ x. OnOk x (TellsARule words)) (sym is) (tells found)
rule_read words entered None fault r is found tells = subst (λ x. OnOk x (TellsARule words)) (sym is) tt

-- the clock is trusted as the words tell, where what was found in them does
pub trust_read : (app : App) (words : List Text) (m : ArgMatches) (o : Option Ask) (fault : Unread) (r : Result Ask Unread) (trusted : Bool) → IsDeskApp app → HasMatchesOf app words m
    → r ≡ ok_or o fault → ((t : Bool) → EntersTrusting (subcommand_rows_of m) t → IfSome o (λ ask. is_trusting ask ≡ t)) → Trusts words trusted → IfOk r (λ ask. is_trusting ask ≡ trusted)
trust_read app words m (Some ask) fault r trusted desk matches is found told =
    subst (λ x. IfOk x (λ ask. is_trusting ask ≡ trusted)) (sym is)
    (found trusted (told.0, told.1, sym (entered_is app words m desk matches) ∙ told.2.into app desk, told.3, told.4))
trust_read app words m None fault r trusted desk matches is found told = subst (λ x. IfOk x (λ ask. is_trusting ask ≡ trusted)) (sym is) tt

-- the pages end in sums as the words tell, where what was found in them does
pub sums_read : (app : App) (words : List Text) (m : ArgMatches) (o : Option Ask) (fault : Unread) (r : Result Ask Unread) (summed : Bool) → IsDeskApp app → HasMatchesOf app words m
    → r ≡ ok_or o fault → ((t : Bool) → EntersSumming (subcommand_rows_of m) t → IfSome o (λ ask. has_sums ask ≡ t)) → Sums words summed → IfOk r (λ ask. has_sums ask ≡ summed)
sums_read app words m (Some ask) fault r summed desk matches is found told =
    subst (λ x. IfOk x (λ ask. has_sums ask ≡ summed)) (sym is) (found summed (told.0, sym (entered_is app words m desk matches) ∙ told.1.into app desk, told.2))
sums_read app words m None fault r summed desk matches is found told = subst (λ x. IfOk x (λ ask. has_sums ask ≡ summed)) (sym is) tt

-- another command is not `init`
pub no_init : (name : Text) → (second name == 110) ≡ false → codes "init" ≡ name → ⊥
no_init name other is = unset (sym (subst (λ n. (second n == 110) ≡ false) (sym is) other))

-- words of which nothing is found are a mistake
pub unread_usage : (P : Type 0) (o : Option Ask) (r : Result Ask Unread) → r ≡ ok_or o Usage → IfErr r (λ fault. P → IsMistake fault ⊎ IsForMemory fault)
unread_usage P (Some ask) r is = subst (λ x. IfErr x (λ fault. P → IsMistake fault ⊎ IsForMemory fault)) (sym is) tt
unread_usage P None r is = subst (λ x. IfErr x (λ fault. P → IsMistake fault ⊎ IsForMemory fault)) (sym is) (λ p. inl (inl refl))

-- words that a parse takes as `show` name what it shows
pub names_what_it_shows : (app : App) (words : List Text) (m : ArgMatches) (shown : Option Shown) → IsDeskApp app → HasMatchesOf app words m
    → EntersNaming (subcommand_rows_of m) shown → NamesWhatItShows words
names_what_it_shows app words m shown desk matches naming rows enters =
    named_some shown rows (naming rows (sym (entered_is app words m desk matches) ∙ enters.into app desk))

-- a fault that says so is want of memory
pub for_memory : (fault : Unread) → fault ≡ NoMemory → IsForMemory fault
for_memory fault is = subst IsForMemory (sym is) tt

-- words of which nothing to show is found are no command
pub unnamed : (app : App) (words : List Text) (m : ArgMatches) (fault : Unread) → IsDeskApp app → HasMatchesOf app words m
    → (fault ≡ Day) ⊎ (fault ≡ NoMemory) → (fault ≡ Day → EntersNamingNone (subcommand_rows_of m)) → IsCommand words → IsForMemory fault
unnamed app words m fault desk matches (inl day) none command =
    let entered = none day in
    absurd (entered.2 (command_names app words entered.0 desk (entered_is app words m desk matches ∙ entered.1) command))
unnamed app words m fault desk matches (inr memory) none command = for_memory fault memory

pub on_ok_always : {T E P : Type 0} (r : Result T E) → P → OnOk r P
on_ok_always (Ok value) fact = fact
on_ok_always (Err error) fact = tt

-- what holds of a fault holds of it where it is passed on
pub passed_on : {T : Type 0} (r : Result T Unread) (fault : Unread) (P : Unread → Type 0) → IsErrAnd r (λ other. other ≡ fault) → P fault → IfErr r P
passed_on (Ok value) fault P is fact = absurd is
passed_on (Err other) fault P is fact = subst P (sym is) fact

-- words that give a command, or are not whole, name what `show` shows
pub no_day : (P : Unread → Type 0) (o : Option Ask) (r : Result Ask Unread) → r ≡ ok_or o Usage → IfErr r (λ fault. fault ≡ Day → P fault)
no_day P (Some ask) r is = subst (λ x. IfErr x (λ fault. fault ≡ Day → P fault)) (sym is) tt
no_day P None r is = subst (λ x. IfErr x (λ fault. fault ≡ Day → P fault)) (sym is) (λ day. absurd cc)

-- what does not hold is the cause of no fault
pub never_faulty : (Q : Type 0) (P : Unread → Type 0) (r : Result Ask Unread) → Q → IfErr r (λ fault. ¬ Q → P fault)
never_faulty Q P (Ok ask) holds = tt
never_faulty Q P (Err fault) holds = λ none. absurd (none holds)

-- they are a mistake, or memory ran out
pub day_mistake : (fault : Unread) → (fault ≡ Day) ⊎ (fault ≡ NoMemory) → IsMistake fault ⊎ IsForMemory fault
day_mistake fault (inl day) = inl (inr (inl day))
day_mistake fault (inr memory) = inr (for_memory fault memory)

-- of which `clap` finds no fault
pub day_no_fault : (words : List Text) (fault : Unread) → (fault ≡ Day) ⊎ (fault ≡ NoMemory) → IsFaultOf words fault
day_no_fault words fault (inl day) = subst (IsFaultOf words) (sym day) tt
day_no_fault words fault (inr memory) = subst (IsFaultOf words) (sym memory) tt

module _ (app : App) (words : List Text) (m : ArgMatches) (desk : IsDeskApp app) (matches : HasMatchesOf app words m) (none : is_simple_and_free app ≡ true → fault_of app words ≡ []) where
  -- the words are the command that a parse of them went into
  abbrev taken_as : (name : Text) → EntersAs name (subcommand_rows_of m) → IsTakenAs name words
  taken_as name entered = record {
    app = app;
    is_desk = desk;
    no_fault = none (ap is_simple_and_free desk.is ∙ free desk.cat_kinds desk.list_kinds desk.files_kinds desk.shown);
    rows = entered.0;
    into = entered_is app words m desk matches ∙ entered.1;
  }

  -- words of which nothing to show is found are taken as `show`
  pub taken_showing : EntersNamingNone (subcommand_rows_of m) → IsTakenShowingNothing words
  taken_showing entered = (taken_as (codes "show") (entered.0, entered.1), entered.2)

  -- words that do not name one place are taken as `serve`
  pub taken_serving : EntersNoPlace (subcommand_rows_of m) → IsTakenServingNowhere words
  taken_serving entered = (taken_as (codes "serve") (entered.0, entered.1), entered.2)

  -- words whose options do not go together are taken as their command
  pub taken_apart : EntersApart (subcommand_rows_of m) → IsTakenApart words
  taken_apart entered = (entered.0, taken_as entered.0 (entered.1, entered.2), entered.3)

  taken_telling : EntersTelling (subcommand_rows_of m) → IsTakenTelling words
  taken_telling (inl import) = inl (taken_as (codes "import") import)
  taken_telling (inr check) = inr (taken_as (codes "check") check)

  -- words that are read as a command that tells on the output are such a command
  pub taken_on_output : (o : Option Ask) (fault : Unread) (r : Result Ask Unread) → r ≡ ok_or o fault
      → IfSome o (λ ask. TellsOnOutput ask → EntersTelling (subcommand_rows_of m)) → IfOk r (λ ask. TellsOnOutput ask → IsTakenTelling words)
  taken_on_output (Some ask) fault r is enters = subst (λ x. IfOk x (λ ask. TellsOnOutput ask → IsTakenTelling words)) (sym is) (λ tells. taken_telling (enters tells))
  taken_on_output None fault r is enters = subst (λ x. IfOk x (λ ask. TellsOnOutput ask → IsTakenTelling words)) (sym is) tt

-- the command that a parse went into, with its rows
pub entered_here : (m : ArgMatches) (name : Text) (rows : List Row) → Some name ≡ subcommand_name_of m
    → Some rows ≡ option_map (λ (p : Text × List Row). p.1) (subcommand_rows_of m) → subcommand_rows_of m ≡ Some (name, rows)
entered_here m name rows is are =
    let entered = entered_as m name rows is are in
    let same : entered.0 ≡ rows = rows_met m name entered.0 rows entered.1 (sym are) in
    entered.1 ∙ ap (λ (r : List Row). Some (name, r)) same

-- the same, by another spelling of its name
pub entered_named : (m : ArgMatches) (name shown : Text) (rows : List Row) → Some name ≡ subcommand_name_of m
    → Some rows ≡ option_map (λ (p : Text × List Row). p.1) (subcommand_rows_of m) → name ≡ shown → subcommand_rows_of m ≡ Some (shown, rows)
entered_named m name shown rows is are same = entered_here m name rows is are ∙ ap (λ (n : Text). Some (n, rows)) same
