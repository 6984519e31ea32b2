-- What is looked at after `clap` in the words of a command.
use Rattle.std.proofs.Common.{◌≡◌, ◌⊎◌, ◌∙◌, ℕ, ℤ, Bool, Err, IfNone, IfOk, IfSome, List, None, Ok, Option, Result, Some, codes, false, inl, inr, refl, subst, sym, true, ap}
use Rattle.std.specs.Prelude.{◌↔◌, IsSome, IsSomeAnd, IsTrue, is_some, option_map}
use Rattle.std.specs.Borrow.{Bor}
use Rattle.std.specs.Result.{result_ok}
use Rattle.httparse.specs.Grammar.{trim_ows}
use Rattle.rd_policy.specs.Rules.{IsScope}
use Rattle.rd_policy.specs.Zones.{IsZoneOf}
use Rattle.rd_policy.specs.declared.zone.Zone.{Zone}
use Rattle.rd_policy.specs.declared.zone.ZoneFault.{ZoneFault}
use Rattle.clap.specs.Words.{Row, Text, first_of, first_value, one_of, rows_of}
use Rattle.clap.specs.declared.parser.matches.Found.{Found}
use Rattle.clap.proofs.WalkLemmas.{first_value-rows}
use Rattle.rd_policy.specs.Dates.{IsDateOf}
use Rattle.rd_commands.specs.Asks.{EntersNamed, EntersNaming, EntersTimed, IsCheck, IsMomentNamed, IsSeenFault, IsWithinLimits, TellsInRows}
use Rattle.rd_commands.specs.CommonOptions.{IsApart, IsDayOfMoment, IsMomentText, IsOneAtMost, IsSeconds}
use Rattle.rd_commands.specs.Serving.{IsCountGiven}
use Rattle.rd_commands.specs.Parsed.{AreSecondsGiven, AskFrom, CallerFrom, EntersFrom, OneFrom, command_name, question_name}
use Rattle.rd_commands.specs.declared.words.Question.TheVariants.{Catalogue, Check}
use Rattle.rd_commands.specs.declared.words.Question.{Question}
use Rattle.rd_commands.specs.declared.words.Ask.{Ask}
use Rattle.rd_commands.specs.declared.words.Ask.TheVariants.{Import, OneQuestion, FlaggedImport}
use Rattle.rd_commands.specs.declared.words.OneQuestionAsk.{OneQuestionAsk}
use Rattle.rd_commands.specs.Shown.{IsAccessionGiven, NamesAny, NamesShown}
use Rattle.rd_commands.specs.declared.words.Shown.{Shown}
use Rattle.rd_commands.specs.declared.words.Unread.{Unread}
use Rattle.rd_commands.specs.declared.words.Unread.TheVariants.{Day, Key, Moment, NoMemory, Place as NoPlace, Zones}

-- options that do not go together are another fault than a place
pub no_place_apart : (fault : Unread) → fault ≡ NoPlace → IsApart fault → ⊥
no_place_apart fault is (inl key) = let no : NoPlace ≡ Key = sym is ∙ key in absurd (cc no)
no_place_apart fault is (inr (inl zones)) = let no : NoPlace ≡ Zones = sym is ∙ zones in absurd (cc no)
no_place_apart fault is (inr (inr moment)) = let no : NoPlace ≡ Moment = sym is ∙ moment in absurd (cc no)

-- than a day
pub no_day_apart : (fault : Unread) → fault ≡ Day → IsApart fault → ⊥
no_day_apart fault is (inl key) = let no : Day ≡ Key = sym is ∙ key in absurd (cc no)
no_day_apart fault is (inr (inl zones)) = let no : Day ≡ Zones = sym is ∙ zones in absurd (cc no)
no_day_apart fault is (inr (inr moment)) = let no : Day ≡ Moment = sym is ∙ moment in absurd (cc no)

-- and than that memory ran out
pub no_memory_apart : (fault : Unread) → fault ≡ NoMemory → IsApart fault → ⊥
no_memory_apart fault is (inl key) = let no : NoMemory ≡ Key = sym is ∙ key in absurd (cc no)
no_memory_apart fault is (inr (inl zones)) = let no : NoMemory ≡ Zones = sym is ∙ zones in absurd (cc no)
no_memory_apart fault is (inr (inr moment)) = let no : NoMemory ≡ Moment = sym is ∙ moment in absurd (cc no)

pub shown_apart : (fault : Unread) → (fault ≡ Day) ⊎ (fault ≡ NoMemory) → IsApart fault → ⊥
shown_apart fault (inl day) apart = no_day_apart fault day apart
shown_apart fault (inr memory) apart = no_memory_apart fault memory apart

pub shown_no_place : (fault : Unread) → (fault ≡ Day) ⊎ (fault ≡ NoMemory) → fault ≡ NoPlace → ⊥
shown_no_place fault (inl day) place = let no : Day ≡ NoPlace = sym day ∙ place in absurd (cc no)
shown_no_place fault (inr memory) place = let no : NoMemory ≡ NoPlace = sym memory ∙ place in absurd (cc no)

-- what is found of options is a fault of them, or memory ran out
pub seen_fault : (fault : Unread) → IsApart fault ⊎ (fault ≡ NoMemory) → IsSeenFault fault
seen_fault fault (inl apart) = inl apart
seen_fault fault (inr memory) = inr (inr (inr memory))

-- it is no fault of a day or of a place
pub options_no_day : (fault : Unread) → IsApart fault ⊎ (fault ≡ NoMemory) → fault ≡ Day → ⊥
options_no_day fault (inl apart) day = no_day_apart fault day apart
options_no_day fault (inr memory) day = let no : Day ≡ NoMemory = sym day ∙ memory in absurd (cc no)

pub options_no_place : (fault : Unread) → IsApart fault ⊎ (fault ≡ NoMemory) → fault ≡ NoPlace → ⊥
options_no_place fault (inl apart) place = no_place_apart fault place apart
options_no_place fault (inr memory) place = let no : NoPlace ≡ NoMemory = sym place ∙ memory in absurd (cc no)

-- where `show` names this, it names something
some_named : (shown : Option Shown) (rows : List Row) → IsSomeAnd shown (NamesShown rows) → NamesAny rows
some_named (Some shown) rows names = (shown, names)
some_named None rows names = absurd names

pub entered_named : (entered : Option (Text × List Row)) (shown : Option Shown) → EntersNaming entered shown → EntersNamed entered
entered_named entered shown naming = λ rows into. some_named shown rows (naming rows into)

-- ---- a moment

-- a text writes one number of seconds
pub one_number : (text : Text) (one other : ℤ) → IsSeconds text one → IsSeconds text other → one ≡ other
one_number text one other is are = is.0.1 ∙ sym are.0.1

-- the seconds that are read are those of the moment that is named
pub seconds_named : (told : Option Text) (text : Text) (read moment : Option ℤ) → Some text ≡ told → IfSome read (IsSeconds text)
    → IfNone read ((seconds : ℤ) → ¬ IsSeconds text seconds) → IsMomentNamed told moment → read ≡ moment
seconds_named told text read moment there written none named = go read written none (subst (λ o. IsMomentNamed o moment) (sym there) named)
  where
    go : (r : Option ℤ) → IfSome r (IsSeconds text) → IfNone r ((seconds : ℤ) → ¬ IsSeconds text seconds) → IsMomentNamed (Some text) moment → r ≡ moment
    go (Some seconds) written none named = ap Some (one_number text seconds named.0 written named.1) ∙ sym named.2
    go None written none named = absurd (none named.0 named.1)

-- without a text there is none
pub none_named : (told : Option Text) (moment : Option ℤ) → None ≡ told → IsMomentNamed told moment → None ≡ moment
none_named told moment absent named = sym (subst (λ o. IsMomentNamed o moment) (sym absent) named)

-- and they are told
pub seconds_given : (rows : List Row) (text : Text) (read : Option ℤ) → Some text ≡ first_of (codes "at") rows → IfSome read (IsSeconds text)
    → IfNone read ((seconds : ℤ) → ¬ IsSeconds text seconds) → AreSecondsGiven rows read
seconds_given rows text (Some seconds) there written none = (text, sym there, written)
seconds_given rows text None there written none = λ other is seconds. none_of other is seconds
  where
    none_of : (other : Text) → first_of (codes "at") rows ≡ Some other → (seconds : ℤ) → ¬ IsSeconds other seconds
    none_of other is = let both : Some text ≡ Some other = there ∙ is in
        let same : text ≡ other = cc both in
        subst (λ t. (seconds : ℤ) → ¬ IsSeconds t seconds) same none

pub none_given : (rows : List Row) → None ≡ first_of (codes "at") rows → AreSecondsGiven rows None
none_given rows absent = λ text is seconds. let no : None ≡ Some text = absent ∙ is in absurd (cc no)

-- ---- the day in place of a moment

-- where the text writes seconds there is none
pub no_day : (told : Option Text) (text : Text) (seconds : ℤ) → Some text ≡ told → IsSeconds text seconds → IsDayOfMoment told None
no_day told text seconds there is = subst (λ o. IsDayOfMoment o None) there (inl ((seconds, is), refl))

-- nor where there is no text
pub day_absent : (told : Option Text) → None ≡ told → IsDayOfMoment told None
day_absent told absent = subst (λ o. IsDayOfMoment o None) absent refl

-- of a date it is its day
pub day_dated : (told : Option Text) (text : Text) (day : ℤ) → Some text ≡ told → ((seconds : ℤ) → ¬ IsSeconds text seconds) → IsDateOf day text
    → IsDayOfMoment told (Some day)
day_dated told text day there none is = subst (λ o. IsDayOfMoment o (Some day)) there (inr (none, (day, is, refl)))

-- a text that writes seconds, or a date, writes a moment
pub fits_number : (told : Option Text) (text : Text) (seconds : ℤ) → Some text ≡ told → IsSeconds text seconds → IsMomentText told
fits_number told text seconds there is = subst IsMomentText there (inl (seconds, is))

pub fits_date : (told : Option Text) (text : Text) (day : ℤ) → Some text ≡ told → IsDateOf day text → IsMomentText told
fits_date told text day there is = subst IsMomentText there (inr (day, is))

pub fits_absent : (told : Option Text) → None ≡ told → IsMomentText told
fits_absent told absent = subst IsMomentText absent tt

-- another text writes none
pub fits_none : (told : Option Text) (text : Text) → Some text ≡ told → ((seconds : ℤ) → ¬ IsSeconds text seconds) → ((day : ℤ) → ¬ IsDateOf day text)
    → IsMomentText told → ⊥
fits_none told text there number date fits = elim (subst IsMomentText (sym there) fits) [
  | inl is ↦ number is.0 is.1
  | inr is ↦ date is.0 is.1
]

-- ---- the key, the clocks and the accession

-- a key that may be absent is that on the command line
pub caller_spare : (rows : List Row) (key : Option Text) → key ≡ option_map trim_ows (first_of (codes "key") rows) → CallerFrom rows Catalogue key
caller_spare rows key is = subst (CallerFrom rows Catalogue) (sym is) (go (first_of (codes "key") rows) refl)
  where
    go : (told : Option Text) → first_of (codes "key") rows ≡ told → CallerFrom rows Catalogue (option_map trim_ows told)
    go (Some text) there = (text, there, refl)
    go None absent = absent

-- a zone that is read is that of the rule
pub zone_of : (read : Result Zone ZoneFault) (zone : Option Zone) (rule : Text) → zone ≡ result_ok read → IfOk read (IsZoneOf rule) → IfSome zone (IsZoneOf rule)
zone_of (Ok zone) o rule is of = subst (λ x. IfSome x (IsZoneOf rule)) (sym is) of
zone_of (Err fault) o rule is of = subst (λ x. IfSome x (IsZoneOf rule)) (sym is) tt

-- a number that is read is that of the accession
pub accession_is_given : (rows : List Row) (read : Option ℕ) (acc : ℕ) → read ≡ Some acc → IfSome read (IsCountGiven (one_of (codes "acc") rows)) → IsScope acc
    → IsAccessionGiven rows acc
accession_is_given rows read acc is given within =
    let told : IsCountGiven (one_of (codes "acc") rows) acc = subst (λ x. IfSome x (IsCountGiven (one_of (codes "acc") rows))) is given in
    (told.0, told.1, (told.2, within))

-- an option that a getter gives is there
pub is_there : (found : Found) (id text : Text) → Some text ≡ first_value found id → IsSome (first_of id (rows_of found))
is_there found id text given = subst IsSome (given ∙ first_value-rows found id) refl

-- and one of which a getter gives something or nothing is there or absent
pub there_is : (found : Found) (id : Text) (given : Option (Bor Text)) (there : Bool) → option_map (λ text. text.now) given ≡ first_value found id → there ≡ is_some given
    → IsTrue there ↔ IsSome (first_of id (rows_of found))
there_is found id given there is some =
    let same : there ≡ is_some (first_of id (rows_of found)) = some ∙ sym (mapped given) ∙ ap is_some (is ∙ first_value-rows found id) in
    (λ yes. sym same ∙ yes, λ yes. same ∙ yes)
  where
    mapped : (text : Option (Bor Text)) → is_some (option_map (λ (t : Bor Text). t.now) text) ≡ is_some text
    mapped (Some text) = refl
    mapped None = refl

-- ---- what was found of a command

-- what a check asks is a question of `check`
pub check_name : (asked : Question) → IsCheck asked → question_name asked ≡ codes "check"
check_name (Check acc) is = refl
check_name other is = absurd is

-- a question goes with the command of its name
pub question_from : (entered : Option (Text × List Row)) (rows : List Row) (ask : OneQuestionAsk) (name : Text) → entered ≡ Some (name, rows)
    → question_name ask.question ≡ name → OneFrom rows ask → EntersFrom entered (OneQuestion ask)
question_from entered rows ask name into is from = (rows, into ∙ ap (λ (n : Text). Some (n, rows)) (sym is), from)

-- a sheet goes with `import`
pub sheet_from : (entered : Option (Text × List Row)) (rows : List Row) (ask : Ask) → entered ≡ Some (codes "import", rows)
    → command_name ask ≡ codes "import" → AskFrom rows ask → EntersFrom entered ask
sheet_from entered rows ask into is from = (rows, into ∙ ap (λ (n : Text). Some (n, rows)) (sym is), from)

-- what `show` shows is named in its rows
pub shown_in : (entered : Option (Text × List Row)) (shown : Option Shown) (what : Shown) (rows : List Row) → EntersNaming entered shown
    → entered ≡ Some (codes "show", rows) → shown ≡ Some what → NamesShown rows what
shown_in entered shown what rows naming into is = subst (λ o. IsSomeAnd o (NamesShown rows)) is (naming rows into)

-- the commands on sheets name no accession, and give visitors no time
pub sheet_within : (ask : Ask) → TellsInRows ask → IsWithinLimits ask
sheet_within (Import ask) rows = tt
sheet_within (FlaggedImport ask) rows = tt
sheet_within other rows = absurd rows

pub sheet_timed : (ask : Ask) (entered : Option (Text × List Row)) → TellsInRows ask → EntersTimed entered ask
sheet_timed (Import ask) entered rows = λ found into. tt
sheet_timed (FlaggedImport ask) entered rows = λ found into. tt
sheet_timed other entered rows = absurd rows

-- ---- options that do not go together

pub keys_fault : (fault : Unread) → fault ≡ Key → IsApart fault ⊎ (fault ≡ NoMemory)
keys_fault fault is = inl (inl is)

pub zones_fault : (fault : Unread) → fault ≡ Zones → IsApart fault ⊎ (fault ≡ NoMemory)
zones_fault fault is = inl (inr (inl is))

pub moment_fault : (fault : Unread) → (fault ≡ Moment) ⊎ (fault ≡ NoMemory) → IsApart fault ⊎ (fault ≡ NoMemory)
moment_fault fault (inl moment) = inl (inr (inr moment))
moment_fault fault (inr memory) = inr memory

pub moment_apart : (fault : Unread) → (fault ≡ Moment) ⊎ (fault ≡ NoMemory) → IsApart fault → fault ≡ Moment
moment_apart fault (inl moment) apart = moment
moment_apart fault (inr memory) apart = absurd (no_memory_apart fault memory apart)

none_some : (o : Option Text) → o ≡ None → IsSome o → ⊥
none_some o none some = let no : false ≡ true = subst IsSome none some in cc

not_some : (o : Option Text) → (IsSome o → ⊥) → o ≡ None
not_some (Some text) not = absurd (not refl)
not_some None not = refl

-- two are not one at most
pub two_there : (one other : Option Text) → IsSome one → IsSome other → IsOneAtMost one other → ⊥
two_there one other first second (inl none) = none_some one none first
two_there one other first second (inr none) = none_some other none second

-- one of which is absent are
pub one_absent : (one other : Option Text) → (IsSome one → IsSome other → ⊥) → IsOneAtMost one other
one_absent (Some text) (Some more) not = absurd (not refl refl)
one_absent (Some text) None not = inr refl
one_absent None other not = inl refl
