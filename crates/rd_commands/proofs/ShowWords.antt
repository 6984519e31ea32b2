-- What the words of `show` name to be shown.
use Rattle.std.proofs.Common.{◌≡◌, ◌∙◌, ◌==◌, ℕ, ℤ, List, [], ◌∷◌, Ok, Option, Some, None, Result, IfErr, IfNone, IfOk, IfSome, ap, ap₂, codes, false, if◌then◌else◌, inl, inr, refl, subst, sym, true}
use Rattle.std.specs.Prelude.{IsSomeAnd, ok_or}
use Rattle.std.specs.Str.Parse.{ParsesUnsigned}
use Rattle.std.specs.declared.num.ParseIntError.{ParseIntError}
use Rattle.clap.specs.Words.{App, Row, Text, first_of, first_value, rows_of, subcommand_of}
use Rattle.clap.specs.declared.parser.matches.Found.{Found}
use Rattle.clap.proofs.WalkLemmas.{first_value-rows}
use Rattle.rd_policy.specs.Dates.{IsDateOf, IsNoDate}
use Rattle.rd_policy.specs.Days.{IsDay}
use Rattle.rd_policy.specs.Rules.{IsScope}
use Rattle.rd_policy.proofs.DateLemmas.{one_day}
use Rattle.rd_commands.specs.CommandLine.{IsDeskApp}
use Rattle.rd_commands.specs.Commands.{IsCommand}
use Rattle.rd_commands.specs.Shown.{GivesAccession, IsAccessionGiven, IsDayGiven, IsShowable, IsShownAs, NamesAny, NamesShown}
use Rattle.rd_commands.specs.declared.words.Shown.{Shown}
use Rattle.rd_commands.specs.declared.words.Unread.{Unread}
use Rattle.rd_commands.specs.declared.words.Unread.TheVariants.{Day}
use Rattle.rd_commands.specs.declared.words.Shown.TheVariants.{Checks, Deeds, Keys, Takedowns, Verdicts, VerdictsOf}
use Rattle.rd_commands.proofs.CatLine.{gives_cat}
use Rattle.rd_commands.proofs.ListLine.{gives_list}
use Rattle.rd_commands.proofs.Options.{one_and_absent}

-- ---- the day that is given

-- where the option is absent, there is none
pub day_none : (found : Found) → None ≡ first_value found (codes "on") → IsDayGiven (first_of (codes "on") (rows_of found)) None
day_none found none = subst (λ text. IsDayGiven text None) (none ∙ first_value-rows found (codes "on")) refl

-- of a date, its day
pub day_given : (found : Found) (text : Text) (day : ℤ) → Some text ≡ first_value found (codes "on") → IsDateOf day text
    → IsDayGiven (first_of (codes "on") (rows_of found)) (Some day)
day_given found text day there is = subst (λ given. IsDayGiven given (Some day)) (there ∙ first_value-rows found (codes "on")) (day, is, refl)

-- and of another text none
pub not_given : (found : Found) (text : Text) (on : Option ℤ) → Some text ≡ first_value found (codes "on") → IsNoDate text
    → IsDayGiven (first_of (codes "on") (rows_of found)) on → ⊥
not_given found text on there none given =
    let day = subst (λ o. IsDayGiven o on) (sym (there ∙ first_value-rows found (codes "on"))) given in
    none day.0 day.1

-- what is named by the word of the operand, the day and the accession
pub named_by : (found : Found) (what : Text) (on : Option ℤ) (acc : Option ℕ) (shown : Option Shown) (fault : Unread) (r : Result Shown Unread) → r ≡ ok_or shown fault
    → Some what ≡ first_value found (codes "WHAT") → IsDayGiven (first_of (codes "on") (rows_of found)) on → GivesAccession (rows_of found) acc
    → IfSome shown (IsShownAs what on acc) → IfOk r (NamesShown (rows_of found))
named_by found what on acc (Some shown) fault r is there given gives named = subst (λ x. IfOk x (NamesShown (rows_of found))) (sym is) (record {
  what = what;
  on = on;
  acc = acc;
  what_found = sym (there ∙ first_value-rows found (codes "WHAT"));
  on_given = given;
  acc_given = gives;
  is = named;
})
named_by found what on acc None fault r is there given gives named = subst (λ x. IfOk x (NamesShown (rows_of found))) (sym is) tt

-- the first letter of a word
abbrev first_letter : Text → ℕ
first_letter (letter ∷ rest) = letter
first_letter [] = 0

-- the verdicts of a day, of all accessions or of one
abbrev verdicts_of : ℤ → Option ℕ → Shown
verdicts_of day (Some acc) = VerdictsOf day acc
verdicts_of day None = Verdicts day

-- what is shown, by the first letter of its word, its day and its accession
abbrev by_letter : ℕ → Option ℤ → Option ℕ → Shown
by_letter letter (Some day) acc = verdicts_of day acc
by_letter letter None acc = if letter == 100 then Deeds else (if letter == 116 then Takedowns else (if letter == 107 then Keys else Checks))

abbrev lettered : Text → Option ℤ × Option ℕ → Shown
lettered what given = by_letter (first_letter what) given.0 given.1

-- a day and an accession that are these two
both_given : (on day : Option ℤ) (acc accession : Option ℕ) → on ≡ day → acc ≡ accession
    → ◌≡◌ {A = Option ℤ × Option ℕ} (on, acc) (day, accession)
both_given on day acc accession one other = ap₂ (λ (d : Option ℤ) (a : Option ℕ). (d, a)) one other

shown_is : (what : Text) (on : Option ℤ) (acc : Option ℕ) (shown : Shown) → IsShownAs what on acc shown → lettered what (on, acc) ≡ shown
shown_is what on acc Deeds is = ap₂ lettered is.0 (both_given on None acc None is.1.0 is.1.1)
shown_is what on acc Takedowns is = ap₂ lettered is.0 (both_given on None acc None is.1.0 is.1.1)
shown_is what on acc Keys is = ap₂ lettered is.0 (both_given on None acc None is.1.0 is.1.1)
shown_is what on acc Checks is = ap₂ lettered is.0 (both_given on None acc None is.1.0 is.1.1)
shown_is what on acc (Verdicts day) is = ap₂ lettered is.0 (both_given on (Some day) acc None is.1.0 is.1.1)
shown_is what on acc (VerdictsOf day accession) is = ap₂ lettered is.0 (both_given on (Some day) acc (Some accession) is.1.0 is.1.1)

-- a text gives one day
one_day_given : (text : Option Text) (one other : Option ℤ) → IsDayGiven text one → IsDayGiven text other → one ≡ other
one_day_given (Some text) one other first second = first.2 ∙ ap Some (one_day text first.0 second.0 first.1 second.1) ∙ sym second.2
one_day_given None one other first second = first ∙ sym second

-- and an option one accession
one_accession : (rows : List Row) (one other : ℕ) → IsAccessionGiven rows one → IsAccessionGiven rows other → one ≡ other
one_accession rows one other first second =
    let both : Some first.0 ≡ Some second.0 = sym first.1 ∙ second.1 in
    let text : first.0 ≡ second.0 = cc in
    let reads : ParsesUnsigned {E = ParseIntError} 32 10 second.0 (Ok one) = subst (λ t. ParsesUnsigned {E = ParseIntError} 32 10 t (Ok one)) text first.2.0 in
    reads.1 ∙ sym second.2.0.1

one_accession_given : (rows : List Row) (one other : Option ℕ) → GivesAccession rows one → GivesAccession rows other → one ≡ other
one_accession_given rows (Some one) (Some other) first second = ap Some (one_accession rows one other first second)
one_accession_given rows (Some one) None first second = absurd (one_and_absent (codes "acc") rows first.0 first.1 second)
one_accession_given rows None (Some other) first second = absurd (one_and_absent (codes "acc") rows second.0 second.1 first)
one_accession_given rows None None first second = refl

-- no accession is given where a text is there that gives none
pub no_accession_given : (found : Found) (text : Text) (acc : Option ℕ) → Some text ≡ first_value found (codes "acc")
    → ((number : ℕ) → IsAccessionGiven (rows_of found) number → ⊥) → GivesAccession (rows_of found) acc → ⊥
no_accession_given found text (Some acc) there none gives = none acc gives
no_accession_given found text None there none gives =
    let same : Some text ≡ None = there ∙ first_value-rows found (codes "acc") ∙ gives in cc same

-- the rows of a command name one thing
one_named : (rows : List Row) (one other : Shown) → NamesShown rows one → NamesShown rows other → one ≡ other
one_named rows one other first second =
    let both : Some first.what ≡ Some second.what = sym first.what_found ∙ second.what_found in
    let what : first.what ≡ second.what = cc in
    sym (shown_is first.what first.on first.acc one first.is)
    ∙ ap₂ lettered what (both_given first.on second.on first.acc second.acc (one_day_given _ first.on second.on first.on_given second.on_given)
    (one_accession_given rows first.acc second.acc first.acc_given second.acc_given))
    ∙ shown_is second.what second.on second.acc other second.is

pub named_given : (given : Option Shown) (rows : List Row) (shown : Shown) → IsSomeAnd given (NamesShown rows) → NamesShown rows shown → given ≡ Some shown
named_given (Some found) rows shown named names = ap Some (one_named rows found shown named names)
named_given None rows shown named names = absurd named

pub named_some : (given : Option Shown) (rows : List Row) → IsSomeAnd given (NamesShown rows) → NamesAny rows
named_some (Some found) rows named = (found, named)
named_some None rows named = absurd named

-- ---- where nothing is named

-- no word is there
pub no_what : (found : Found) → None ≡ first_value found (codes "WHAT") → NamesAny (rows_of found) → ⊥
no_what found none named = let same : None ≡ Some named.1.what = none ∙ first_value-rows found (codes "WHAT") ∙ named.1.what_found in cc same

other_named : (found : Found) (what : Text) (on : Option ℤ) (acc : Option ℕ) → ((shown : Shown) → ¬ IsShownAs what on acc shown)
    → Some what ≡ first_value found (codes "WHAT") → IsDayGiven (first_of (codes "on") (rows_of found)) on → GivesAccession (rows_of found) acc
    → NamesAny (rows_of found) → ⊥
other_named found what on acc none there given gives named =
    let both : Some what ≡ Some named.1.what = there ∙ first_value-rows found (codes "WHAT") ∙ named.1.what_found in
    let word : named.1.what ≡ what = cc in
    let day : named.1.on ≡ on = one_day_given _ named.1.on on named.1.on_given given in
    let accession : named.1.acc ≡ acc = one_accession_given (rows_of found) named.1.acc acc named.1.acc_given gives in
    none named.0 (subst (λ w. IsShownAs w on acc named.0) word (subst (λ o. IsShownAs named.1.what o acc named.0) day
    (subst (λ a. IsShownAs named.1.what named.1.on a named.0) accession named.1.is)))

-- or the word, the day and the accession name nothing
pub none_named : (found : Found) (what : Text) (on : Option ℤ) (acc : Option ℕ) (shown : Option Shown) (fault : Unread) (r : Result Shown Unread) → r ≡ ok_or shown fault
    → Some what ≡ first_value found (codes "WHAT") → IsDayGiven (first_of (codes "on") (rows_of found)) on → GivesAccession (rows_of found) acc
    → IfNone shown ((s : Shown) → ¬ IsShownAs what on acc s) → IfErr r (λ f. f ≡ Day → ¬ NamesAny (rows_of found))
none_named found what on acc (Some shown) fault r is there given gives none = subst (λ x. IfErr x (λ f. f ≡ Day → ¬ NamesAny (rows_of found))) (sym is) tt
none_named found what on acc None fault r is there given gives none =
    subst (λ x. IfErr x (λ f. f ≡ Day → ¬ NamesAny (rows_of found))) (sym is) (λ same named. other_named found what on acc none there given gives named)

-- ---- within the years

day_within : (text : Option Text) (on : Option ℤ) (day : ℤ) → IsDayGiven text on → on ≡ Some day → IsDay day
day_within (Some text) on day given is =
    let both : Some given.0 ≡ Some day = sym given.2 ∙ is in
    let same : given.0 ≡ day = cc in
    subst IsDay same given.1.in_range
day_within None on day given is = absurd (let none : None ≡ Some day = sym given ∙ is in cc)

accession_within : (rows : List Row) (acc : Option ℕ) (number : ℕ) → GivesAccession rows acc → acc ≡ Some number → IsScope number
accession_within rows (Some acc) number gives is = let same : acc ≡ number = cc is in subst IsScope same gives.2.1
accession_within rows None number gives is = absurd (cc is)

shown_within : (rows : List Row) (text : Option Text) (what : Text) (on : Option ℤ) (acc : Option ℕ) (shown : Shown) → IsDayGiven text on → GivesAccession rows acc
    → IsShownAs what on acc shown → IsShowable shown
shown_within rows text what on acc (Verdicts day) given gives is = day_within text on day given is.1.0
shown_within rows text what on acc (VerdictsOf day accession) given gives is = (day_within text on day given is.1.0, accession_within rows acc accession gives is.1.1)
shown_within rows text what on acc other given gives is = tt

pub named_showable : (rows : List Row) (shown : Shown) → NamesShown rows shown → IsShowable shown
named_showable rows shown names = shown_within rows _ names.what names.on names.acc shown names.on_given names.acc_given names.is

-- ---- the command that a parse goes into

-- the third letter of a command's name
abbrev third : Text → ℕ
third (first ∷ second ∷ letter ∷ rest) = letter
third other = 0

abbrev entered_name : Option (Text × List Row) → Text
entered_name (Some entered) = entered.0
entered_name None = []

abbrev entered_rows : Option (Text × List Row) → List Row
entered_rows (Some entered) = entered.1
entered_rows None = []

unset : true ≡ false → ⊥
unset set = cc

-- it goes into one command
no_other : (entered : Option (Text × List Row)) (name : Text) (rows shown : List Row) → (third name == 111) ≡ false → entered ≡ Some (name, rows)
    → entered ≡ Some (codes "show", shown) → ⊥
no_other entered name rows shown other into is = unset (subst (λ n. (third n == 111) ≡ false) (ap entered_name (sym into ∙ is)) other)

-- where the words are a command, and a parse goes into `show`, they name what it shows
pub command_names : (app : App) (words : List Text) (rows : List Row) → IsDeskApp app → subcommand_of app words ≡ Some (codes "show", rows) → IsCommand words
    → NamesAny rows
command_names app words rows desk is (inl (inl cat)) =
    let enters = gives_cat app words cat.0 cat.1 cat.2 desk cat.3 in absurd (no_other _ (codes "cat") enters.rows rows refl enters.into is)
command_names app words rows desk is (inl (inr (inl files))) =
    absurd (no_other _ (codes "files") files.3.rows rows refl (files.3.enters.into app desk) is)
command_names app words rows desk is (inl (inr (inr flagged_import))) =
    absurd (no_other _ (codes "import") flagged_import.7.rows rows refl (flagged_import.7.enters.into app desk) is)
command_names app words rows desk is (inr (inl list)) =
    let enters = gives_list app words list.0 list.1 desk list.2 in absurd (no_other _ (codes "list") enters.rows rows refl enters.into is)
command_names app words rows desk is (inr (inr (inl init))) =
    absurd (no_other _ (codes "init") init.2.rows rows refl (init.2.enters.into app desk) is)
command_names app words rows desk is (inr (inr (inr (inl serve)))) =
    absurd (no_other _ (codes "serve") serve.4.rows rows refl (serve.4.enters.into app desk) is)
command_names app words rows desk is (inr (inr (inr (inr (inl import))))) =
    absurd (no_other _ (codes "import") import.5.rows rows refl (import.5.enters.into app desk) is)
command_names app words rows desk is (inr (inr (inr (inr (inr (inl export)))))) =
    absurd (no_other _ (codes "export") export.4.rows rows refl (export.4.enters.into app desk) is)
command_names app words rows desk is (inr (inr (inr (inr (inr (inr (inl check))))))) =
    absurd (no_other _ (codes "check") check.1.4.rows rows refl (check.1.4.enters.into app desk) is)
command_names app words rows desk is (inr (inr (inr (inr (inr (inr (inr (inl show)))))))) =
    subst NamesAny (ap entered_rows (sym (show.5.enters.into app desk) ∙ is)) (show.2, show.5.names)
command_names app words rows desk is (inr (inr (inr (inr (inr (inr (inr (inr (inl staff_key))))))))) =
    absurd (no_other _ (codes "staff-key") staff_key.2.rows rows refl (staff_key.2.enters.into app desk) is)
command_names app words rows desk is (inr (inr (inr (inr (inr (inr (inr (inr (inr copy))))))))) =
    absurd (no_other _ (codes "copy") copy.3.rows rows refl (copy.3.enters.into app desk) is)
