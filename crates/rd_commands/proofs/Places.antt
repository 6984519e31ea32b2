-- The place and the seconds that the words of `serve` give.
use Rattle.std.proofs.Common.{◌≡◌, ◌⊎◌, ◌∙◌, ◌==◌, ℕ, IfErr, IfSome, List, [], ◌∷◌, None, Option, Result, Some, Ok, Err, ap, codes, false, inl, inr, refl, subst, sym, true}
use Rattle.std.specs.Prelude.{IsSomeAnd, ok_or, unwrap_or}
use Rattle.std.specs.Str.Parse.{ParsesUnsigned}
use Rattle.std.specs.declared.num.ParseIntError.{ParseIntError}
use Rattle.clap.specs.Words.{App, HasMatchesOf, Row, Text, first_of, one_of, subcommand_of, subcommand_rows_of}
use Rattle.clap.specs.Matches.{ReadsOne}
use Rattle.clap.specs.declared.parser.matches.ArgMatches.{ArgMatches}
use Rattle.rd_commands.specs.Asks.{EntersAtAPlace, EntersNamed, EntersNamingNone, EntersNoPlace, IsFaultOf, IsForMemory, IsMistake, IsSeenFault}
use Rattle.rd_commands.specs.CommonOptions.{EntersApart, EntersOptions, EntersTogether, FitsTogether, IsApart, TellsOptions}
use Rattle.rd_commands.specs.declared.common_options.CommonOptions.{CommonOptions}
use Rattle.rd_commands.specs.CommandLine.{IsDeskApp}
use Rattle.rd_commands.specs.Commands.{IsCommand, NamesAPlace, NamesWhatItShows}
use Rattle.rd_commands.specs.Serving.{AreSeconds, GivesTimeouts, IsCountGiven, IsCountUsed, IsNumberGiven, IsPortUsed, NamesOnePlace, NamesPlace, Place, place_of}
use Rattle.rd_commands.specs.Serving.Place.{Port, Socket}
use Rattle.rd_commands.specs.declared.serving.Place.{Place as Given}
use Rattle.rd_commands.specs.declared.serving.Timeouts.{Timeouts}
use Rattle.rd_commands.specs.declared.words.Ask.{Ask}
use Rattle.rd_commands.specs.declared.words.Unread.{Unread}
use Rattle.rd_commands.specs.declared.words.Unread.TheVariants.{Day, NoMemory, Place as NoPlace, Usage}
use Rattle.rd_commands.proofs.GetterLemmas.{ReadsAs, day_mistake, day_no_fault, entered_is, number_is, unnamed}
use Rattle.rd_commands.proofs.Options.{one_and_absent, there_and_absent}
use Rattle.rd_commands.proofs.Together.{command_together}
use Rattle.rd_commands.proofs.CatLine.{gives_cat}
use Rattle.rd_commands.proofs.ListLine.{gives_list}

-- ---- the port, the socket and the seconds

-- a number that is read is the one that the text of its option writes
pub number_given : (told : Option Text) (r : Option ℕ) → (told ≡ None → r ≡ None) → ((text : Text) → told ≡ Some text → ReadsOne (ReadsAs 16) text r)
    → IfSome r (IsNumberGiven told)
number_given None r none value = subst (λ x. IfSome x (IsNumberGiven None)) (sym (none refl)) tt
number_given (Some text) (Some n) none value = (text, refl, (value text refl).0)
number_given (Some text) None none value = tt

-- the seconds that are read, or the usual ones, are those that the option gives
pub seconds_are : (told : Option Text) (r : Option ℕ) (usual : ℕ) → (told ≡ None → r ≡ None)
    → ((text : Text) → told ≡ Some text → ReadsOne (ReadsAs 16) text r) → AreSeconds usual told (unwrap_or r usual)
seconds_are None r usual none value = ap (λ o. unwrap_or o usual) (none refl)
seconds_are (Some text) r usual none value = λ number parses. ap (λ o. unwrap_or o usual) (number_is 16 text number r (value text refl) parses)

-- ---- the place

-- where there is a socket, a place that is named is that socket, and there is no port
pub socket_is : (rows : List Row) (path : Text) (told : Option Given) (place : Place) → Some path ≡ first_of (codes "socket") rows
    → (first_of (codes "port") rows ≡ None → IsSomeAnd told (λ t. place_of t ≡ Socket path)) → NamesPlace rows place
    → IsSomeAnd told (λ t. place_of t ≡ place)
socket_is rows path told (Port port) there alone named = absurd (there_and_absent _ path there named.1)
socket_is rows path told (Socket other) there alone named =
    let both : Some path ≡ Some other = there ∙ named.0 in
    let same : path ≡ other = cc both in
    subst (λ p. IsSomeAnd told (λ t. place_of t ≡ Socket p)) same (alone named.1)

-- and what is given there is named
pub socket_named : (rows : List Row) (path : Text) (told : Option Given) → Some path ≡ first_of (codes "socket") rows
    → IfSome told (λ t. (place_of t ≡ Socket path) × (first_of (codes "port") rows ≡ None)) → IfSome told (λ t. NamesPlace rows (place_of t))
socket_named rows path (Some told) there given = subst (NamesPlace rows) (sym given.0) (sym there, given.1)
socket_named rows path None there given = tt

-- where there is no socket, a place that is named is the port that is read
pub port_is : (rows : List Row) (read : Option ℕ) (place : Place) → None ≡ first_of (codes "socket") rows
    → ((port : ℕ) → IsPortUsed rows port → read ≡ Some port)
    → NamesPlace rows place → (port : ℕ) × (place ≡ Port port) × (read ≡ Some port)
port_is rows read (Port port) absent asked named = (port, refl, asked port named.0)
port_is rows read (Socket path) absent asked named = absurd (there_and_absent _ path (sym named.0) (sym absent))

-- so none is named where no port is read
pub no_port : (rows : List Row) (place : Place) → None ≡ first_of (codes "socket") rows
    → ((port : ℕ) → IsPortUsed rows port → None ≡ Some port)
    → NamesPlace rows place → ⊥
no_port rows place absent asked named =
    let is = port_is rows None place absent asked named in
    let no : None ≡ Some is.0 = is.2 in absurd (cc no)

-- and the one that is read is the place
pub port_place : (rows : List Row) (port : ℕ) (place : Place) → None ≡ first_of (codes "socket") rows
    → ((other : ℕ) → IsPortUsed rows other → Some port ≡ Some other)
    → NamesPlace rows place → Port port ≡ place
port_place rows port place absent asked named =
    let is = port_is rows (Some port) place absent asked named in
    let both : Some port ≡ Some is.0 = is.2 in
    let same : port ≡ is.0 = cc both in
    ap Port same ∙ sym is.1

-- ---- what is told, or absent

-- a port that is read is told
pub port_used : (rows : List Row) (read : Option ℕ) → IfSome read (IsNumberGiven (one_of (codes "port") rows)) → IfSome read (IsPortUsed rows)
port_used rows (Some port) told = inl told
port_used rows None told = tt

-- where there is a text, a port that is told is the one that is read
pub port_read : (rows : List Row) (text : Text) (read : Option ℕ) (port : ℕ) → Some text ≡ first_of (codes "port") rows
    → ((text : Text) (port : ℕ) → one_of (codes "port") rows ≡ Some text → ParsesUnsigned {E = ParseIntError} 16 10 text (Ok port) → read ≡ Some port)
    → IsPortUsed rows port → read ≡ Some port
port_read rows text read port there asked (inl told) = asked told.0 port told.1 told.2
port_read rows text read port there asked (inr none) = absurd (there_and_absent _ text there none.0)

-- where there is none, it is the usual one
pub port_usual : (rows : List Row) (port : ℕ) → None ≡ first_of (codes "port") rows → IsPortUsed rows port → port ≡ 8_041
port_usual rows port absent (inl told) = absurd (one_and_absent (codes "port") rows told.0 told.1 (sym absent))
port_usual rows port absent (inr none) = none.1

-- a number of visits that is read is given
pub count_given : (told : Option Text) (r : Option ℕ) → (told ≡ None → r ≡ None) → ((text : Text) → told ≡ Some text → ReadsOne (ReadsAs 32) text r)
    → IfSome r (IsCountGiven told)
count_given None r none value = subst (λ x. IfSome x (IsCountGiven None)) (sym (none refl)) tt
count_given (Some text) (Some n) none value = (text, refl, (value text refl).0)
count_given (Some text) None none value = tt

-- and so it is of a slot
pub slot_given : (told : Option Text) (r : Option ℕ) → (told ≡ None → r ≡ None) → ((text : Text) → told ≡ Some text → ReadsOne (ReadsAs 16) text r)
    → IfSome r (λ slot. (text : Text) × (told ≡ Some text) × ParsesUnsigned {E = ParseIntError} 16 10 text (Ok slot))
slot_given None r none value = subst (λ (x : Option ℕ). IfSome x (λ slot. (text : Text) × (None ≡ Some text) × ParsesUnsigned {E = ParseIntError} 16 10 text (Ok slot))) (sym (none refl)) tt
slot_given (Some text) (Some n) none value = (text, refl, (value text refl).0)
slot_given (Some text) None none value = tt

-- so it is told
pub count_used : (rows : List Row) (read : Option ℕ) → IfSome read (IsCountGiven (one_of (codes "count") rows)) → IfSome read (IsCountUsed rows)
count_used rows (Some count) told = inl told
count_used rows None told = tt

-- where there is a text, the number that is told is the one that is read
pub count_read : (rows : List Row) (text : Text) (read : Option ℕ) (count : ℕ) → Some text ≡ first_of (codes "count") rows
    → ((text : Text) (count : ℕ) → one_of (codes "count") rows ≡ Some text → ParsesUnsigned {E = ParseIntError} 32 10 text (Ok count) → read ≡ Some count)
    → IsCountUsed rows count → read ≡ Some count
count_read rows text read count there asked (inl told) = asked told.0 count told.1 told.2
count_read rows text read count there asked (inr none) = absurd (there_and_absent _ text there none.0)

-- where there is none, it is the greatest
pub count_most : (rows : List Row) (count : ℕ) → None ≡ first_of (codes "count") rows → IsCountUsed rows count → count ≡ 4_294_967_295
count_most rows count absent (inl told) = absurd (one_and_absent (codes "count") rows told.0 told.1 (sym absent))
count_most rows count absent (inr none) = none.1

-- ---- the command that a parse goes into

-- the second letter of a command's name
abbrev second_letter : Text → ℕ
second_letter (first ∷ letter ∷ rest) = letter
second_letter other = 0

abbrev entered_name : Option (Text × List Row) → Text
entered_name (Some entered) = entered.0
entered_name None = []

abbrev entered_rows : Option (Text × List Row) → List Row
entered_rows (Some entered) = entered.1
entered_rows None = []

unset : true ≡ false → ⊥
unset set = cc

-- it goes into one command, and `serve` is the only one whose second letter is an e
no_other : (entered : Option (Text × List Row)) (name : Text) (rows serving : List Row) → (second_letter name == 101) ≡ false → entered ≡ Some (name, rows)
    → entered ≡ Some (codes "serve", serving) → ⊥
no_other entered name rows serving other into is = unset (subst (λ n. (second_letter n == 101) ≡ false) (ap entered_name (sym into ∙ is)) other)

-- where the words are a command, and a parse goes into `serve`, they name one place
command_place : (app : App) (words : List Text) (rows : List Row) → IsDeskApp app → subcommand_of app words ≡ Some (codes "serve", rows) → IsCommand words
    → NamesOnePlace rows
command_place app words rows desk is (inl (inl cat)) =
    let enters = gives_cat app words cat.0 cat.1 cat.2 desk cat.3 in absurd (no_other _ (codes "cat") enters.rows rows refl enters.into is)
command_place app words rows desk is (inl (inr (inl files))) =
    absurd (no_other _ (codes "files") files.3.rows rows refl (files.3.enters.into app desk) is)
command_place app words rows desk is (inl (inr (inr flagged_import))) =
    absurd (no_other _ (codes "import") flagged_import.7.rows rows refl (flagged_import.7.enters.into app desk) is)
command_place app words rows desk is (inr (inl list)) =
    let enters = gives_list app words list.0 list.1 desk list.2 in absurd (no_other _ (codes "list") enters.rows rows refl enters.into is)
command_place app words rows desk is (inr (inr (inl init))) =
    absurd (no_other _ (codes "init") init.2.rows rows refl (init.2.enters.into app desk) is)
command_place app words rows desk is (inr (inr (inr (inl serve)))) =
    subst NamesOnePlace (ap entered_rows (sym (serve.4.enters.into app desk) ∙ is)) (serve.1, serve.4.found.place_named)
command_place app words rows desk is (inr (inr (inr (inr (inl import))))) =
    absurd (no_other _ (codes "import") import.5.rows rows refl (import.5.enters.into app desk) is)
command_place app words rows desk is (inr (inr (inr (inr (inr (inl export)))))) =
    absurd (no_other _ (codes "export") export.4.rows rows refl (export.4.enters.into app desk) is)
command_place app words rows desk is (inr (inr (inr (inr (inr (inr (inl check))))))) =
    absurd (no_other _ (codes "check") check.1.4.rows rows refl (check.1.4.enters.into app desk) is)
command_place app words rows desk is (inr (inr (inr (inr (inr (inr (inr (inl show)))))))) =
    absurd (no_other _ (codes "show") show.5.rows rows refl (show.5.enters.into app desk) is)
command_place app words rows desk is (inr (inr (inr (inr (inr (inr (inr (inr (inl staff_key))))))))) =
    absurd (no_other _ (codes "staff-key") staff_key.2.rows rows refl (staff_key.2.enters.into app desk) is)
command_place app words rows desk is (inr (inr (inr (inr (inr (inr (inr (inr (inr copy))))))))) =
    absurd (no_other _ (codes "copy") copy.3.rows rows refl (copy.3.enters.into app desk) is)

-- the rows of `serve` give the seconds of a command that was found in the same rows
pub timed_met : (timeouts : Timeouts) (rows shown : List Row) → rows ≡ shown → GivesTimeouts shown timeouts → GivesTimeouts rows timeouts
timed_met timeouts rows shown same gives = subst (λ r. GivesTimeouts r timeouts) (sym same) gives

-- ---- what is looked at after `clap`

-- a fault that is none of a place says nothing of one
pub no_place_said : {T : Type 0} (r : Result T Unread) (P : Type 0) → IfErr r (λ fault. (fault ≡ Day) ⊎ (fault ≡ NoMemory)) → IfErr r (λ fault. fault ≡ NoPlace → P)
no_place_said (Ok value) P failed = tt
no_place_said (Err fault) P failed = λ place. absurd (elim failed as (λ _. ⊥) [
  | inl day ↦ let no : NoPlace ≡ Day = sym place ∙ day in cc
  | inr memory ↦ let no : NoPlace ≡ NoMemory = sym place ∙ memory in cc
])

-- words that give a command, or are not whole, are no fault of a place
pub no_place_of : (P : Unread → Type 0) (o : Option Ask) (r : Result Ask Unread) → r ≡ ok_or o Usage → IfErr r (λ fault. fault ≡ NoPlace → P fault)
no_place_of P (Some ask) r is = subst (λ x. IfErr x (λ fault. fault ≡ NoPlace → P fault)) (sym is) tt
no_place_of P None r is = subst (λ x. IfErr x (λ fault. fault ≡ NoPlace → P fault)) (sym is) (λ place. absurd cc)

-- words at which it fails are a mistake, or memory ran out
pub look_mistake : (fault : Unread) → IsSeenFault fault → IsMistake fault ⊎ IsForMemory fault
look_mistake fault (inl apart) = inl (inr (inr (inr apart)))
look_mistake fault (inr (inl place)) = inl (inr (inr (inl place)))
look_mistake fault (inr (inr other)) = day_mistake fault other

-- and `clap` finds no fault in them
pub look_no_fault : (words : List Text) (fault : Unread) → IsSeenFault fault → IsFaultOf words fault
look_no_fault words fault (inl (inl key)) = subst (IsFaultOf words) (sym key) tt
look_no_fault words fault (inl (inr (inl zones))) = subst (IsFaultOf words) (sym zones) tt
look_no_fault words fault (inl (inr (inr moment))) = subst (IsFaultOf words) (sym moment) tt
look_no_fault words fault (inr (inl place)) = subst (IsFaultOf words) (sym place) tt
look_no_fault words fault (inr (inr other)) = day_no_fault words fault other

module _ (app : App) (words : List Text) (m : ArgMatches) (desk : IsDeskApp app) (matches : HasMatchesOf app words m) where
  same : subcommand_of app words ≡ subcommand_rows_of m
  same = entered_is app words m desk matches

  -- words that a parse takes as `serve` name one place
  pub names_a_place : EntersAtAPlace (subcommand_rows_of m) → NamesAPlace words
  names_a_place entered = λ rows enters. entered rows (sym same ∙ enters.into app desk)

  -- words that it takes as `show` name what it shows
  pub names_shown : EntersNamed (subcommand_rows_of m) → NamesWhatItShows words
  names_shown entered = λ rows enters. entered rows (sym same ∙ enters.into app desk)

  -- the options of words that it takes go together
  pub fits_together : EntersTogether (subcommand_rows_of m) → FitsTogether words
  fits_together entered = λ name rows enters. entered name rows (sym same ∙ enters.into app desk)

  -- and say what stands beside the operands
  pub tells_options : (options : CommonOptions) → EntersOptions (subcommand_rows_of m) options → TellsOptions words options
  tells_options options entered = λ name rows enters. entered name rows (sym same ∙ enters.into app desk)

  -- words that it takes as `serve` are not those of `show`
  serve_shows : (serving : List Row) → subcommand_rows_of m ≡ Some (codes "serve", serving) → NamesWhatItShows words
  serve_shows serving into = λ rows enters. absurd (no_other _ (codes "show") rows serving refl (enters.into app desk) (same ∙ into))

  -- nor the other way round
  show_places : (showing : List Row) → subcommand_rows_of m ≡ Some (codes "show", showing) → NamesAPlace words
  show_places showing into = λ rows enters. absurd (no_other _ (codes "show") showing rows refl (same ∙ into) (enters.into app desk))

  module _ (fault : Unread) (failed : IsSeenFault fault) (none : fault ≡ Day → EntersNamingNone (subcommand_rows_of m))
      (no_place : fault ≡ NoPlace → EntersNoPlace (subcommand_rows_of m)) (apart : IsApart fault → EntersApart (subcommand_rows_of m))
      (shown : IsApart fault → EntersNamed (subcommand_rows_of m)) (placed : IsApart fault → EntersAtAPlace (subcommand_rows_of m)) where
    -- they are no command, or memory ran out
    pub look_unread : IsCommand words → IsForMemory fault
    look_unread command = elim failed [
      | inl is ↦ let entered = apart is in absurd (entered.3 (command_together app words entered.0 entered.1 desk (same ∙ entered.2) command))
      | inr rest ↦ elim rest [
        | inl place ↦ let entered = no_place place in absurd (entered.2 (command_place app words entered.0 desk (same ∙ entered.1) command))
        | inr other ↦ unnamed app words m fault desk matches other none command
      ]
    ]

    -- the day is a mistake, or memory ran out, where `show` names nothing
    pub look_not_shown : (NamesWhatItShows words → ⊥) → (fault ≡ Day) ⊎ IsForMemory fault
    look_not_shown unshown = elim failed [
      | inl is ↦ absurd (unshown (names_shown (shown is)))
      | inr rest ↦ elim rest [
        | inl place ↦ let entered = no_place place in absurd (unshown (serve_shows entered.0 entered.1))
        | inr other ↦ elim other [
          | inl day ↦ inl day
          | inr memory ↦ inr (subst IsForMemory (sym memory) tt)
        ]
      ]
    ]

    -- the place is, or memory ran out, where `serve` names none
    pub look_not_placed : (NamesAPlace words → ⊥) → (fault ≡ NoPlace) ⊎ IsForMemory fault
    look_not_placed unplaced = elim failed [
      | inl is ↦ absurd (unplaced (names_a_place (placed is)))
      | inr rest ↦ elim rest [
        | inl place ↦ inl place
        | inr other ↦ elim other [
          | inl day ↦ let entered = none day in absurd (unplaced (show_places entered.0 entered.1))
          | inr memory ↦ inr (subst IsForMemory (sym memory) tt)
        ]
      ]
    ]

-- a mistake that is none of what `show` shows, of a place and of options that do not go together is one of a rule
pub no_other_mistake : (nothing nowhere apart : Type 0) (fault : Unread) → IsMistake fault → (fault ≡ Day → nothing) → (fault ≡ NoPlace → nowhere) → (IsApart fault → apart)
    → ¬ nothing → ¬ nowhere → ¬ apart → fault ≡ Usage
no_other_mistake nothing nowhere apart fault (inl usage) day placeless mixed named placed fit = usage
no_other_mistake nothing nowhere apart fault (inr (inl is)) day placeless mixed named placed fit = absurd (named (day is))
no_other_mistake nothing nowhere apart fault (inr (inr (inl is))) day placeless mixed named placed fit = absurd (placed (placeless is))
no_other_mistake nothing nowhere apart fault (inr (inr (inr is))) day placeless mixed named placed fit = absurd (fit (mixed is))
