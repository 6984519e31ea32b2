-- What `clap` makes of words whose first asks for help.
use Rattle.std.proofs.Common.{◌≡◌, ◌∙◌, ◌⊎◌, List, [], ◌∷◌, Result, Ok, Err, IfErr, codes, refl, ap, ap₂, subst, sym, true, inl, inr}
use Rattle.clap.specs.Words.{App, HasKind, Text, fault_of, is_simple_and_free}
use Rattle.clap.specs.Values.{kind_of}
use Rattle.clap.specs.declared.error.Error.{Error}
use Rattle.clap.specs.declared.error.kind.ErrorKind.{ErrorKind}
use Rattle.clap.specs.declared.error.kind.ErrorKind.TheVariants.{DisplayHelp, OutOfMemory}
use Rattle.clap.proofs.OnLiterals.{clap_on_literals}
use Rattle.rd_commands.specs.Asks.{IsForMemory, IsHelp}
use Rattle.rd_commands.specs.CommandLine.{IsDeskApp, IsTaken, NameList, desk_app}
use Rattle.rd_commands.specs.Helps.{help_for}
use Rattle.rd_commands.specs.Words.{AsksHelp}
use Rattle.rd_commands.specs.declared.help.TheConstants.{DESK_HELP}
use Rattle.rd_commands.specs.declared.words.Unread.TheVariants.{Clap}

long_shows : (kinds others more shown : NameList) (rest : List Text) → fault_of (desk_app kinds others more shown) (codes "--help" ∷ rest) ≡ DisplayHelp ∷ []
unfolding clap_on_literals
long_shows kinds others more shown rest = refl

short_shows : (kinds others more shown : NameList) (rest : List Text) → fault_of (desk_app kinds others more shown) (codes "-h" ∷ rest) ≡ DisplayHelp ∷ []
unfolding clap_on_literals
short_shows kinds others more shown rest = refl

-- help is shown, and nothing else
shows_help : (app : App) (words : List Text) → IsDeskApp app → AsksHelp words → fault_of app words ≡ DisplayHelp ∷ []
shows_help app words desk asks = elim asks.1 [
  | inl long ↦ ap₂ fault_of desk.is long ∙ long_shows desk.cat_kinds desk.list_kinds desk.files_kinds desk.shown asks.0
  | inr short ↦ ap₂ fault_of desk.is short ∙ short_shows desk.cat_kinds desk.list_kinds desk.files_kinds desk.shown asks.0
]

free : (kinds others more shown : NameList) → is_simple_and_free (desk_app kinds others more shown) ≡ true
free kinds others more shown = refl

-- the words are no command
not_faultless : (app : App) (words : List Text) → IsDeskApp app → fault_of app words ≡ [] → AsksHelp words → ⊥
not_faultless app words desk none asks =
    let same : [] ≡ DisplayHelp ∷ [] = sym none ∙ shows_help app words desk asks in
    absurd (cc same)

pub help_not_taken : (words : List Text) → IsTaken words → AsksHelp words → ⊥
help_not_taken words taken asks = not_faultless taken.app words taken.is_desk taken.no_fault asks

-- nor are they words that a parse takes
pub not_help : (app : App) (words : List Text) → IsDeskApp app → (is_simple_and_free app ≡ true → fault_of app words ≡ []) → AsksHelp words → ⊥
not_help app words desk none asks = not_faultless app words desk (none (ap is_simple_and_free desk.is ∙ free desk.cat_kinds desk.list_kinds desk.files_kinds desk.shown)) asks

-- so where a parse of the words succeeds
pub help_not_parsed : {T E : Type 0} (r : Result T E) (P : E → Type 0) (app : App) (words : List Text) → IsDeskApp app
    → (is_simple_and_free app ≡ true → fault_of app words ≡ []) → IfErr r (λ fault. AsksHelp words → P fault)
help_not_parsed (Ok value) P app words desk none = tt
help_not_parsed (Err fault) P app words desk none = λ asks. absurd (not_help app words desk none asks)

one_kind : (kinds : List ErrorKind) (error : Error) → kinds ≡ DisplayHelp ∷ [] → HasKind kinds error
    → (kind_of error ≡ OutOfMemory) ⊎ (kind_of error ≡ DisplayHelp)
one_kind kinds error is has = elim (subst (λ ks. HasKind ks error) is has) [
  | inl out ↦ inl out
  | inr among ↦ elim among [
    | inl shown ↦ inr shown
    | inr none ↦ absurd none
  ]
]

-- where it fails, help is what is told, but for want of memory
pub help_unread : (app : App) (words : List Text) (error : Error) → IsDeskApp app → (is_simple_and_free app ≡ true → HasKind (fault_of app words) error)
    → AsksHelp words → IsForMemory (Clap error) ⊎ IsHelp (Clap error)
help_unread app words error desk has asks =
    one_kind (fault_of app words) error (shows_help app words desk asks) (has (ap is_simple_and_free desk.is ∙ free desk.cat_kinds desk.list_kinds desk.files_kinds desk.shown))

-- it is the help of the program
pub help_of_desk : (words : List Text) → AsksHelp words → help_for words ≡ DESK_HELP.now
help_of_desk words asks = elim asks.1 [
  | inl long ↦ ap help_for long
  | inr short ↦ ap help_for short
]
