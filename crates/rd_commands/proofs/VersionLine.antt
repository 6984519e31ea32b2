-- What `clap` makes of words whose first asks for the version.
use Rattle.std.proofs.Common.{◌≡◌, ◌∙◌, ◌⊎◌, List, [], ◌∷◌, Result, Ok, Err, IfErr, codes, refl, ap, ap₂, subst, sym, true, inl, inr}
use Rattle.clap.specs.Words.{App, HasKind, Text, fault_of, is_simple_and_free}
use Rattle.clap.specs.Values.{kind_of}
use Rattle.clap.specs.declared.error.Error.{Error}
use Rattle.clap.specs.declared.error.kind.ErrorKind.{ErrorKind}
use Rattle.clap.specs.declared.error.kind.ErrorKind.TheVariants.{DisplayHelp, DisplayVersion, OutOfMemory}
use Rattle.clap.proofs.OnLiterals.{clap_on_literals}
use Rattle.rd_commands.specs.Asks.{IsFaultOf, IsForMemory, IsHelp, IsVersion}
use Rattle.rd_commands.specs.CommandLine.{AsksForVersion, HasFault, IsDeskApp, IsTaken, NameList, desk_app}
use Rattle.rd_commands.specs.Words.{AsksVersion}
use Rattle.rd_commands.specs.declared.words.Unread.{Unread}
use Rattle.rd_commands.specs.declared.words.Unread.TheVariants.{Clap, Day, Key, Moment, NoMemory, Place, Usage, Zones}

long_shows : (kinds others more shown : NameList) (rest : List Text) → fault_of (desk_app kinds others more shown) (codes "--version" ∷ rest) ≡ DisplayVersion ∷ []
unfolding clap_on_literals
long_shows kinds others more shown rest = refl

short_shows : (kinds others more shown : NameList) (rest : List Text) → fault_of (desk_app kinds others more shown) (codes "-V" ∷ rest) ≡ DisplayVersion ∷ []
unfolding clap_on_literals
short_shows kinds others more shown rest = refl

-- the version is shown, and nothing else
shows_version : (app : App) (words : List Text) → IsDeskApp app → AsksVersion words → fault_of app words ≡ DisplayVersion ∷ []
shows_version app words desk asks = elim asks.1 [
  | inl long ↦ ap₂ fault_of desk.is long ∙ long_shows desk.cat_kinds desk.list_kinds desk.files_kinds desk.shown asks.0
  | inr short ↦ ap₂ fault_of desk.is short ∙ short_shows desk.cat_kinds desk.list_kinds desk.files_kinds desk.shown asks.0
]

free : (kinds others more shown : NameList) → is_simple_and_free (desk_app kinds others more shown) ≡ true
free kinds others more shown = refl

-- the words are no command
not_faultless : (app : App) (words : List Text) → IsDeskApp app → fault_of app words ≡ [] → AsksVersion words → ⊥
not_faultless app words desk none asks =
    let same : [] ≡ DisplayVersion ∷ [] = sym none ∙ shows_version app words desk asks in
    absurd (cc same)

pub version_not_taken : (words : List Text) → IsTaken words → AsksVersion words → ⊥
version_not_taken words taken asks = not_faultless taken.app words taken.is_desk taken.no_fault asks

-- nor are they words that a parse takes
pub not_version : (app : App) (words : List Text) → IsDeskApp app → (is_simple_and_free app ≡ true → fault_of app words ≡ []) → AsksVersion words → ⊥
not_version app words desk none asks = not_faultless app words desk (none (ap is_simple_and_free desk.is ∙ free desk.cat_kinds desk.list_kinds desk.files_kinds desk.shown)) asks

-- so where a parse of the words succeeds
pub version_not_parsed : {T E : Type 0} (r : Result T E) (P : E → Type 0) (app : App) (words : List Text) → IsDeskApp app
    → (is_simple_and_free app ≡ true → fault_of app words ≡ []) → IfErr r (λ fault. AsksVersion words → P fault)
version_not_parsed (Ok value) P app words desk none = tt
version_not_parsed (Err fault) P app words desk none = λ asks.
    absurd (not_faultless app words desk (none (ap is_simple_and_free desk.is ∙ free desk.cat_kinds desk.list_kinds desk.files_kinds desk.shown)) asks)

one_kind : (kinds : List ErrorKind) (error : Error) → kinds ≡ DisplayVersion ∷ [] → HasKind kinds error
    → (kind_of error ≡ OutOfMemory) ⊎ (kind_of error ≡ DisplayVersion)
one_kind kinds error is has = elim (subst (λ ks. HasKind ks error) is has) [
  | inl out ↦ inl out
  | inr among ↦ elim among [
    | inl shown ↦ inr shown
    | inr none ↦ absurd none
  ]
]

-- where it fails, the version is what is told, but for want of memory
pub version_unread : (app : App) (words : List Text) (error : Error) → IsDeskApp app → (is_simple_and_free app ≡ true → HasKind (fault_of app words) error)
    → AsksVersion words → IsForMemory (Clap error) ⊎ IsVersion (Clap error)
version_unread app words error desk has asks =
    one_kind (fault_of app words) error (shows_version app words desk asks) (has (ap is_simple_and_free desk.is ∙ free desk.cat_kinds desk.list_kinds desk.files_kinds desk.shown))

-- what is told of the words is the version only where they ask for it
pub version_asked : (words : List Text) (unread : Unread) → IsVersion unread → IsFaultOf words unread → AsksForVersion words
version_asked words (Clap error) shown fault = elim fault [
  | inl out ↦ let same : DisplayVersion ≡ OutOfMemory = sym shown ∙ out in cc
  | inr found ↦ subst (HasFault words) shown found
]
version_asked words Usage shown fault = absurd shown
version_asked words Day shown fault = absurd shown
version_asked words Key shown fault = absurd shown
version_asked words Zones shown fault = absurd shown
version_asked words Moment shown fault = absurd shown
version_asked words Place shown fault = absurd shown
version_asked words NoMemory shown fault = absurd shown

-- the version is no help
pub version_no_help : (unread : Unread) → IsVersion unread → IsHelp unread → ⊥
version_no_help (Clap error) shown help = let same : DisplayVersion ≡ DisplayHelp = sym shown ∙ help in absurd (cc same)
version_no_help Usage shown help = absurd shown
version_no_help Day shown help = absurd shown
version_no_help Key shown help = absurd shown
version_no_help Zones shown help = absurd shown
version_no_help Moment shown help = absurd shown
version_no_help Place shown help = absurd shown
version_no_help NoMemory shown help = absurd shown
