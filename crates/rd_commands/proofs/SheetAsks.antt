-- What the words of `import` ask for, by its flags.
use Rattle.std.proofs.Common.{◌≡◌, ◌∙◌, ◌||◌, ℕ, ℤ, Bool, List, Option, codes, false, refl, subst, sym, true}
use Rattle.clap.specs.Words.{Row, Text}
use Rattle.rd_commands.specs.Asks.{AreImportFlags, AsksImages, IsImportAsk, IsFlaggedImportAsk, TellsInRows, is_trusting}
use Rattle.rd_commands.specs.Parsed.{AskFrom, ImportFrom, ImportFlagsFrom, command_name}
use Rattle.rd_commands.specs.declared.words.Ask.{Ask}
use Rattle.rd_commands.specs.declared.words.Ask.TheVariants.{Import, FlaggedImport}
use Rattle.rd_commands.specs.declared.words.ImportAsk.{ImportAsk}

-- what is asked for with these flags
abbrev pub sheet_ask : ImportAsk → Bool → Bool → Ask
sheet_ask import false false = Import import
sheet_ask import dry_run keep_going = FlaggedImport (record { import = import; dry_run = dry_run; keep_going = keep_going })

-- that is what was made
pub made : (import : ImportAsk) (dry going : Bool) (ask : Ask) → (dry ≡ false → going ≡ false → ask ≡ Import import)
    → ((dry || going) ≡ true → ask ≡ FlaggedImport (record { import = import; dry_run = dry; keep_going = going })) → ask ≡ sheet_ask import dry going
made import false false ask none one = none refl refl
made import false true ask none one = one refl
made import true false ask none one = one refl
made import true true ask none one = one refl

in_rows : (import : ImportAsk) (dry going : Bool) → TellsInRows (sheet_ask import dry going)
in_rows import false false = tt
in_rows import false true = tt
in_rows import true false = tt
in_rows import true true = tt

-- it goes row by row
pub made_in_rows : (import : ImportAsk) (dry going : Bool) (ask : Ask) → ask ≡ sheet_ask import dry going → TellsInRows ask
made_in_rows import dry going ask is = subst TellsInRows (sym is) (in_rows import dry going)

trusting : (import : ImportAsk) (dry going : Bool) → is_trusting (sheet_ask import dry going) ≡ import.when.is_trusting
trusting import false false = refl
trusting import false true = refl
trusting import true false = refl
trusting import true true = refl

-- it trusts the clock as its words do
pub made_trusting : (import : ImportAsk) (dry going : Bool) (ask : Ask) (trusted : Bool) → ask ≡ sheet_ask import dry going → import.when.is_trusting ≡ trusted
    → is_trusting ask ≡ trusted
made_trusting import dry going ask trusted is told = subst (λ a. is_trusting a ≡ trusted) (sym is) (trusting import dry going ∙ told)

named : (import : ImportAsk) (dry going : Bool) → command_name (sheet_ask import dry going) ≡ codes "import"
named import false false = refl
named import false true = refl
named import true false = refl
named import true true = refl

-- it is `import`
pub made_named : (import : ImportAsk) (dry going : Bool) (ask : Ask) → ask ≡ sheet_ask import dry going → command_name ask ≡ codes "import"
made_named import dry going ask is = subst (λ a. command_name a ≡ codes "import") (sym is) (named import dry going)

from : (rows : List Row) (import : ImportAsk) (dry going : Bool) → ImportFrom rows import → ImportFlagsFrom rows dry going → AskFrom rows (sheet_ask import dry going)
from rows import false false images flags = (images, flags)
from rows import false true images flags = (images, flags)
from rows import true false images flags = (images, flags)
from rows import true true images flags = (images, flags)

-- it is what was found
pub made_from : (rows : List Row) (import : ImportAsk) (dry going : Bool) (ask : Ask) → ask ≡ sheet_ask import dry going → ImportFrom rows import → ImportFlagsFrom rows dry going
    → AskFrom rows ask
made_from rows import dry going ask is images flags = subst (AskFrom rows) (sym is) (from rows import dry going images flags)

-- without flags it takes the images in
pub made_import : (import : ImportAsk) (dry going : Bool) (ask : Ask) (store key sheet : Text) (moment : Option ℤ) (rule : Text) → ask ≡ sheet_ask import dry going
    → dry ≡ false → going ≡ false → AsksImages import store key sheet moment rule → IsImportAsk store key sheet moment rule ask
made_import import dry going ask store key sheet moment rule is no_try no_more asks =
    subst (IsImportAsk store key sheet moment rule) (sym (is ∙ plain dry going no_try no_more)) asks
  where
    plain : (dry going : Bool) → dry ≡ false → going ≡ false → sheet_ask import dry going ≡ Import import
    plain false false no_try no_more = refl
    plain true going no_try no_more = absurd (cc no_try)
    plain false true no_try no_more = absurd (cc no_more)

flagged : (import : ImportAsk) (dry going : Bool) (store key sheet : Text) (moment : Option ℤ) (rule : Text) → (dry || going) ≡ true
    → AsksImages import store key sheet moment rule → IsFlaggedImportAsk store key sheet moment rule dry going (sheet_ask import dry going)
flagged import false false store key sheet moment rule one asks = absurd (cc one)
flagged import false true store key sheet moment rule one asks = record { images = asks; dry_run_is = refl; keep_going_is = refl }
flagged import true false store key sheet moment rule one asks = record { images = asks; dry_run_is = refl; keep_going_is = refl }
flagged import true true store key sheet moment rule one asks = record { images = asks; dry_run_is = refl; keep_going_is = refl }

-- with one it is an import with flags
pub made_flagged_import : (import : ImportAsk) (dry going : Bool) (ask : Ask) (store key sheet : Text) (moment : Option ℤ) (rule : Text) (flag_dry flag_going : Bool)
    → ask ≡ sheet_ask import dry going → dry ≡ flag_dry → going ≡ flag_going → (flag_dry || flag_going) ≡ true
    → AsksImages import store key sheet moment rule → IsFlaggedImportAsk store key sheet moment rule flag_dry flag_going ask
made_flagged_import import dry going ask store key sheet moment rule flag_dry flag_going is dry_is going_is one asks =
    subst (λ d. IsFlaggedImportAsk store key sheet moment rule d flag_going ask) dry_is
    (subst (λ g. IsFlaggedImportAsk store key sheet moment rule dry g ask) going_is
    (subst (IsFlaggedImportAsk store key sheet moment rule dry going) (sym is)
    (flagged import dry going store key sheet moment rule
    (subst (λ g. (dry || g) ≡ true) (sym going_is) (subst (λ d. (d || flag_going) ≡ true) (sym dry_is) one)) asks)))
