-- Words without operands in files and without a day.
use Rattle.std.proofs.Common.{◌≡◌, ◌∙◌, ◌⊎◌, ℕ, ℤ, Bool, List, None, Option, Some, codes, inl, inr, option_map, refl, subst, sym}
use Rattle.std.specs.Borrow.{Bor}
use Rattle.clap.specs.Words.{Row, Text}
use Rattle.rd_geometry.specs.declared.kind.Kind.{Kind}
use Rattle.rd_commands.specs.Asks.{IsExtraction, IsFileAsk, IsFilesAsk, IsMomentNamed}
use Rattle.rd_commands.specs.CommonOptions.{GivesOptions, IsDayOfMoment, IsPlain, TellsOptions}
use Rattle.rd_commands.specs.Commands.{AsksCheck, AsksCopy, AsksExport, AsksImport, AsksInit, AsksOfStore, AsksServe, AsksShow, AsksStaffKey, IsAskOf}
use Rattle.rd_commands.specs.CommandLine.{IsTakenAs}
use Rattle.rd_commands.specs.Serving.{Place}
use Rattle.rd_commands.specs.Parsed.{TellsAll, command_name}
use Rattle.rd_commands.specs.Words.{AsksOfKind}
use Rattle.rd_commands.specs.declared.common_options.CommonOptions.{CommonOptions}
use Rattle.rd_commands.specs.declared.common_options.Parsed.{Parsed}
use Rattle.rd_commands.specs.declared.words.Ask.{Ask}
use Rattle.rd_commands.specs.declared.words.Ask.TheVariants.{Copy, Extract, File, Files, Import, Init, OneQuestion, Serve, FlaggedImport, StaffKey}
use Rattle.rd_commands.specs.declared.words.Shown.{Shown}
use Rattle.rd_commands.proofs.Together.{clocked, keyed, no_clocks, no_key, no_moment, timed, unset}
use Rattle.rd_program.specs.Completing.{Completes, IsDated, IsKeyed, IsZoned}

-- what is read of an absent option is absent
none_read : (given : Option (Bor Text)) → option_map (λ (t : Bor Text). t.now) given ≡ None → given ≡ None
none_read (Some text) is = absurd (cc is)
none_read None is = refl

-- no day stands in place of a moment that is named, or absent
no_day_of : (parsed : Option Text) (moment on : Option ℤ) → IsMomentNamed parsed moment → IsDayOfMoment parsed on → on ≡ None
no_day_of (Some text) moment on named (inl seconds) = seconds.1
no_day_of (Some text) moment on named (inr date) = absurd (date.0 named.0 named.1)
no_day_of None moment on named day = day

-- ---- the words of each command

-- a command on an image takes none of them
pub image_plain : (name : Text) (rows : List Row) (options : CommonOptions) → (name ≡ codes "cat") ⊎ (name ≡ codes "list") → GivesOptions name rows options → IsPlain options
image_plain name rows options image is = (is.no_key_file (no_key name image), (is.no_zone_file (no_clocks name image), is.no_day (no_moment name image)))

-- nor does `copy`
bare_plain : (rows : List Row) (options : CommonOptions) → GivesOptions (codes "copy") rows options → IsPlain options
bare_plain rows options is = (
  is.no_key_file (λ takes. unset (keyed (codes "copy") takes)),
  (is.no_zone_file (λ clocks. unset (clocked (codes "copy") clocks)), is.no_day (λ has. unset (timed (codes "copy") has))),
)

module _ (words : List Text) (options : CommonOptions) (tells : TellsOptions words options) where
  pub init_plain : (store key : Text) → AsksInit words store key → IsPlain options
  init_plain store key asks =
      let is = tells (codes "init") asks.rows asks.enters in (
        none_read _ (is.key_file (inl (inl refl)) ∙ asks.found.no_key_file),
        (is.no_zone_file (λ clocks. unset (clocked (codes "init") clocks)), is.no_day (λ has. unset (timed (codes "init") has))),
      )

  pub staff_key_plain : (store key : Text) → AsksStaffKey words store key → IsPlain options
  staff_key_plain store key asks =
      let is = tells (codes "staff-key") asks.rows asks.enters in (
        none_read _ (is.key_file (inl (inr (inr (inr (inr refl))))) ∙ asks.found.no_key_file),
        (is.no_zone_file (λ clocks. unset (clocked (codes "staff-key") clocks)), is.no_day (λ has. unset (timed (codes "staff-key") has))),
      )

  pub serve_plain : (store : Text) (place : Place) (count : ℕ) (rule : Text) → AsksServe words store place count rule → IsPlain options
  serve_plain store place count rule asks =
      let is = tells (codes "serve") asks.rows asks.enters in (
        is.no_key_file (λ takes. unset (keyed (codes "serve") takes)),
        (none_read _ (is.zone_file (inl refl) ∙ asks.found.no_zone_file), is.no_day (λ has. unset (timed (codes "serve") has))),
      )

  pub import_plain : (store key sheet : Text) (moment : Option ℤ) (rule : Text) → AsksImport words store key sheet moment rule → IsPlain options
  import_plain store key sheet moment rule asks =
      let is = tells (codes "import") asks.rows asks.enters in (
        none_read _ (is.key_file (inl (inr (inl refl))) ∙ asks.found.no_key_file),
        (none_read _ (is.zone_file (inr (inl refl)) ∙ asks.found.no_zone_file), no_day_of _ moment _ asks.found.moment_named (is.day (inl refl))),
      )

  pub export_plain : (store : Text) (key : Option Text) (moment : Option ℤ) (rule : Text) → AsksExport words store key moment rule → IsPlain options
  export_plain store key moment rule asks =
      let is = tells (codes "export") asks.rows asks.enters in (
        none_read _ (is.key_file (inr refl) ∙ asks.found.no_key_file),
        (none_read _ (is.zone_file (inr (inr (inl refl))) ∙ asks.found.no_zone_file), no_day_of _ moment _ asks.found.moment_named (is.day (inr (inl refl)))),
      )

  pub check_plain : (store key : Text) (acc : ℕ) (moment : Option ℤ) (rule : Text) → AsksCheck words store key acc moment rule → IsPlain options
  check_plain store key acc moment rule asks =
      let is = tells (codes "check") asks.rows asks.enters in (
        none_read _ (is.key_file (inl (inr (inr (inl refl)))) ∙ asks.found.no_key_file),
        (none_read _ (is.zone_file (inr (inr (inr (inl refl)))) ∙ asks.found.no_zone_file), no_day_of _ moment _ asks.found.moment_named (is.day (inr (inr (inl refl))))),
      )

  pub show_plain : (store key : Text) (what : Shown) (moment : Option ℤ) (rule : Text) → AsksShow words store key what moment rule → IsPlain options
  show_plain store key what moment rule asks =
      let is = tells (codes "show") asks.rows asks.enters in (
        none_read _ (is.key_file (inl (inr (inr (inr (inl refl))))) ∙ asks.found.no_key_file),
        (none_read _ (is.zone_file (inr (inr (inr (inr refl)))) ∙ asks.found.no_zone_file), no_day_of _ moment _ asks.found.moment_given (is.day (inr (inr (inr refl))))),
      )

  pub copy_plain : (store target : Text) (summed : Bool) → AsksCopy words store target summed → IsPlain options
  copy_plain store target summed asks = bare_plain asks.rows options (tells (codes "copy") asks.rows asks.enters)

  pub store_plain : AsksOfStore words → IsPlain options
  store_plain (inl (store, key, asks)) = init_plain store key asks
  store_plain (inr (inl (store, place, count, rule, asks))) = serve_plain store place count rule asks
  store_plain (inr (inr (inl (store, key, sheet, moment, rule, asks)))) = import_plain store key sheet moment rule asks
  store_plain (inr (inr (inr (inl (store, key, moment, rule, asks))))) = export_plain store key moment rule asks
  store_plain (inr (inr (inr (inr (inl (acc, (store, key, moment, rule, asks))))))) = check_plain store key acc moment rule asks
  store_plain (inr (inr (inr (inr (inr (inl (store, key, what, moment, rule, asks))))))) = show_plain store key what moment rule asks
  store_plain (inr (inr (inr (inr (inr (inr (inl (store, key, asks)))))))) = staff_key_plain store key asks
  store_plain (inr (inr (inr (inr (inr (inr (inr (store, target, summed, asks)))))))) = copy_plain store target summed asks

-- ---- what is asked of an image

file_asked_plain : (ask : Ask) (rows : List Row) (options : CommonOptions) (kind : Kind) (image : Text) (slot : ℕ) → IsFileAsk kind image slot ask
    → GivesOptions (command_name ask) rows options → IsPlain options
file_asked_plain (File ask) rows options kind image slot asked is = image_plain (codes "cat") rows options (inl refl) is
file_asked_plain (Files ask) rows options kind image slot asked is = absurd asked
file_asked_plain (Init ask) rows options kind image slot asked is = absurd asked
file_asked_plain (Serve ask) rows options kind image slot asked is = absurd asked
file_asked_plain (Import ask) rows options kind image slot asked is = absurd asked
file_asked_plain (OneQuestion ask) rows options kind image slot asked is = absurd asked
file_asked_plain (StaffKey ask) rows options kind image slot asked is = absurd asked
file_asked_plain (FlaggedImport ask) rows options kind image slot asked is = absurd asked
file_asked_plain (Extract ask) rows options kind image slot asked is = absurd asked
file_asked_plain (Copy ask) rows options kind image slot asked is = absurd asked

files_asked_plain : (ask : Ask) (rows : List Row) (options : CommonOptions) (kind : Kind) (image : Text) → IsFilesAsk kind image ask
    → GivesOptions (command_name ask) rows options → IsPlain options
files_asked_plain (Files ask) rows options kind image asked is = image_plain (codes "list") rows options (inr refl) is
files_asked_plain (File ask) rows options kind image asked is = absurd asked
files_asked_plain (Init ask) rows options kind image asked is = absurd asked
files_asked_plain (Serve ask) rows options kind image asked is = absurd asked
files_asked_plain (Import ask) rows options kind image asked is = absurd asked
files_asked_plain (OneQuestion ask) rows options kind image asked is = absurd asked
files_asked_plain (StaffKey ask) rows options kind image asked is = absurd asked
files_asked_plain (FlaggedImport ask) rows options kind image asked is = absurd asked
files_asked_plain (Extract ask) rows options kind image asked is = absurd asked
files_asked_plain (Copy ask) rows options kind image asked is = absurd asked

-- `files` takes none of them
pub extraction_plain : (rows : List Row) (options : CommonOptions) → GivesOptions (codes "files") rows options → IsPlain options
extraction_plain rows options is = (
  is.no_key_file (λ takes. unset (keyed (codes "files") takes)),
  (is.no_zone_file (λ clocks. unset (clocked (codes "files") clocks)), is.no_day (λ has. unset (timed (codes "files") has))),
)

module _ (words : List Text) (parsed : Parsed) (all : TellsAll words parsed) where
  pub file_plain : (kind : Kind) (image : Text) (slot : ℕ) → IsFileAsk kind image slot parsed.ask → IsPlain parsed.options
  file_plain kind image slot asked = file_asked_plain parsed.ask all.taken.rows parsed.options kind image slot asked all.options

  pub files_plain : (kind : Kind) (image : Text) → IsFilesAsk kind image parsed.ask → IsPlain parsed.options
  files_plain kind image asked = files_asked_plain parsed.ask all.taken.rows parsed.options kind image asked all.options

  pub kind_plain : IsAskOf words parsed.ask → (kind : Kind) → AsksOfKind words kind → IsPlain parsed.options
  kind_plain read kind (inl (image, slot, asks)) = file_plain kind image slot (read.file kind image slot asks)
  kind_plain read kind (inr (image, asks)) = files_plain kind image (read.files kind image asks)

-- ---- what they tell is whole

-- the operands are those that the words have, and nothing is read for them
pub plain_completes : (files : List ℕ → Option (List ℕ)) (input : Option (List ℕ)) (parsed : Parsed) → IsPlain parsed.options → Completes files input parsed parsed.ask
plain_completes files input parsed plain = record {
  keyed = parsed.ask;
  zoned = parsed.ask;
  key = subst (λ path. IsKeyed files input path parsed.ask parsed.ask) (sym plain.0) refl;
  zone = subst (λ path. IsZoned files path parsed.ask parsed.ask) (sym plain.1.0) refl;
  moment = subst (λ day. IsDated day parsed.ask parsed.ask) (sym plain.1.1) refl;
}

-- ---- files of an image in a folder

-- they are words of `files`
pub extraction_taken : (words : List Text) (parsed : Parsed) → IsExtraction parsed.ask → TellsAll words parsed → IsTakenAs (codes "files") words
extraction_taken words parsed is all = subst (λ name. IsTakenAs name words) (named parsed.ask is) all.taken
  where
    named : (ask : Ask) → IsExtraction ask → command_name ask ≡ codes "files"
    named (Extract ask) is = refl
    named other is = absurd is
