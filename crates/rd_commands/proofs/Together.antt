-- The options of a command of the program go together.
use Rattle.std.proofs.Common.{◌≡◌, ◌⊎◌, ◌∙◌, ◌==◌, ◌||◌, ℕ, ℤ, Bool, Err, IfErr, IfOk, List, [], ◌∷◌, None, Ok, OnOk, Option, Result, Some, ap, codes, false, inl, inr, option_map, refl, subst, sym, true}
use Rattle.std.specs.Prelude.{⊤, IsSome}
use Rattle.clap.specs.Words.{App, Row, Text, first_of, subcommand_name_of, subcommand_of, subcommand_rows_of}
use Rattle.clap.specs.declared.parser.matches.ArgMatches.{ArgMatches}
use Rattle.rd_commands.specs.Asks.{AreCheckRows, AreExportRows, AreImportRows, AreInitRows, AreServeRows, AreShowRows, AreStaffKeyRows, IsMomentNamed}
use Rattle.rd_commands.specs.CommonOptions.{EntersApart, EntersOptions, EntersTogether, GoTogether, HasMoment, IsApart, GivesOptions, IsMomentText, NeedsKey, TakesKey}
use Rattle.rd_commands.specs.declared.common_options.CommonOptions.{CommonOptions}
use Rattle.rd_commands.specs.declared.words.Unread.{Unread}
use Rattle.rd_commands.specs.CommandLine.{IsDeskApp}
use Rattle.rd_commands.specs.Commands.{IsCommand}
use Rattle.rd_commands.specs.Serving.{Place}
use Rattle.rd_commands.specs.Zones.{HasClocks}
use Rattle.rd_commands.proofs.GetterLemmas.{entered_here, name_met, rows_met}
use Rattle.rd_commands.proofs.CatLine.{gives_cat}
use Rattle.rd_commands.proofs.ListLine.{gives_list}

-- ---- names of commands, by their second letters

abbrev letter : Text → ℕ
letter (first ∷ second ∷ rest) = second
letter other = 0

abbrev is_needing : ℕ → Bool
is_needing l = (l == 110) || ((l == 109) || ((l == 104) || (l == 116)))

abbrev is_keyed : ℕ → Bool
is_keyed l = is_needing l || (l == 120)

abbrev is_timed : ℕ → Bool
is_timed l = (l == 109) || ((l == 120) || (l == 104))

abbrev is_clocked : ℕ → Bool
is_clocked l = (l == 101) || is_timed l

pub unset : false ≡ true → ⊥
unset set = cc

needing : (name : Text) → NeedsKey name → is_needing (letter name) ≡ true
needing name (inl init) = subst (λ n. is_needing (letter n) ≡ true) (sym init) refl
needing name (inr (inl import)) = subst (λ n. is_needing (letter n) ≡ true) (sym import) refl
needing name (inr (inr (inl check))) = subst (λ n. is_needing (letter n) ≡ true) (sym check) refl
needing name (inr (inr (inr (inl show)))) = subst (λ n. is_needing (letter n) ≡ true) (sym show) refl
needing name (inr (inr (inr (inr staff_key)))) = subst (λ n. is_needing (letter n) ≡ true) (sym staff_key) refl

pub keyed : (name : Text) → TakesKey name → is_keyed (letter name) ≡ true
keyed name (inl (inl init)) = subst (λ n. is_keyed (letter n) ≡ true) (sym init) refl
keyed name (inl (inr (inl import))) = subst (λ n. is_keyed (letter n) ≡ true) (sym import) refl
keyed name (inl (inr (inr (inl check)))) = subst (λ n. is_keyed (letter n) ≡ true) (sym check) refl
keyed name (inl (inr (inr (inr (inl show))))) = subst (λ n. is_keyed (letter n) ≡ true) (sym show) refl
keyed name (inl (inr (inr (inr (inr staff_key))))) = subst (λ n. is_keyed (letter n) ≡ true) (sym staff_key) refl
keyed name (inr export) = subst (λ n. is_keyed (letter n) ≡ true) (sym export) refl

pub timed : (name : Text) → HasMoment name → is_timed (letter name) ≡ true
timed name (inl import) = subst (λ n. is_timed (letter n) ≡ true) (sym import) refl
timed name (inr (inl export)) = subst (λ n. is_timed (letter n) ≡ true) (sym export) refl
timed name (inr (inr (inl check))) = subst (λ n. is_timed (letter n) ≡ true) (sym check) refl
timed name (inr (inr (inr show))) = subst (λ n. is_timed (letter n) ≡ true) (sym show) refl

pub clocked : (name : Text) → HasClocks name → is_clocked (letter name) ≡ true
clocked name (inl serve) = subst (λ n. is_clocked (letter n) ≡ true) (sym serve) refl
clocked name (inr (inl import)) = subst (λ n. is_clocked (letter n) ≡ true) (sym import) refl
clocked name (inr (inr (inl export))) = subst (λ n. is_clocked (letter n) ≡ true) (sym export) refl
clocked name (inr (inr (inr (inl check)))) = subst (λ n. is_clocked (letter n) ≡ true) (sym check) refl
clocked name (inr (inr (inr (inr show)))) = subst (λ n. is_clocked (letter n) ≡ true) (sym show) refl

-- the commands on images have none of these
image_letter : (name : Text) → (name ≡ codes "cat") ⊎ (name ≡ codes "list") → (is_keyed (letter name) ≡ false) × (is_clocked (letter name) ≡ false)
image_letter name (inl cat) = (subst (λ n. is_keyed (letter n) ≡ false) (sym cat) refl, subst (λ n. is_clocked (letter n) ≡ false) (sym cat) refl)
image_letter name (inr list) = (subst (λ n. is_keyed (letter n) ≡ false) (sym list) refl, subst (λ n. is_clocked (letter n) ≡ false) (sym list) refl)

pub no_key : (name : Text) → (name ≡ codes "cat") ⊎ (name ≡ codes "list") → TakesKey name → ⊥
no_key name image takes = unset (sym (image_letter name image).0 ∙ keyed name takes)

pub no_clocks : (name : Text) → (name ≡ codes "cat") ⊎ (name ≡ codes "list") → HasClocks name → ⊥
no_clocks name image clocks = unset (sym (image_letter name image).1 ∙ clocked name clocks)

pub no_moment : (name : Text) → (name ≡ codes "cat") ⊎ (name ≡ codes "list") → HasMoment name → ⊥
no_moment name image has = no_clocks name image (inr has)

-- ---- the options of each command

-- what is there is some
there : (o : Option Text) (text : Text) → o ≡ Some text → IsSome o
there o text is = subst IsSome (sym is) refl

-- the text of a moment that is named writes it
named_text : (o : Option Text) (moment : Option ℤ) → IsMomentNamed o moment → IsMomentText o
named_text (Some text) moment named = inl (named.0, named.1)
named_text None moment named = tt

no_options : (name : Text) (rows : List Row) → is_keyed (letter name) ≡ false → is_clocked (letter name) ≡ false → GoTogether name rows
no_options name rows keyless clockless = record {
  keys = record {
    most = λ takes. absurd (unset (sym keyless ∙ keyed name takes));
    least = λ needs. absurd (unset (sym keyless ∙ keyed name (inl needs)));
  };
  zones = λ clocks. absurd (unset (sym clockless ∙ clocked name clocks));
  moment = λ has. absurd (unset (sym clockless ∙ with_clocks name has));
}
  where
    with_clocks : (name : Text) → HasMoment name → is_clocked (letter name) ≡ true
    with_clocks name has = clocked name (inr has)

init_together : (rows : List Row) (store key : Text) → AreInitRows rows store key → GoTogether (codes "init") rows
init_together rows store key found = record {
  keys = record { most = λ takes. inr found.no_key_file; least = λ needs. inl (there _ key found.key_found) };
  zones = λ clocks. absurd (unset (clocked (codes "init") clocks));
  moment = λ has. absurd (unset (timed (codes "init") has));
}

staff_key_together : (rows : List Row) (store key : Text) → AreStaffKeyRows rows store key → GoTogether (codes "staff-key") rows
staff_key_together rows store key found = record {
  keys = record { most = λ takes. inr found.no_key_file; least = λ needs. inl (there _ key found.key_found) };
  zones = λ clocks. absurd (unset (clocked (codes "staff-key") clocks));
  moment = λ has. absurd (unset (timed (codes "staff-key") has));
}

serve_together : (rows : List Row) (store : Text) (place : Place) (count : ℕ) (rule : Text) → AreServeRows rows store place count rule → GoTogether (codes "serve") rows
serve_together rows store place count rule found = record {
  keys = record {
    most = λ takes. absurd (unset (keyed (codes "serve") takes));
    least = λ needs. absurd (unset (needing (codes "serve") needs));
  };
  zones = λ clocks. inr found.no_zone_file;
  moment = λ has. absurd (unset (timed (codes "serve") has));
}

import_together : (rows : List Row) (store key sheet : Text) (moment : Option ℤ) (rule : Text) → AreImportRows rows store key sheet moment rule → GoTogether (codes "import") rows
import_together rows store key sheet moment rule found = record {
  keys = record { most = λ takes. inr found.no_key_file; least = λ needs. inl (there _ key found.key_found) };
  zones = λ clocks. inr found.no_zone_file;
  moment = λ has. named_text _ moment found.moment_named;
}

export_together : (rows : List Row) (store : Text) (key : Option Text) (moment : Option ℤ) (rule : Text) → AreExportRows rows store key moment rule → GoTogether (codes "export") rows
export_together rows store key moment rule found = record {
  keys = record { most = λ takes. inr found.no_key_file; least = λ needs. absurd (unset (needing (codes "export") needs)) };
  zones = λ clocks. inr found.no_zone_file;
  moment = λ has. named_text _ moment found.moment_named;
}

check_together : (rows : List Row) (store key : Text) (acc : ℕ) (moment : Option ℤ) (rule : Text) → AreCheckRows rows store key acc moment rule → GoTogether (codes "check") rows
check_together rows store key acc moment rule found = record {
  keys = record { most = λ takes. inr found.no_key_file; least = λ needs. inl (there _ key found.key_found) };
  zones = λ clocks. inr found.no_zone_file;
  moment = λ has. named_text _ moment found.moment_named;
}

show_together : (rows : List Row) (store key : Text) (moment : Option ℤ) (rule : Text) → AreShowRows rows store key moment rule → GoTogether (codes "show") rows
show_together rows store key moment rule found = record {
  keys = record { most = λ takes. inr found.no_key_file; least = λ needs. inl (there _ key found.key_found) };
  zones = λ clocks. inr found.no_zone_file;
  moment = λ has. named_text _ moment found.moment_given;
}

-- ---- the command that a parse goes into

abbrev FitEntered : Option (Text × List Row) → Type 0
FitEntered (Some entered) = GoTogether entered.0 entered.1
FitEntered None = ⊤

-- where the words are a command, what a parse finds goes together
pub command_together : (app : App) (words : List Text) (name : Text) (rows : List Row) → IsDeskApp app → subcommand_of app words ≡ Some (name, rows) → IsCommand words
    → GoTogether name rows
command_together app words name rows desk is (inl (inl cat)) =
    let enters = gives_cat app words cat.0 cat.1 cat.2 desk cat.3 in
    subst FitEntered (sym enters.into ∙ is) (no_options (codes "cat") enters.rows refl refl)
command_together app words name rows desk is (inl (inr (inl files))) =
    subst FitEntered (sym (files.3.enters.into app desk) ∙ is) (no_options (codes "files") files.3.rows refl refl)
command_together app words name rows desk is (inl (inr (inr flagged_import))) =
    subst FitEntered (sym (flagged_import.7.enters.into app desk) ∙ is) (import_together flagged_import.7.rows flagged_import.0 flagged_import.1 flagged_import.2 flagged_import.3 flagged_import.4 flagged_import.7.found)
command_together app words name rows desk is (inr (inl list)) =
    let enters = gives_list app words list.0 list.1 desk list.2 in
    subst FitEntered (sym enters.into ∙ is) (no_options (codes "list") enters.rows refl refl)
command_together app words name rows desk is (inr (inr (inl init))) =
    subst FitEntered (sym (init.2.enters.into app desk) ∙ is) (init_together init.2.rows init.0 init.1 init.2.found)
command_together app words name rows desk is (inr (inr (inr (inl serve)))) =
    subst FitEntered (sym (serve.4.enters.into app desk) ∙ is) (serve_together serve.4.rows serve.0 serve.1 serve.2 serve.3 serve.4.found)
command_together app words name rows desk is (inr (inr (inr (inr (inl import))))) =
    subst FitEntered (sym (import.5.enters.into app desk) ∙ is) (import_together import.5.rows import.0 import.1 import.2 import.3 import.4 import.5.found)
command_together app words name rows desk is (inr (inr (inr (inr (inr (inl export)))))) =
    subst FitEntered (sym (export.4.enters.into app desk) ∙ is) (export_together export.4.rows export.0 export.1 export.2 export.3 export.4.found)
command_together app words name rows desk is (inr (inr (inr (inr (inr (inr (inl check))))))) =
    subst FitEntered (sym (check.1.4.enters.into app desk) ∙ is)
    (check_together check.1.4.rows check.1.0 check.1.1 check.0 check.1.2 check.1.3 check.1.4.found)
command_together app words name rows desk is (inr (inr (inr (inr (inr (inr (inr (inl show)))))))) =
    subst FitEntered (sym (show.5.enters.into app desk) ∙ is) (show_together show.5.rows show.0 show.1 show.3 show.4 show.5.found)
command_together app words name rows desk is (inr (inr (inr (inr (inr (inr (inr (inr (inl staff_key))))))))) =
    subst FitEntered (sym (staff_key.2.enters.into app desk) ∙ is) (staff_key_together staff_key.2.rows staff_key.0 staff_key.1 staff_key.2.found)
command_together app words name rows desk is (inr (inr (inr (inr (inr (inr (inr (inr (inr copy))))))))) =
    subst FitEntered (sym (copy.3.enters.into app desk) ∙ is) (no_options (codes "copy") copy.3.rows refl refl)

-- ---- what was found of the command that a parse went into

module _ (m : ArgMatches) (name : Text) (rows : List Row) (is : Some name ≡ subcommand_name_of m)
    (are : Some rows ≡ option_map (λ (p : Text × List Row). p.1) (subcommand_rows_of m)) where
  -- the command of a name is this one, with its rows
  meets : (P : Text → List Row → Type 0) → P name rows → (other : Text) (others : List Row) → subcommand_rows_of m ≡ Some (other, others) → P other others
  meets P holds other others into =
      subst (P other) (sym (rows_met m other others rows into (sym are)))
      (subst (λ n. P n rows) (sym (name_met m other name others rows into is are)) holds)

  -- what stands beside is said of it
  pub if_ok_met : (r : Result CommonOptions Unread) → IfOk r (GivesOptions name rows) → IfOk r (EntersOptions (subcommand_rows_of m))
  if_ok_met (Ok options) says = λ other others into. meets (λ n rs. GivesOptions n rs options) says other others into
  if_ok_met (Err fault) says = tt

  -- its options go together
  pub on_ok_met : (r : Result CommonOptions Unread) → OnOk r (GoTogether name rows) → OnOk r (EntersTogether (subcommand_rows_of m))
  on_ok_met (Ok options) fits = λ other others into. meets GoTogether fits other others into
  on_ok_met (Err fault) fits = tt

  -- or they do not
  pub if_err_met : (r : Result CommonOptions Unread) → IfErr r (λ fault. IsApart fault → ¬ GoTogether name rows) → IfErr r (λ fault. IsApart fault → EntersApart (subcommand_rows_of m))
  if_err_met (Ok options) apart = tt
  if_err_met (Err fault) apart = λ is_apart. (name, rows, entered_here m name rows is are, apart is_apart)

-- where a parse went into no command, there is none
pub none_met : (m : ArgMatches) (name : Text) (rows : List Row) → subcommand_rows_of m ≡ Some (name, rows)
    → None ≡ option_map (λ (p : Text × List Row). p.1) (subcommand_rows_of m) → ⊥
none_met m name rows into none =
    let no : None ≡ Some rows = none ∙ ap (option_map (λ (p : Text × List Row). p.1)) into in absurd (cc no)
