use Rattle.std.proofs.Common.{◌≡◌, ◌∙◌, Err, None, Ok, Some, codes, inl, inr, map, refl, sym}
use Rattle.clap.specs.Words.{app_of, subcommand_rows_of}
use Rattle.rd_commands.specs.Asks.{IsForMemory}
use Rattle.rd_commands.specs.declared.words.Unread.TheVariants.{Day, Place as NoPlace, Usage}
use Rattle.rd_commands.proofs.GetterLemmas.{GivesRows, ask_given, ask_read, ask_unread, entered_is, fails_for_memory, faultless, names_what_it_shows, no_fault_in, passed_on, sums_read, taken_apart, taken_by, taken_on_output, taken_serving, taken_showing, trust_read, words_at_fault}
use Rattle.rd_commands.proofs.OneCommand.{gives_kind, gives_matches, gives_memory, gives_no_fault}
use Rattle.rd_commands.proofs.HelpLine.{help_unread, not_help}
use Rattle.rd_commands.proofs.Places.{fits_together, look_mistake, look_no_fault, look_not_placed, look_not_shown, look_unread, names_a_place, tells_options}
use Rattle.rd_commands.proofs.VersionLine.{not_version, version_unread}
use Rattle.rd_commands.proofs.words.read_by.Goals as goal

pub returns-clause-unread : goal.returns-clause-unread
returns-clause-unread c = λ command.
    fails_for_memory c.requires.whole _ c.in-Err.error c.requires.is_desk command (gives_memory (app_of c.args.desk) _ _ c.requires c.in-Err.ensures.passes) (gives_kind (app_of c.args.desk) _ c.in-Err.error c.requires c.in-Err.ensures.kinds)

pub returns-clause-mistake_in : goal.returns-clause-mistake_in
returns-clause-mistake_in c =
    words_at_fault c.requires.whole _ c.in-Err.error c.requires.is_desk (gives_kind (app_of c.args.desk) _ c.in-Err.error c.requires c.in-Err.ensures.kinds)

pub returns-clause-version : goal.returns-clause-version
returns-clause-version c =
    version_unread c.requires.whole _ c.in-Err.error c.requires.is_desk (gives_kind (app_of c.args.desk) _ c.in-Err.error c.requires c.in-Err.ensures.kinds)

pub returns-clause-no_rule : goal.returns-clause-no_rule
returns-clause-no_rule c =
    let words = map (λ word. word.now) c.args.words.now in
    let wrong = words_at_fault c.requires.whole _ c.in-Err.error c.requires.is_desk (gives_kind (app_of c.args.desk) _ c.in-Err.error c.requires c.in-Err.ensures.kinds) in
    λ none. elim wrong [
      | inl out ↦ inr out
      | inr found ↦ absurd (none (λ name rows enters clocks. absurd (no_fault_in words name rows _ enters found)))
    ]

pub returns-clause-day : goal.returns-clause-day
returns-clause-day c = λ day. absurd cc

pub returns-clause-none_shown : goal.returns-clause-none_shown
returns-clause-none_shown c =
    let words = map (λ word. word.now) c.args.words.now in
    let wrong = words_at_fault c.requires.whole _ c.in-Err.error c.requires.is_desk (gives_kind (app_of c.args.desk) _ c.in-Err.error c.requires c.in-Err.ensures.kinds) in
    λ none. elim wrong [
      | inl out ↦ inr out
      | inr found ↦ absurd (none (λ rows enters. absurd (no_fault_in words (codes "show") rows _ enters found)))
    ]

-- ---- the place

pub returns-clause-placeless : goal.returns-clause-placeless
returns-clause-placeless c = λ place. absurd cc

pub returns-clause-mixed : goal.returns-clause-mixed
returns-clause-mixed c = λ apart. elim apart [
  | inl key ↦ absurd (cc key)
  | inr more ↦ elim more [ inl zones ↦ absurd (cc zones) | inr moment ↦ absurd (cc moment) ]
]

pub returns-clause-no_place : goal.returns-clause-no_place
returns-clause-no_place c =
    let words = map (λ word. word.now) c.args.words.now in
    let wrong = words_at_fault c.requires.whole _ c.in-Err.error c.requires.is_desk (gives_kind (app_of c.args.desk) _ c.in-Err.error c.requires c.in-Err.ensures.kinds) in
    λ none. elim wrong [
      | inl out ↦ inr out
      | inr found ↦ absurd (none (λ rows enters. absurd (no_fault_in words (codes "serve") rows _ enters found)))
    ]

-- ---- words of `show` that name nothing, of `serve` that name two places, and of others that do not go together

pub returns-in_err-seen-in-Ok-clause-unread : goal.returns-in_err-seen-in-Ok-clause-unread
returns-in_err-seen-in-Ok-clause-unread c =
    passed_on c.from_residual.result c.in_err-seen-in-Ok.field-0.0 _ c.from_residual.ensures.1
    (look_unread c.requires.whole _ c.in-Ok.matches c.requires.is_desk (gives_matches (app_of c.args.desk) _ c.in-Ok.matches c.requires c.in-Ok.ensures.matches) c.in_err-seen-in-Ok.field-0.0 c.in_err-seen-in-Ok.ensures.failed
    c.in_err-seen-in-Ok.ensures.none c.in_err-seen-in-Ok.ensures.no_place c.in_err-seen-in-Ok.ensures.apart c.in_err-seen-in-Ok.ensures.shown_before
    c.in_err-seen-in-Ok.ensures.placed_before)

pub returns-in_err-seen-in-Ok-clause-mistake_in : goal.returns-in_err-seen-in-Ok-clause-mistake_in
returns-in_err-seen-in-Ok-clause-mistake_in c =
    passed_on c.from_residual.result c.in_err-seen-in-Ok.field-0.0 _ c.from_residual.ensures.1
    (look_no_fault _ c.in_err-seen-in-Ok.field-0.0 c.in_err-seen-in-Ok.ensures.failed)

pub returns-in_err-seen-in-Ok-clause-no_rule : goal.returns-in_err-seen-in-Ok-clause-no_rule
returns-in_err-seen-in-Ok-clause-no_rule c =
    passed_on c.from_residual.result c.in_err-seen-in-Ok.field-0.0 _ c.from_residual.ensures.1
    (λ none. look_mistake c.in_err-seen-in-Ok.field-0.0 c.in_err-seen-in-Ok.ensures.failed)

pub returns-in_err-seen-in-Ok-clause-none_shown : goal.returns-in_err-seen-in-Ok-clause-none_shown
returns-in_err-seen-in-Ok-clause-none_shown c =
    passed_on c.from_residual.result c.in_err-seen-in-Ok.field-0.0 _ c.from_residual.ensures.1
    (look_not_shown c.requires.whole _ c.in-Ok.matches c.requires.is_desk (gives_matches (app_of c.args.desk) _ c.in-Ok.matches c.requires c.in-Ok.ensures.matches) c.in_err-seen-in-Ok.field-0.0 c.in_err-seen-in-Ok.ensures.failed
    c.in_err-seen-in-Ok.ensures.none c.in_err-seen-in-Ok.ensures.no_place c.in_err-seen-in-Ok.ensures.apart c.in_err-seen-in-Ok.ensures.shown_before
    c.in_err-seen-in-Ok.ensures.placed_before)

pub returns-in_err-seen-in-Ok-clause-no_place : goal.returns-in_err-seen-in-Ok-clause-no_place
returns-in_err-seen-in-Ok-clause-no_place c =
    passed_on c.from_residual.result c.in_err-seen-in-Ok.field-0.0 _ c.from_residual.ensures.1
    (look_not_placed c.requires.whole _ c.in-Ok.matches c.requires.is_desk (gives_matches (app_of c.args.desk) _ c.in-Ok.matches c.requires c.in-Ok.ensures.matches) c.in_err-seen-in-Ok.field-0.0 c.in_err-seen-in-Ok.ensures.failed
    c.in_err-seen-in-Ok.ensures.none c.in_err-seen-in-Ok.ensures.no_place c.in_err-seen-in-Ok.ensures.apart c.in_err-seen-in-Ok.ensures.shown_before
    c.in_err-seen-in-Ok.ensures.placed_before)

pub returns-in_err-seen-in-Ok-clause-placeless : goal.returns-in_err-seen-in-Ok-clause-placeless
returns-in_err-seen-in-Ok-clause-placeless c =
    passed_on c.from_residual.result c.in_err-seen-in-Ok.field-0.0 _ c.from_residual.ensures.1
    (λ place. taken_serving c.requires.whole _ c.in-Ok.matches c.requires.is_desk (gives_matches (app_of c.args.desk) _ c.in-Ok.matches c.requires c.in-Ok.ensures.matches) (gives_no_fault (app_of c.args.desk) _ c.requires c.in-Ok.ensures.kinds) (c.in_err-seen-in-Ok.ensures.no_place place))

pub returns-in_err-seen-in-Ok-clause-mixed : goal.returns-in_err-seen-in-Ok-clause-mixed
returns-in_err-seen-in-Ok-clause-mixed c =
    passed_on c.from_residual.result c.in_err-seen-in-Ok.field-0.0 _ c.from_residual.ensures.1
    (λ apart. taken_apart c.requires.whole _ c.in-Ok.matches c.requires.is_desk (gives_matches (app_of c.args.desk) _ c.in-Ok.matches c.requires c.in-Ok.ensures.matches) (gives_no_fault (app_of c.args.desk) _ c.requires c.in-Ok.ensures.kinds) (c.in_err-seen-in-Ok.ensures.apart apart))

pub returns-in_err-seen-in-Ok-clause-day : goal.returns-in_err-seen-in-Ok-clause-day
returns-in_err-seen-in-Ok-clause-day c =
    passed_on c.from_residual.result c.in_err-seen-in-Ok.field-0.0 _ c.from_residual.ensures.1
    (λ day. taken_showing c.requires.whole _ c.in-Ok.matches c.requires.is_desk (gives_matches (app_of c.args.desk) _ c.in-Ok.matches c.requires c.in-Ok.ensures.matches) (gives_no_fault (app_of c.args.desk) _ c.requires c.in-Ok.ensures.kinds) (c.in_err-seen-in-Ok.ensures.none day))

pub returns-in_err-seen-in-Ok-clause-version : goal.returns-in_err-seen-in-Ok-clause-version
returns-in_err-seen-in-Ok-clause-version c =
    passed_on c.from_residual.result c.in_err-seen-in-Ok.field-0.0 _ c.from_residual.ensures.1
    (λ asks. absurd (not_version c.requires.whole _ c.requires.is_desk (gives_no_fault (app_of c.args.desk) _ c.requires c.in-Ok.ensures.kinds) asks))

pub returns-clause-help : goal.returns-clause-help
returns-clause-help c =
    help_unread c.requires.whole _ c.in-Err.error c.requires.is_desk (gives_kind (app_of c.args.desk) _ c.in-Err.error c.requires c.in-Err.ensures.kinds)

pub returns-in_err-seen-in-Ok-clause-help : goal.returns-in_err-seen-in-Ok-clause-help
returns-in_err-seen-in-Ok-clause-help c =
    passed_on c.from_residual.result c.in_err-seen-in-Ok.field-0.0 _ c.from_residual.ensures.1
    (λ asks. absurd (not_help c.requires.whole _ c.requires.is_desk (gives_no_fault (app_of c.args.desk) _ c.requires c.in-Ok.ensures.kinds) asks))

-- ---- what `clap` says

pub returns-in_err-seen-in-Ok-clause-of_clap : goal.returns-in_err-seen-in-Ok-clause-of_clap
returns-in_err-seen-in-Ok-clause-of_clap c =
    passed_on c.from_residual.result c.in_err-seen-in-Ok.field-0.0 _ c.from_residual.ensures.1
    (λ none. absurd (none (taken_by c.requires.whole _ c.requires.is_desk (gives_no_fault (app_of c.args.desk) _ c.requires c.in-Ok.ensures.kinds))))

pub returns-in-Some-clause-read : goal.returns-in-Some-clause-read
returns-in-Some-clause-read c =
    let words = map (λ word. word.now) c.args.words.now in
    let rows : GivesRows (subcommand_rows_of c.in-Ok.matches) c.in_ok-seen-in-Ok.seen.shown (Some c.in-Some.ask) = record { file = c.in-Some.ensures.file; files = c.in-Some.ensures.files; init = c.in-Some.ensures.init; serve = c.in-Some.ensures.serve; timeouts = c.in-Some.ensures.timeouts; import = c.in-Some.ensures.import; export = c.in-Some.ensures.export; check = c.in-Some.ensures.check; show = c.in-Some.ensures.show; flagged_import = c.in-Some.ensures.flagged_import; extract = c.in-Some.ensures.extract; staff_key = c.in-Some.ensures.staff_key; copy = c.in-Some.ensures.copy } in
    ask_read (Some c.in-Some.ask) Usage (Ok c.in-Some.ask) words refl
    (ask_given (Some c.in-Some.ask) c.in_ok-seen-in-Ok.seen.shown c.requires.whole words c.in-Ok.matches c.requires.is_desk (gives_matches (app_of c.args.desk) _ c.in-Ok.matches c.requires c.in-Ok.ensures.matches) c.in_ok-seen-in-Ok.ensures.named rows)

pub returns-in-Some-clause-accession : goal.returns-in-Some-clause-accession
returns-in-Some-clause-accession c = c.in-Some.ensures.accession

pub returns-in-Ok-clause-unread : goal.returns-in-Ok-clause-unread
returns-in-Ok-clause-unread c =
    let words = map (λ word. word.now) c.args.words.now in
    let rows : GivesRows (subcommand_rows_of c.in-Ok.matches) c.in_ok-seen-in-Ok.seen.shown None = record { file = c.in-None.ensures.file; files = c.in-None.ensures.files; init = c.in-None.ensures.init; serve = c.in-None.ensures.serve; timeouts = c.in-None.ensures.timeouts; import = c.in-None.ensures.import; export = c.in-None.ensures.export; check = c.in-None.ensures.check; show = c.in-None.ensures.show; flagged_import = c.in-None.ensures.flagged_import; extract = c.in-None.ensures.extract; staff_key = c.in-None.ensures.staff_key; copy = c.in-None.ensures.copy } in
    ask_unread None Usage (Err Usage) words IsForMemory refl
    (ask_given None c.in_ok-seen-in-Ok.seen.shown c.requires.whole words c.in-Ok.matches c.requires.is_desk (gives_matches (app_of c.args.desk) _ c.in-Ok.matches c.requires c.in-Ok.ensures.matches) c.in_ok-seen-in-Ok.ensures.named rows)

pub returns-in-Some-clause-taken : goal.returns-in-Some-clause-taken
returns-in-Some-clause-taken c = taken_by c.requires.whole _ c.requires.is_desk (gives_no_fault (app_of c.args.desk) _ c.requires c.in-Ok.ensures.kinds)

pub returns-in-Some-clause-written_on_output : goal.returns-in-Some-clause-written_on_output
returns-in-Some-clause-written_on_output c =
    taken_on_output c.requires.whole _ c.in-Ok.matches c.requires.is_desk (gives_matches (app_of c.args.desk) _ c.in-Ok.matches c.requires c.in-Ok.ensures.matches) (gives_no_fault (app_of c.args.desk) _ c.requires c.in-Ok.ensures.kinds) (Some c.in-Some.ask) Usage (Ok c.in-Some.ask)
    refl c.in-Some.ensures.written_on_output

pub returns-in-Ok-clause-version : goal.returns-in-Ok-clause-version
returns-in-Ok-clause-version c = λ asks. absurd (not_version c.requires.whole _ c.requires.is_desk (gives_no_fault (app_of c.args.desk) _ c.requires c.in-Ok.ensures.kinds) asks)

pub returns-in-Ok-clause-help : goal.returns-in-Ok-clause-help
returns-in-Ok-clause-help c = λ asks. absurd (not_help c.requires.whole _ c.requires.is_desk (gives_no_fault (app_of c.args.desk) _ c.requires c.in-Ok.ensures.kinds) asks)

pub returns-in-Some-clause-zone : goal.returns-in-Some-clause-zone
returns-in-Some-clause-zone c =
    let words = map (λ word. word.now) c.args.words.now in
    let app = c.requires.whole in
    λ name rows enters clocks.
    c.in-Some.ensures.zone name rows (sym (entered_is app words c.in-Ok.matches c.requires.is_desk (gives_matches (app_of c.args.desk) _ c.in-Ok.matches c.requires c.in-Ok.ensures.matches)) ∙ enters.into app c.requires.is_desk) clocks

pub returns-in-Ok-clause-no_rule : goal.returns-in-Ok-clause-no_rule
returns-in-Ok-clause-no_rule c = λ none. inl (inl refl)

pub returns-in-Ok-clause-apart : goal.returns-in-Ok-clause-apart
returns-in-Ok-clause-apart c = λ none. inl (inl refl)

pub returns-in-Some-clause-shown : goal.returns-in-Some-clause-shown
returns-in-Some-clause-shown c =
    names_what_it_shows c.requires.whole _ c.in-Ok.matches c.in_ok-seen-in-Ok.seen.shown c.requires.is_desk (gives_matches (app_of c.args.desk) _ c.in-Ok.matches c.requires c.in-Ok.ensures.matches) c.in_ok-seen-in-Ok.ensures.named

pub returns-in-Ok-clause-none_shown : goal.returns-in-Ok-clause-none_shown
returns-in-Ok-clause-none_shown c = λ none.
    absurd (none (names_what_it_shows c.requires.whole _ c.in-Ok.matches c.in_ok-seen-in-Ok.seen.shown c.requires.is_desk (gives_matches (app_of c.args.desk) _ c.in-Ok.matches c.requires c.in-Ok.ensures.matches) c.in_ok-seen-in-Ok.ensures.named))

pub returns-in-Ok-clause-day : goal.returns-in-Ok-clause-day
returns-in-Ok-clause-day c = λ day. let no : Usage ≡ Day = day in absurd (cc no)

pub returns-in-Some-clause-place : goal.returns-in-Some-clause-place
returns-in-Some-clause-place c = names_a_place c.requires.whole _ c.in-Ok.matches c.requires.is_desk (gives_matches (app_of c.args.desk) _ c.in-Ok.matches c.requires c.in-Ok.ensures.matches) c.in_ok-seen-in-Ok.ensures.place

pub returns-in-Ok-clause-no_place : goal.returns-in-Ok-clause-no_place
returns-in-Ok-clause-no_place c = λ none.
    absurd (none (names_a_place c.requires.whole _ c.in-Ok.matches c.requires.is_desk (gives_matches (app_of c.args.desk) _ c.in-Ok.matches c.requires c.in-Ok.ensures.matches) c.in_ok-seen-in-Ok.ensures.place))

pub returns-in-Ok-clause-placeless : goal.returns-in-Ok-clause-placeless
returns-in-Ok-clause-placeless c = λ place. let no : Usage ≡ NoPlace = place in absurd (cc no)

pub returns-in-Ok-clause-mixed : goal.returns-in-Ok-clause-mixed
returns-in-Ok-clause-mixed c = λ apart. elim apart [
  | inl key ↦ absurd (cc key)
  | inr more ↦ elim more [ inl zones ↦ absurd (cc zones) | inr moment ↦ absurd (cc moment) ]
]

pub returns-in-Ok-clause-of_clap : goal.returns-in-Ok-clause-of_clap
returns-in-Ok-clause-of_clap c = λ none. absurd (none (taken_by c.requires.whole _ c.requires.is_desk (gives_no_fault (app_of c.args.desk) _ c.requires c.in-Ok.ensures.kinds)))

-- ---- what stands beside

pub returns-in-Some-clause-options : goal.returns-in-Some-clause-options
returns-in-Some-clause-options c =
    tells_options c.requires.whole _ c.in-Ok.matches c.requires.is_desk (gives_matches (app_of c.args.desk) _ c.in-Ok.matches c.requires c.in-Ok.ensures.matches) c.in_ok-seen-in-Ok.seen.options c.in_ok-seen-in-Ok.ensures.options

pub returns-in-Some-clause-together : goal.returns-in-Some-clause-together
returns-in-Some-clause-together c = fits_together c.requires.whole _ c.in-Ok.matches c.requires.is_desk (gives_matches (app_of c.args.desk) _ c.in-Ok.matches c.requires c.in-Ok.ensures.matches) c.in_ok-seen-in-Ok.ensures.together

pub returns-in-Some-clause-all : goal.returns-in-Some-clause-all
returns-in-Some-clause-all c =
    let words = map (λ word. word.now) c.args.words.now in
    let app = c.requires.whole in
    let from = c.in-Some.ensures.from c.in_ok-seen-in-Ok.ensures.named in
    record {
      taken = record {
        app = app;
        is_desk = c.requires.is_desk;
        no_fault = faultless app words c.requires.is_desk (gives_no_fault (app_of c.args.desk) _ c.requires c.in-Ok.ensures.kinds);
        rows = from.0;
        into = entered_is app words c.in-Ok.matches c.requires.is_desk (gives_matches (app_of c.args.desk) _ c.in-Ok.matches c.requires c.in-Ok.ensures.matches) ∙ from.1;
      };
      asks = from.2;
      options = c.in_ok-seen-in-Ok.ensures.options _ from.0 from.1;
    }

pub returns-clause-apart : goal.returns-clause-apart
returns-clause-apart c =
    let words = map (λ word. word.now) c.args.words.now in
    let wrong = words_at_fault c.requires.whole _ c.in-Err.error c.requires.is_desk (gives_kind (app_of c.args.desk) _ c.in-Err.error c.requires c.in-Err.ensures.kinds) in
    λ none. elim wrong [
      | inl out ↦ inr out
      | inr found ↦ absurd (none (λ name rows enters. absurd (no_fault_in words name rows _ enters found)))
    ]

pub returns-in_err-seen-in-Ok-clause-apart : goal.returns-in_err-seen-in-Ok-clause-apart
returns-in_err-seen-in-Ok-clause-apart c =
    passed_on c.from_residual.result c.in_err-seen-in-Ok.field-0.0 _ c.from_residual.ensures.1
    (λ none. look_mistake c.in_err-seen-in-Ok.field-0.0 c.in_err-seen-in-Ok.ensures.failed)

-- ---- the clock

pub returns-in-Some-clause-trust : goal.returns-in-Some-clause-trust
returns-in-Some-clause-trust c = λ trusted told.
    trust_read c.requires.whole _ c.in-Ok.matches (Some c.in-Some.ask) Usage (Ok c.in-Some.ask) trusted c.requires.is_desk (gives_matches (app_of c.args.desk) _ c.in-Ok.matches c.requires c.in-Ok.ensures.matches) refl c.in-Some.ensures.trust told

-- ---- sums

pub returns-in-Some-clause-sums : goal.returns-in-Some-clause-sums
returns-in-Some-clause-sums c = λ summed told.
    sums_read c.requires.whole _ c.in-Ok.matches (Some c.in-Some.ask) Usage (Ok c.in-Some.ask) summed c.requires.is_desk (gives_matches (app_of c.args.desk) _ c.in-Ok.matches c.requires c.in-Ok.ensures.matches) refl c.in-Some.ensures.sums told
