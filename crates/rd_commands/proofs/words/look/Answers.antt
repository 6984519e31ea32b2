use Rattle.std.proofs.Common.{inl, inr}
use Rattle.rd_commands.proofs.GetterLemmas.{passed_on}
use Rattle.rd_commands.proofs.Looks.{options_no_day, options_no_place, entered_named, no_place_apart, seen_fault, shown_apart, shown_no_place}
use Rattle.rd_commands.specs.declared.words.Unread.TheVariants.{Day, Place as NoPlace}
use Rattle.std.proofs.Common.{◌≡◌, ◌∙◌, sym}
use Rattle.rd_commands.proofs.words.look.Goals as goal

pub returns-in_err-check_place-clause-none : goal.returns-in_err-check_place-clause-none
returns-in_err-check_place-clause-none c =
    passed_on c.from_residual.result c.in_err-check_place.field-0.0 _ c.from_residual.ensures.1
    (λ day. let no : NoPlace ≡ Day = sym c.in_err-check_place.ensures.failed ∙ day in absurd (cc no))

pub returns-in_err-check_place-clause-no_place : goal.returns-in_err-check_place-clause-no_place
returns-in_err-check_place-clause-no_place c =
    passed_on c.from_residual.result c.in_err-check_place.field-0.0 _ c.from_residual.ensures.1 (λ place. c.in_err-check_place.ensures.none)

pub returns-in_err-check_place-clause-apart : goal.returns-in_err-check_place-clause-apart
returns-in_err-check_place-clause-apart c =
    passed_on c.from_residual.result c.in_err-check_place.field-0.0 _ c.from_residual.ensures.1
    (λ apart. absurd (no_place_apart _ c.in_err-check_place.ensures.failed apart))

pub returns-in_err-check_place-clause-shown_before : goal.returns-in_err-check_place-clause-shown_before
returns-in_err-check_place-clause-shown_before c =
    passed_on c.from_residual.result c.in_err-check_place.field-0.0 _ c.from_residual.ensures.1
    (λ apart. absurd (no_place_apart _ c.in_err-check_place.ensures.failed apart))

pub returns-in_err-check_place-clause-placed_before : goal.returns-in_err-check_place-clause-placed_before
returns-in_err-check_place-clause-placed_before c =
    passed_on c.from_residual.result c.in_err-check_place.field-0.0 _ c.from_residual.ensures.1
    (λ apart. absurd (no_place_apart _ c.in_err-check_place.ensures.failed apart))

pub returns-in_err-check_place-clause-failed : goal.returns-in_err-check_place-clause-failed
returns-in_err-check_place-clause-failed c =
    passed_on c.from_residual.result c.in_err-check_place.field-0.0 _ c.from_residual.ensures.1 (inr (inl c.in_err-check_place.ensures.failed))

pub returns-in_err-shown-clause-none : goal.returns-in_err-shown-clause-none
returns-in_err-shown-clause-none c =
    passed_on c.from_residual-in_err-shown.result c.in_err-shown.field-0.0 _ c.from_residual-in_err-shown.ensures.1 c.in_err-shown.ensures.none

pub returns-in_err-shown-clause-no_place : goal.returns-in_err-shown-clause-no_place
returns-in_err-shown-clause-no_place c =
    passed_on c.from_residual-in_err-shown.result c.in_err-shown.field-0.0 _ c.from_residual-in_err-shown.ensures.1
    (λ place. absurd (shown_no_place _ c.in_err-shown.ensures.failed place))

pub returns-in_err-shown-clause-apart : goal.returns-in_err-shown-clause-apart
returns-in_err-shown-clause-apart c =
    passed_on c.from_residual-in_err-shown.result c.in_err-shown.field-0.0 _ c.from_residual-in_err-shown.ensures.1
    (λ apart. absurd (shown_apart _ c.in_err-shown.ensures.failed apart))

pub returns-in_err-shown-clause-shown_before : goal.returns-in_err-shown-clause-shown_before
returns-in_err-shown-clause-shown_before c =
    passed_on c.from_residual-in_err-shown.result c.in_err-shown.field-0.0 _ c.from_residual-in_err-shown.ensures.1
    (λ apart. absurd (shown_apart _ c.in_err-shown.ensures.failed apart))

pub returns-in_err-shown-clause-placed_before : goal.returns-in_err-shown-clause-placed_before
returns-in_err-shown-clause-placed_before c =
    passed_on c.from_residual-in_err-shown.result c.in_err-shown.field-0.0 _ c.from_residual-in_err-shown.ensures.1
    (λ apart. absurd (shown_apart _ c.in_err-shown.ensures.failed apart))

pub returns-in_err-shown-clause-failed : goal.returns-in_err-shown-clause-failed
returns-in_err-shown-clause-failed c =
    passed_on c.from_residual-in_err-shown.result c.in_err-shown.field-0.0 _ c.from_residual-in_err-shown.ensures.1 (inr (inr c.in_err-shown.ensures.failed))

pub returns-in_err-options-clause-none : goal.returns-in_err-options-clause-none
returns-in_err-options-clause-none c =
    passed_on c.from_residual-in_err-options.result c.in_err-options.field-0.0 _ c.from_residual-in_err-options.ensures.1
    (λ day. absurd (options_no_day _ c.in_err-options.ensures.failed day))

pub returns-in_err-options-clause-no_place : goal.returns-in_err-options-clause-no_place
returns-in_err-options-clause-no_place c =
    passed_on c.from_residual-in_err-options.result c.in_err-options.field-0.0 _ c.from_residual-in_err-options.ensures.1
    (λ place. absurd (options_no_place _ c.in_err-options.ensures.failed place))

pub returns-in_err-options-clause-apart : goal.returns-in_err-options-clause-apart
returns-in_err-options-clause-apart c =
    passed_on c.from_residual-in_err-options.result c.in_err-options.field-0.0 _ c.from_residual-in_err-options.ensures.1 c.in_err-options.ensures.apart

pub returns-in_err-options-clause-shown_before : goal.returns-in_err-options-clause-shown_before
returns-in_err-options-clause-shown_before c =
    passed_on c.from_residual-in_err-options.result c.in_err-options.field-0.0 _ c.from_residual-in_err-options.ensures.1
    (λ apart. entered_named _ c.in_ok-shown.shown c.in_ok-shown.ensures.named)

pub returns-in_err-options-clause-placed_before : goal.returns-in_err-options-clause-placed_before
returns-in_err-options-clause-placed_before c =
    passed_on c.from_residual-in_err-options.result c.in_err-options.field-0.0 _ c.from_residual-in_err-options.ensures.1 (λ apart. c.in_ok-check_place.ensures.named)

pub returns-in_err-options-clause-failed : goal.returns-in_err-options-clause-failed
returns-in_err-options-clause-failed c =
    passed_on c.from_residual-in_err-options.result c.in_err-options.field-0.0 _ c.from_residual-in_err-options.ensures.1 (seen_fault _ c.in_err-options.ensures.failed)
