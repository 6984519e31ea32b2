use Rattle.std.proofs.Common.{◌∙◌, FitsSigned, Some, codes, rules, subst, sym, w32}
use Rattle.std.proofs.lemmas.Int.{to_z-of_z}
use Rattle.clap.specs.Words.{first_of, found_of, rows_of}
use Rattle.rd_commands.specs.CommonOptions.{IsDayOfMoment}
use Rattle.clap.proofs.WalkLemmas.{first_value-rows}
use Rattle.rd_commands.proofs.GetterLemmas.{passed_on}
use Rattle.rd_commands.proofs.Looks.{day_absent, day_dated, fits_absent, fits_date, fits_none, fits_number, no_day}
use Rattle.rd_commands.proofs.common_options.day_of_moment.Goals as goal

pub returns-in_default-clause-given : goal.returns-in_default-clause-given
returns-in_default-clause-given c = day_absent _ (c.in_default.ensures ∙ first_value-rows (found_of c.args.found.now) (codes "at"))

pub returns-in_default-clause-fits : goal.returns-in_default-clause-fits
returns-in_default-clause-fits c = fits_absent _ (c.in_default.ensures ∙ first_value-rows (found_of c.args.found.now) (codes "at"))

pub returns-in-Some-seconds_read-clause-given : goal.returns-in-Some-seconds_read-clause-given
returns-in-Some-seconds_read-clause-given c =
    no_day _ _ _ (c.in-Some.ensures ∙ first_value-rows (found_of c.args.found.now) (codes "at")) c.in-Some-seconds_read.ensures.written

pub returns-in-Some-seconds_read-clause-fits : goal.returns-in-Some-seconds_read-clause-fits
returns-in-Some-seconds_read-clause-fits c =
    fits_number _ _ _ (c.in-Some.ensures ∙ first_value-rows (found_of c.args.found.now) (codes "at")) c.in-Some-seconds_read.ensures.written

pub returns-in_ok-day_read-in-None-clause-given : goal.returns-in_ok-day_read-in-None-clause-given
returns-in_ok-day_read-in-None-clause-given c =
    let fits : FitsSigned w32 c.in_ok-day_read-in-None.field-0 = search rules in
    subst (λ day. IsDayOfMoment (first_of (codes "at") (rows_of (found_of c.args.found.now))) (Some day)) (sym (to_z-of_z w32 c.in_ok-day_read-in-None.field-0 fits))
    (day_dated _ _ _ (c.in-Some.ensures ∙ first_value-rows (found_of c.args.found.now) (codes "at")) c.in-None.ensures.none c.in_ok-day_read-in-None.ensures.day)

pub returns-in_ok-day_read-in-None-clause-fits : goal.returns-in_ok-day_read-in-None-clause-fits
returns-in_ok-day_read-in-None-clause-fits c =
    fits_date _ _ _ (c.in-Some.ensures ∙ first_value-rows (found_of c.args.found.now) (codes "at")) c.in_ok-day_read-in-None.ensures.day

pub returns-in_err-day_read-in-None-clause-none : goal.returns-in_err-day_read-in-None-clause-none
returns-in_err-day_read-in-None-clause-none c =
    passed_on c.from_residual.result c.in_err-day_read-in-None.field-0.0 _ c.from_residual.ensures.1
    (λ is. fits_none _ _ (c.in-Some.ensures ∙ first_value-rows (found_of c.args.found.now) (codes "at")) c.in-None.ensures.none (c.in_err-day_read-in-None.ensures.none is))

pub returns-in_err-day_read-in-None-clause-failed : goal.returns-in_err-day_read-in-None-clause-failed
returns-in_err-day_read-in-None-clause-failed c =
    passed_on c.from_residual.result c.in_err-day_read-in-None.field-0.0 _ c.from_residual.ensures.1 c.in_err-day_read-in-None.ensures.failed
