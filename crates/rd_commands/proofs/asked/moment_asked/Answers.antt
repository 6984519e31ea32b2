use Rattle.clap.specs.Words.{first_of, found_of, rows_of}
use Rattle.std.proofs.Common.{◌∙◌, codes, subst, sym}
use Rattle.clap.proofs.WalkLemmas.{first_value-rows}
use Rattle.rd_commands.proofs.Looks.{none_named, none_given, seconds_named, seconds_given}
use Rattle.rd_commands.specs.Parsed.{AreSecondsGiven}
use Rattle.rd_commands.proofs.asked.moment_asked.Goals as goal

pub returns-in_err-get_str-clause-asked : goal.returns-in_err-get_str-clause-asked
returns-in_err-get_str-clause-asked c = λ moment named.
    c.from_residual.ensures ∙ none_named (first_of (codes "at") (rows_of (found_of c.args.found.now))) moment (c.in_err-get_str.ensures ∙ first_value-rows (found_of c.args.found.now) (codes "at")) named

pub returns-in_err-get_str-clause-from : goal.returns-in_err-get_str-clause-from
returns-in_err-get_str-clause-from c =
    subst (AreSecondsGiven (rows_of (found_of c.args.found.now))) (sym c.from_residual.ensures)
    (none_given (rows_of (found_of c.args.found.now)) (c.in_err-get_str.ensures ∙ first_value-rows (found_of c.args.found.now) (codes "at")))

pub returns-clause-asked : goal.returns-clause-asked
returns-clause-asked c = λ moment named.
    seconds_named (first_of (codes "at") (rows_of (found_of c.args.found.now))) _ c.seconds_read.result moment
    (c.in_ok-get_str.ensures ∙ first_value-rows (found_of c.args.found.now) (codes "at")) c.seconds_read.ensures.written c.seconds_read.ensures.none named

pub returns-clause-from : goal.returns-clause-from
returns-clause-from c =
    seconds_given (rows_of (found_of c.args.found.now)) _ c.seconds_read.result
    (c.in_ok-get_str.ensures ∙ first_value-rows (found_of c.args.found.now) (codes "at")) c.seconds_read.ensures.written c.seconds_read.ensures.none
