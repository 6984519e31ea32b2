use Rattle.std.proofs.Common.{◌∙◌, Some, ap, codes, inr, refl, sym}
use Rattle.clap.specs.Words.{found_of, rows_of}
use Rattle.clap.proofs.WalkLemmas.{first_value-rows}
use Rattle.rd_commands.proofs.Places.{count_most, count_read, count_used}
use Rattle.rd_commands.proofs.serving.count_asked.Goals as goal

pub returns-in-Some-clause-asked : goal.returns-in-Some-clause-asked
returns-in-Some-clause-asked c = λ count told.
    count_read (rows_of (found_of c.args.found.now)) _ c.count_given.result count
    (c.in-Some.ensures ∙ first_value-rows (found_of c.args.found.now) (codes "count")) c.count_given.ensures.asked told

pub returns-in-Some-clause-given : goal.returns-in-Some-clause-given
returns-in-Some-clause-given c = count_used (rows_of (found_of c.args.found.now)) c.count_given.result c.count_given.ensures.given

pub returns-in-None-clause-asked : goal.returns-in-None-clause-asked
returns-in-None-clause-asked c = λ count told.
    ap Some (sym (count_most (rows_of (found_of c.args.found.now)) count (c.in-None.ensures ∙ first_value-rows (found_of c.args.found.now) (codes "count")) told))

pub returns-in-None-clause-given : goal.returns-in-None-clause-given
returns-in-None-clause-given c = inr (sym (c.in-None.ensures ∙ first_value-rows (found_of c.args.found.now) (codes "count")), refl)
