use Rattle.clap.specs.Words.{found_of, rows_of}
use Rattle.rd_geometry.specs.Kinds.{word_of}
use Rattle.std.proofs.Common.{◌∙◌, codes, sym}
use Rattle.clap.proofs.WalkLemmas.{first_value-rows}
use Rattle.rd_commands.proofs.GetterLemmas.{kind_is, kind_given, text_is, text_there}
use Rattle.rd_commands.proofs.asked.kind_asked.Goals as goal

pub returns-in_err-get_str-clause-asked : goal.returns-in_err-get_str-clause-asked
returns-in_err-get_str-clause-asked c = λ kind there. absurd (text_there (found_of c.args.found.now) (codes "KIND") (word_of kind) c.in_err-get_str.ensures there)

pub returns-clause-asked : goal.returns-clause-asked
returns-clause-asked c = λ kind there.
    kind_is c.from_word.result c.in_ok-get_str.field-0.now kind c.from_word.ensures.found c.from_word.ensures.none
    (text_is (found_of c.args.found.now) (codes "KIND") _ (word_of kind) c.in_ok-get_str.ensures there)

pub returns-clause-from : goal.returns-clause-from
returns-clause-from c =
    kind_given (rows_of (found_of c.args.found.now)) c.in_ok-get_str.field-0.now c.from_word.result
    (sym (c.in_ok-get_str.ensures ∙ first_value-rows (found_of c.args.found.now) (codes "KIND"))) c.from_word.ensures.found
