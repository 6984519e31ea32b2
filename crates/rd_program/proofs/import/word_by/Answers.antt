use Rattle.std.proofs.Common.{◌∙◌}
use Rattle.rd_program.proofs.ImportedRows.{outcome_answer}
use Rattle.rd_program.proofs.import.word_by.Goals as goal

pub returns-in_default : goal.returns-in_default
returns-in_default c = c.done_word.ensures ∙ (outcome_answer _ c.args.dry_run c.in_default.not-Refused).1
