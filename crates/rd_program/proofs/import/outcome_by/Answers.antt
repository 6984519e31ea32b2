use Rattle.std.proofs.Common.{false}
use Rattle.rd_program.proofs.ImportedRows.{outcome_answer}
use Rattle.rd_program.proofs.import.outcome_by.Goals as goal

pub returns-in_default : goal.returns-in_default
returns-in_default c = (outcome_answer _ false c.in_default.not-Refused).0
