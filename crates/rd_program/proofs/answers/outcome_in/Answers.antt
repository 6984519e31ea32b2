use Rattle.rd_program.proofs.AnswerKinds.{none_found, of_reply}
use Rattle.rd_program.proofs.answers.outcome_in.Goals as goal

pub returns-in_default-clause-is : goal.returns-in_default-clause-is
returns-in_default-clause-is c = none_found _ c.in_default.not-Refused c.in_default.not-Checked

pub returns-in-Refused-clause-of : goal.returns-in-Refused-clause-of
returns-in-Refused-clause-of c = of_reply _ _ c.refusal_for.ensures.of
