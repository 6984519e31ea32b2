use Rattle.rd_program.proofs.AnswerKinds.{kept_to_show}
use Rattle.rd_program.proofs.answers.if_to_show.Goals as goal

pub returns-in_default-clause-is : goal.returns-in_default-clause-is
returns-in_default-clause-is c = kept_to_show _ _ c.in_default.not-Refused
