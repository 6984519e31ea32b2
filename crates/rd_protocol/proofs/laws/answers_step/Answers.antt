use Rattle.rd_protocol.proofs.DeskSteps.{answers_step}
use Rattle.rd_protocol.proofs.laws.answers_step.Goals as goal

pub returns : goal.returns
returns c = answers_step
