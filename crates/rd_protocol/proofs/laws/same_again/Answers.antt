use Rattle.rd_protocol.proofs.RepeatedCommands.{same_again}
use Rattle.rd_protocol.proofs.laws.same_again.Goals as goal

pub returns : goal.returns
returns c = same_again
