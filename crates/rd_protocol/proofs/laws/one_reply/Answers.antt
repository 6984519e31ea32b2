use Rattle.rd_protocol.proofs.OneAnswer.{one_reply}
use Rattle.rd_protocol.proofs.laws.one_reply.Goals as goal

pub returns : goal.returns
returns c = one_reply
