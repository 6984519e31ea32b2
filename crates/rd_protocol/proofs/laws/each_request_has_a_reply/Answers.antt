use Rattle.rd_protocol.proofs.ReplyExistence.{each_reply}
use Rattle.rd_protocol.proofs.laws.each_request_has_a_reply.Goals as goal

pub returns : goal.returns
returns c = each_reply
