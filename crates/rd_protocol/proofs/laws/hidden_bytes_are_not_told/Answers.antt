use Rattle.rd_protocol.proofs.ReplyHiding.{not_told}
use Rattle.rd_protocol.proofs.laws.hidden_bytes_are_not_told.Goals as goal

pub returns : goal.returns
returns c = not_told
