use Rattle.rd_messages.proofs.RequestExistence.{each_asked}
use Rattle.rd_messages.proofs.request_laws.each_asked.Goals as goal

pub returns : goal.returns
returns c = each_asked
