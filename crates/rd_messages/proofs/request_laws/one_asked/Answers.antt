use Rattle.rd_messages.proofs.RequestUniqueness.{one_asked}
use Rattle.rd_messages.proofs.request_laws.one_asked.Goals as goal

pub returns : goal.returns
returns c = one_asked
