use Rattle.rd_messages.proofs.RequestUniqueness.{no_key_asked}
use Rattle.rd_messages.proofs.read_request.parse_key.Goals as goal

pub returns-in-None : goal.returns-in-None
returns-in-None c = no_key_asked c.args.values.now c.args.method c.args.body.now c.in-Put.is (rw c.in-None.is at c.in_ok-audience-in-Put.ensures.none)
