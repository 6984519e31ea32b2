use Rattle.rd_messages.proofs.read_request.parse_deed.Goals as goal

pub returns-in-None : goal.returns-in-None
returns-in-None c asked (donor, signed, is, told) fits = (rw c.in-None.is at c.in_ok-donor.ensures.none) donor signed told
