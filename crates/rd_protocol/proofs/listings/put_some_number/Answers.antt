use Rattle.rd_protocol.proofs.TokenLemmas.{last}
use Rattle.rd_protocol.proofs.listings.put_some_number.Goals as goal

pub returns-in-Some : goal.returns-in-Some
returns-in-Some c = rw c.in-Some.is (last _ _ _ _ c.u64.ensures)

pub returns-in-None : goal.returns-in-None
returns-in-None c = rw c.in-None.is (last _ _ _ _ c.null.ensures)
