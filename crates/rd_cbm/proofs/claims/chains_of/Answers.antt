use Rattle.rd_cbm.proofs.ClaimLemmas.{by_test}
use Rattle.rd_cbm.proofs.claims.chains_of.Goals as goal

pub returns-clause-contents : goal.returns-clause-contents
returns-clause-contents c = by_test _ _ _ _ c.claims_data.ensures c.in_ok-contents.ensures

pub returns-clause-sides : goal.returns-clause-sides
returns-clause-sides c = by_test _ _ _ _ c.claims_sides.ensures c.in_ok-sides.ensures
