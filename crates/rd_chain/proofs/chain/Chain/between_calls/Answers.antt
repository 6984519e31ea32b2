use Rattle.rd_chain.proofs.Common.{subst, IsAtRest}
use Rattle.rd_tables.proofs.ConnectionLaws.{Laws}
use Rattle.rd_chain.proofs.Laws.{at_rest}
use Rattle.rd_chain.proofs.chain.Chain.between_calls.Goals as goal

pub returns : goal.returns
returns g c =
    let laws : Laws g.S.Store = record { settles = g.met.S.Store.settled; shuts = g.met.S.Store.shut_if_dirty } in
    subst (IsAtRest g.S.Store) c.self.view_is (at_rest g.S.Store laws c.self.inside.conn c.self.invariant.0)
