use Rattle.std.proofs.Common.{subst}
use Rattle.rd_tables.specs.Connections.{IsOpen}
use Rattle.rd_chain.specs.Held.{lines}
use Rattle.rd_history.specs.Histories.{IsHistory}
use Rattle.rd_history.proofs.StageLemmas.{so_history}
use Rattle.rd_history.proofs.history.History.between_calls.Goals as goal

pub returns-clause-history : goal.returns-clause-history
returns-clause-history g c =
    let chain = c.self.inside.chain in
    subst (λ h. IsOpen g.S.Store h → IsHistory (lines g.S.Store h)) c.self.view_is (λ is_open. so_history c.self.inside.ends_in_change (lines g.S.Store chain) (c.self.invariant is_open))
