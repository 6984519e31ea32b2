use Rattle.std.proofs.Common.{◌≡◌, subst, true}
use Rattle.rd_tables.specs.Connections.{IsOpen}
use Rattle.rd_chain.specs.Held.{lines}
use Rattle.rd_history.specs.Histories.{MayBeTakenBack}
use Rattle.rd_history.specs.Stages.{EndsSo}
use Rattle.rd_history.proofs.StageLemmas.{may_be_taken_back, taken_back_ends}
use Rattle.rd_history.proofs.history.History.ends_in_change.Goals as goal

pub returns : goal.returns
returns g c =
    let chain = c.self.inside.chain in
    let ends = c.self.inside.ends_in_change in
    let these = lines g.S.Store chain in
    subst (λ h. IsOpen g.S.Store h → (ends ≡ true → MayBeTakenBack (lines g.S.Store h)) × (MayBeTakenBack (lines g.S.Store h) → ends ≡ true)) c.self.view_is
    (λ is_open. ((λ is. may_be_taken_back these (subst (λ b. EndsSo b these) is (c.self.invariant is_open))), taken_back_ends ends these (c.self.invariant is_open)))
