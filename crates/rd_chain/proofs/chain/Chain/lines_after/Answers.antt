use Rattle.rd_chain.proofs.Common.{subst, ReadsAfter}
use Rattle.rd_tables.proofs.ConnectionLaws.{Laws}
use Rattle.rd_chain.proofs.Reading.{reads_after}
use Rattle.rd_chain.proofs.chain.Chain.lines_after.Goals as goal

pub returns : goal.returns
returns g c =
    let laws : Laws g.S.Store = record { settles = g.met.S.Store.settled; shuts = g.met.S.Store.shut_if_dirty } in
    subst (λ old. ReadsAfter g.S.Store old c.later_rows.new.conn c.args.number c.summed_lines.result) c.self.view_is
    (reads_after g.S.Store laws c.self.inside.conn c.later_rows.new.conn c.args.number c.self.invariant.0 c.in_ok-rows.ensures.asks c.summed_lines.result (rw c.deref.ensures.value at c.summed_lines.ensures.columns) c.summed_lines.ensures.fault)
