use Rattle.std.proofs.Common.{subst, sym}
use Rattle.rd_history.specs.Rebuilt.{IsNotRebuilt}
use Rattle.rd_history.proofs.Rebuilds.{all_carried, not_carried, not_made}
use Rattle.rd_history.proofs.rebuilding.rebuild.Goals as goal

pub returns-in-Err-clause-refused : goal.returns-in-Err-clause-refused
returns-in-Err-clause-refused g c =
    not_made g.S.Store c.args.conn c.in-Some.staff c.args.changes.now c.in-Some.ensures c.in-Err.refused.conn c.in-Err.refused.fault c.fault_of.result c.in-Err.ensures.refused c.fault_of.ensures.exists c.fault_of.ensures.named

pub returns-in-Ok-carry_out_all-clause-rebuilt : goal.returns-in-Ok-carry_out_all-clause-rebuilt
returns-in-Ok-carry_out_all-clause-rebuilt g c =
    let all = c.in-Ok-carry_out_all.ensures in
    all_carried g.S.Store c.args.conn c.in-Some.staff c.args.changes.now c.in-Some.ensures c.in-Ok.store c.carry_out_all.new.store c.in-Ok.ensures.created all.lasts all.stands all.whole all.opens

pub returns-in-Err-carry_out_all-clause-refused : goal.returns-in-Err-carry_out_all-clause-refused
returns-in-Err-carry_out_all-clause-refused g c =
    let all = c.in-Err-carry_out_all.ensures in
    let fault = c.in-Err-carry_out_all.fault in
    subst (λ h. IsNotRebuilt g.S.Store c.args.conn h c.args.changes.now fault) (sym c.into_connection.ensures.same)
    (not_carried g.S.Store c.args.conn c.in-Some.staff c.args.changes.now c.in-Some.ensures c.in-Ok.store c.carry_out_all.new.store c.in-Ok.ensures.created all.lasts fault all.named)
