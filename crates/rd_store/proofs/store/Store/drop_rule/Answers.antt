use Rattle.rd_store.proofs.Common.{Ok, Err, refl, subst, sym, without_rule, Sql, Changes, desk}
use Rattle.rd_store.proofs.ChangeLemmas.{done_as, failed_as, images_left, read_then}
use Rattle.rd_store.proofs.store.Store.drop_rule.Goals as goal
use Rattle.rd_store.proofs.store.Store.drop_rule.Goals.{in-Ok, in-Err}

pub invariant_of-self : goal.invariant_of-self
invariant_of-self g c =
    let old = c.self.inside.conn in
    images_left g.S.Store old c.delete_rule.new.conn c.self.inside.register c.self.inside.last (without_rule (record { band = c.args.band; scope = c.args.scope; rank = c.args.rank }) (desk g.S.Store old)) c.delete_rule.result refl c.delete_rule.ensures.changes c.delete_rule.ensures.kept c.self.invariant

pub returns-clause-changes : goal.returns-clause-changes
returns-clause-changes g c =
    let old = c.args.self.now in
    let new = c.delete_rule.new.conn in
    let after = without_rule (record { band = c.args.band; scope = c.args.scope; rank = c.args.rank }) (desk g.S.Store old) in
    let all = read_then g.S.Store old c.stands_for.new.self c.self.inside.conn new c.self.view_is _ c.in_ok-stands_for.ensures.reads (without_rule (record { band = c.args.band; scope = c.args.scope; rank = c.args.rank })) in
    elim c.match-delete_rule.branch [
      | in-Ok w ↦ subst (λ r. Changes g.S.Store old new after r) (sym w.result-is) (done_as g.S.Store old new after _ tt (all (Ok w.in-Ok.field-0) w.in-Ok.ensures.changes))
      | in-Err w ↦ subst (λ r. Changes g.S.Store old new after r) (sym w.result-is) (failed_as g.S.Store old new after _ Sql (all (Err w.in-Err.field-0) w.in-Err.ensures.changes))
    ]
