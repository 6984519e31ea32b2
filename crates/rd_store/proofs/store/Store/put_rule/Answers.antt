use Rattle.rd_store.proofs.Common.{Ok, Err, refl, subst, sym, place_of, terms_of, with_rule, Sql, Changes, desk}
use Rattle.rd_store.proofs.ChangeLemmas.{done_as, failed_as, images_left, read_then}
use Rattle.rd_store.proofs.store.Store.put_rule.Goals as goal
use Rattle.rd_store.proofs.store.Store.put_rule.Goals.{in-Ok, in-Err}

pub invariant_of-self : goal.invariant_of-self
invariant_of-self g c =
    let old = c.self.inside.conn in
    images_left g.S.Store old c.write_rule.new.conn c.self.inside.register c.self.inside.last (with_rule (place_of c.args.rule.now) (terms_of c.args.rule.now) (desk g.S.Store old)) c.write_rule.result refl c.write_rule.ensures.changes c.write_rule.ensures.kept c.self.invariant

pub returns-clause-changes : goal.returns-clause-changes
returns-clause-changes g c =
    let old = c.args.self.now in
    let new = c.write_rule.new.conn in
    let after = with_rule (place_of c.args.rule.now) (terms_of c.args.rule.now) (desk g.S.Store old) in
    let all = read_then g.S.Store old c.stands_for.new.self c.self.inside.conn new c.self.view_is _ c.in_ok-stands_for.ensures.reads (with_rule (place_of c.args.rule.now) (terms_of c.args.rule.now)) in
    elim c.match-write_rule.branch [
      | in-Ok w ↦ subst (λ r. Changes g.S.Store old new after r) (sym w.result-is) (done_as g.S.Store old new after _ tt (all (Ok w.in-Ok.field-0) w.in-Ok.ensures.changes))
      | in-Err w ↦ subst (λ r. Changes g.S.Store old new after r) (sym w.result-is) (failed_as g.S.Store old new after _ Sql (all (Err w.in-Err.field-0) w.in-Err.ensures.changes))
    ]
