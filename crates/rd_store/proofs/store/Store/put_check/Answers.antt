use Rattle.rd_store.proofs.Common.{◌≡◌, Ok, Err, refl, subst, sym, to_z, of_z, w32, to_z-of_z, with_check, Sql, Changes, desk}
use Rattle.rd_store.proofs.ChangeLemmas.{done_as, failed_as, images_left, read_then}
use Rattle.rd_store.proofs.store.Store.put_check.Goals as goal
use Rattle.rd_store.proofs.store.Store.put_check.Goals.{in-Ok, in-Err}

pub invariant_of-self : goal.invariant_of-self
invariant_of-self g c =
    let old = c.self.inside.conn in
    images_left g.S.Store old c.write_check.new.conn c.self.inside.register c.self.inside.last _ c.write_check.result refl c.write_check.ensures.changes c.write_check.ensures.kept c.self.invariant

pub returns-clause-changes : goal.returns-clause-changes
returns-clause-changes g c =
    let old = c.args.self.now in
    let new = c.write_check.new.conn in
    let put = with_check c.args.acc c.args.day c.args.outcome in
    let after = put (desk g.S.Store old) in
    let is : to_z w32 (of_z w32 c.args.day) ≡ c.args.day = to_z-of_z w32 c.args.day c.ranges.day in
    let all = read_then g.S.Store old c.stands.new.self c.self.inside.conn new c.self.view_is _ c.in_ok-stands.ensures.reads put in
    elim c.match-write_check.branch [
      | in-Ok w ↦ subst (λ r. Changes g.S.Store old new after r) (sym w.result-is) (done_as g.S.Store old new after _ tt (all (Ok w.in-Ok.field-0) (rw is at w.in-Ok.ensures.changes)))
      | in-Err w ↦ subst (λ r. Changes g.S.Store old new after r) (sym w.result-is) (failed_as g.S.Store old new after _ Sql (all (Err w.in-Err.field-0) (rw is at w.in-Err.ensures.changes)))
    ]
