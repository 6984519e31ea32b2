use Rattle.rd_store.proofs.Common.{Ok, Err, refl, rules, subst, sym, HasOtherStaff, IsLastStaff, without_key, Sql, ⊤, Changes, Judges, desk}
use Rattle.rd_store.proofs.ChangeLemmas.{done_as, failed_as, images_left, read_then}
use Rattle.rd_store.proofs.store.Store.drop_key.Goals as goal
use Rattle.rd_store.proofs.store.Store.drop_key.Goals.{in-Ok, in-Err}

pub invariant_of-self : goal.invariant_of-self
invariant_of-self g c =
    let old = c.self.inside.conn in
    images_left g.S.Store old c.delete_key.new.conn c.self.inside.register c.self.inside.last (without_key c.args.digest.now (desk g.S.Store old)) c.delete_key.result refl c.delete_key.ensures.changes c.delete_key.ensures.kept c.self.invariant

pub returns-clause-changes : goal.returns-clause-changes
returns-clause-changes g c =
    let old = c.args.self.now in
    let new = c.delete_key.new.conn in
    let after = without_key c.args.digest.now (desk g.S.Store old) in
    let all = read_then g.S.Store old c.has_other_staff.new.self c.self.inside.conn new c.self.view_is _ c.in_ok-has_other_staff.ensures.reads (without_key c.args.digest.now) in
    elim c.match-delete_key.branch [
      | in-Ok w ↦ subst (λ r. Changes g.S.Store old new after r) (sym w.result-is) (done_as g.S.Store old new after _ tt (all (Ok w.in-Ok.field-0) w.in-Ok.ensures.changes))
      | in-Err w ↦ subst (λ r. Changes g.S.Store old new after r) (sym w.result-is) (failed_as g.S.Store old new after _ Sql (all (Err w.in-Err.field-0) w.in-Err.ensures.changes))
    ]

pub returns-clause-judges : goal.returns-clause-judges
returns-clause-judges g c =
    let d = desk g.S.Store c.args.self.now in
    let new = c.delete_key.new.conn in
    let conflicts = IsLastStaff d c.args.digest.now in
    elim c.match-delete_key.branch [
      | in-Ok w ↦
          let changes = w.in-Ok.ensures.changes in
          let judged : Judges g.S.Store new (Ok tt) ⊤ conflicts = record { why = λ o. (tt, λ last. let has : HasOtherStaff d c.args.digest.now = search rules in last.1 has); ends_open = changes.ends_open } in
          subst (λ r. Judges g.S.Store new r ⊤ conflicts) (sym w.result-is) judged
      | in-Err w ↦
          let judged : Judges g.S.Store new (Err Sql) ⊤ conflicts = record { why = λ o. tt; ends_open = λ clean. tt } in
          subst (λ r. Judges g.S.Store new r ⊤ conflicts) (sym w.result-is) judged
    ]
