use Rattle.rd_store.proofs.Common.{◌≡◌, ◌≢◌, ◌∙◌, Ok, Err, refl, rules, subst, sym, ⊤, Staff, HasOtherStaff, IsLastStaff, with_key, Sql, Changes, Judges, desk}
use Rattle.rd_store.proofs.ChangeLemmas.{done_as, failed_as, images_left, read_then}
use Rattle.rd_store.proofs.store.Store.put_key.Goals as goal
use Rattle.rd_store.proofs.store.Store.put_key.Goals.{in-Ok, in-Err, else-ne-via-else-ne, else-ne-via-then-ne+in_ok-has_other_staff+else-not-branch}

pub invariant_of-self : goal.invariant_of-self
invariant_of-self g c =
    let old = c.self.inside.conn in
    images_left g.S.Store old c.write_key.new.conn c.self.inside.register c.self.inside.last _ c.write_key.result refl c.write_key.ensures.changes c.write_key.ensures.kept c.self.invariant

pub returns-clause-changes : goal.returns-clause-changes
returns-clause-changes g c =
    let old = c.args.self.now in
    let at = c.self.inside.conn in
    let new = c.write_key.new.conn in
    let put = with_key c.args.digest.now c.args.audience in
    let after = put (desk g.S.Store old) in
    let moved : Changes g.S.Store old new after c.write_key.result = elim c.else-ne.branch [
      | else-ne-via-then-ne+in_ok-has_other_staff+else-not-branch w ↦ read_then g.S.Store old w.has_other_staff.new.self at new (c.self.view_is ∙ w.self-is) _ w.in_ok-has_other_staff.ensures.reads put c.write_key.result c.write_key.ensures.changes
      | else-ne-via-else-ne w ↦ subst (λ h. Changes g.S.Store h new (put (desk g.S.Store h)) c.write_key.result) (c.self.view_is ∙ w.self-is) c.write_key.ensures.changes
    ] in
    elim c.match-write_key.branch [
      | in-Ok w ↦ subst (λ r. Changes g.S.Store old new after r) (sym w.result-is) (done_as g.S.Store old new after _ tt (subst (λ r. Changes g.S.Store old new after r) w.in-Ok.is moved))
      | in-Err w ↦ subst (λ r. Changes g.S.Store old new after r) (sym w.result-is) (failed_as g.S.Store old new after _ Sql (subst (λ r. Changes g.S.Store old new after r) w.in-Err.is moved))
    ]

pub returns-clause-judges : goal.returns-clause-judges
returns-clause-judges g c =
    let d = desk g.S.Store c.args.self.now in
    let new = c.write_key.new.conn in
    let conflicts = (c.args.audience ≢ Staff) × IsLastStaff d c.args.digest.now in
    elim c.match-write_key.branch [
      | in-Ok w ↦
          let changes = w.in-Ok.ensures.changes in
          let judged : Judges g.S.Store new (Ok tt) ⊤ conflicts = record {
            why = λ o. (
              tt,
              elim c.else-ne.branch [
                | else-ne-via-then-ne+in_ok-has_other_staff+else-not-branch v ↦ λ conflict. let has : HasOtherStaff d c.args.digest.now = search rules in conflict.1.1 has
                | else-ne-via-else-ne v ↦ λ conflict. let is : c.args.audience ≡ Staff = search rules in conflict.0 is
              ],
            );
            ends_open = changes.ends_open;
          } in
          subst (λ r. Judges g.S.Store new r ⊤ conflicts) (sym w.result-is) judged
      | in-Err w ↦
          let judged : Judges g.S.Store new (Err Sql) ⊤ conflicts = record { why = λ o. tt; ends_open = λ clean. tt } in
          subst (λ r. Judges g.S.Store new r ⊤ conflicts) (sym w.result-is) judged
    ]
