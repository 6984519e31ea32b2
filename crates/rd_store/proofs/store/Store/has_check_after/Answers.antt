use Rattle.rd_store.proofs.Common.{take, ◌≡◌, ℤ, length, map, rules, subst, vec_len, w32, to_z-of_z, desk, checks_after, checkup_shown}
use Rattle.rd_store.proofs.LaterCheckQuery.{later_told}
use Rattle.rd_store.proofs.store.Store.has_check_after.Goals as goal

pub returns-clause-reads : goal.returns-clause-reads
returns-clause-reads g c =
    let len : vec_len c.in_ok-rows.rows ≡ length c.in_ok-rows.rows.items = search rules in
    let now = desk g.S.Store c.args.self.now in
    record {
      keeps = c.later_rows.ensures.reads.keeps;
      ends_open = search rules;
      answer = λ is_open.
          later_told checkup_shown (checks_after c.args.day now) c.in_ok-rows.rows.items (vec_len c.in_ok-rows.rows) c.is_empty.result
          (subst (λ (d : ℤ). c.in_ok-rows.rows.items ≡ map checkup_shown (take 1 (checks_after d now))) (to_z-of_z w32 c.args.day c.ranges.day) (c.in_ok-rows.ensures.reads.answer is_open)) len c.is_empty.ensures;
    }
