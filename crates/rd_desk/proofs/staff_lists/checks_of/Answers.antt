use Rattle.std.proofs.Common.{◌∙◌, ℕ, ap, map, rules, take_all}
use Rattle.rd_holdings.specs.declared.rows.Accession.{Accession}
use Rattle.rd_store.specs.Held.{desk}
use Rattle.rd_desk.specs.StaffLists.{check_line}
use Rattle.rd_desk.proofs.ListLemmas.{checks_more}
use Rattle.rd_desk.proofs.ResponseLemmas.{keeps_then}
use Rattle.rd_desk.proofs.staff_lists.checks_of.Goals as goal

pub loop-entry-preserved : goal.loop-entry-preserved
loop-entry-preserved g c = record {
  keeps = keeps_then g.S.Store c.args.store.now c.loop-entry.store c.latest_check.new.self c.loop-entry.invariant.keeps (λ was clean. c.loop-entry.invariant.open_if_clean clean) c.latest_check.ensures.reads.keeps;
  open_if_clean = λ clean. c.in_ok-last.ensures.reads.ends_open clean;
  lines = λ o.
      let was = c.latest_check.ensures.reads.keeps.lasts.was_open o in
      checks_more (desk g.S.Store c.args.store.now) (desk g.S.Store c.loop-entry.store) c.args.register.now c.loop-entry.entry-index _ c.in_ok-last.last c.loop-entry.lines.items c.push.new.self.items
      c.in-Ok.ensures.items (c.in_ok-last.ensures.reads.answer o) (c.loop-entry.invariant.keeps.same was) c.loop-entry-test.true (c.loop-entry.invariant.lines was);
}

pub returns : goal.returns
returns g c = record {
  keeps = c.loop-entry.invariant.keeps;
  ends_open = λ clean. c.loop-entry.invariant.open_if_clean clean;
  answer = λ o.
      let d = desk g.S.Store c.args.store.now in
      c.loop-entry.invariant.lines o ∙ ap (map (λ (entry : ℕ × Accession). check_line d entry.0)) (take_all c.loop-entry.entry-index c.args.register.now (search rules));
}
