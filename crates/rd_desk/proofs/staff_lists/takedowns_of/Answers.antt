use Rattle.std.proofs.Common.{◌∙◌, ℕ, ap, rules, sym, take_all}
use Rattle.std.specs.List.{flat_map}
use Rattle.rd_holdings.specs.State.{all_rules}
use Rattle.rd_holdings.specs.declared.rows.Accession.{Accession}
use Rattle.rd_store.specs.Held.{desk}
use Rattle.rd_desk.specs.StaffLists.{takedown_lines_at}
use Rattle.rd_desk.proofs.ListLemmas.{takedowns_more}
use Rattle.rd_desk.proofs.ResponseLemmas.{keeps_then}
use Rattle.rd_desk.proofs.staff_lists.takedowns_of.Goals as goal

pub with_takedowns-requires-clause-rules : goal.with_takedowns-requires-clause-rules
with_takedowns-requires-clause-rules g c = λ o.
    c.requires.rules (c.loop-entry.invariant.keeps.lasts.was_open o) ∙ ap all_rules (sym (c.loop-entry.invariant.keeps.same o))

pub loop-entry-preserved : goal.loop-entry-preserved
loop-entry-preserved g c = record {
  keeps = keeps_then g.S.Store c.args.store.now c.loop-entry.store c.with_takedowns.new.store c.loop-entry.invariant.keeps (λ was clean. c.loop-entry.invariant.open_if_clean clean) c.with_takedowns.ensures.keeps;
  open_if_clean = λ clean. c.in_ok-lines.ensures.ends_open clean;
  lines = λ o.
      let was = c.with_takedowns.ensures.keeps.lasts.was_open o in
      takedowns_more (desk g.S.Store c.args.store.now) (desk g.S.Store c.loop-entry.store) c.args.register.now c.loop-entry.entry-index _ c.loop-entry.lines.items c.in_ok-lines.lines.items
      (c.in_ok-lines.ensures.answer o) (c.loop-entry.invariant.keeps.same was) c.loop-entry-test.true (c.loop-entry.invariant.lines was);
}

pub returns : goal.returns
returns g c = record {
  keeps = c.loop-entry.invariant.keeps;
  ends_open = λ clean. c.loop-entry.invariant.open_if_clean clean;
  answer = λ o.
      let d = desk g.S.Store c.args.store.now in
      c.loop-entry.invariant.lines o ∙ ap (flat_map (λ (entry : ℕ × Accession). takedown_lines_at d entry.0)) (take_all c.loop-entry.entry-index c.args.register.now (search rules));
}
