use Rattle.std.proofs.Common.{◌≡◌, ◌∙◌, sym}
use Rattle.rd_policy.specs.declared.rule.Band.TheVariants.{Takedown}
use Rattle.rd_protocol.specs.StaffLists.{has_rules}
use Rattle.rd_holdings.specs.State.{rules_at}
use Rattle.rd_store.specs.Held.{desk}
use Rattle.rd_desk.proofs.ListLemmas.{no_takedowns, some_takedowns}
use Rattle.rd_desk.proofs.ResponseLemmas.{keeps_still}
use Rattle.rd_desk.proofs.staff_lists.with_takedowns.Goals as goal

pub returns-then-not-has_takedowns : goal.returns-then-not-has_takedowns
returns-then-not-has_takedowns g c = record {
  keeps = keeps_still g.S.Store c.args.store.now c.between_calls.ensures;
  answer = λ o.
      let d = desk g.S.Store c.args.store.now in
      no_takedowns d c.args.acc c.args.lines.items (sym (c.has_takedowns.ensures d (c.requires.rules o)) ∙ c.if-not-has_takedowns.true);
  ends_open = λ clean. c.requires.open_if_clean clean;
}

pub returns : goal.returns
returns g c = record {
  keeps = c.rules_at.ensures.reads.keeps;
  answer = λ o.
      let was = c.rules_at.ensures.reads.keeps.lasts.was_open o in
      let d = desk g.S.Store c.args.store.now in
      let has : has_rules (rules_at d Takedown c.args.acc) ≡ c.has_takedowns.result = sym (c.has_takedowns.ensures d (c.requires.rules was)) in
      c.in-Ok.ensures.items ∙ some_takedowns d c.args.acc c.args.lines.items c.of-rules.result (has ∙ c.if-not-has_takedowns.false) (c.of-rules.ensures ∙ c.in_ok-rules_at.ensures.reads.answer o);
  ends_open = λ clean. c.in_ok-rules_at.ensures.reads.ends_open clean;
}
