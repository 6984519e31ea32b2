use Rattle.std.proofs.Common.{◌∙◌, ap, length, rules, subst, sym}
use Rattle.std.specs.FinMap.{keys}
use Rattle.rd_holdings.specs.State.{Desk, all_rules}
use Rattle.rd_store.specs.Held.{desk}
use Rattle.rd_desk.proofs.overviews.over_all.Goals as goal

pub over_batches-requires-clause-rules : goal.over_batches-requires-clause-rules
over_batches-requires-clause-rules g c = λ o.
    let read = c.count.ensures.reads.keeps.lasts.was_open o in
    c.in_ok-rules.ensures.reads.answer read ∙ ap all_rules (sym (c.count.ensures.reads.keeps.same o ∙ c.rulebook.ensures.reads.keeps.same read))

pub over_batches-requires-clause-count : goal.over_batches-requires-clause-count
over_batches-requires-clause-count g c = λ o. c.in_ok-accessions.ensures.reads.answer o ∙ ap (λ (e : Desk). length (keys e.images)) (sym (c.count.ensures.reads.keeps.same o))

pub returns : goal.returns
returns g c = record {
  keeps = search rules;
  answer = λ o.
      let counted = c.over_batches.ensures.keeps.lasts.was_open o in
      let read = c.count.ensures.reads.keeps.lasts.was_open counted in
      let same = c.count.ensures.reads.keeps.same counted ∙ c.rulebook.ensures.reads.keeps.same read in
      let says = g.O.Overview.says c.args.overview.now in
      let d = desk g.S.Store c.args.store.now in
      subst (says d (keys d.images)) (sym c.of.ensures) (subst (λ (e : Desk). says e (keys e.images) c.in_ok-over_batches.field-0.items) same (c.in_ok-over_batches.ensures.answer o));
  ends_open = search rules;
}
