use Rattle.rd_store.proofs.Common.{◌∙◌, ap, arith, length, refl, length-map, place_cmp, place_of, rule_of, terms_of, Place, Terms, entries, Rule, with_rules}
use Rattle.rd_store.proofs.CopyLemmas.{all_copied, at_shown, first_of, none_copied, one_copied}
use Rattle.rd_store.proofs.Orders.{place_order}
use Rattle.rd_store.proofs.copying.copy_rules.Goals as goal

-- the place and the terms of a rule
abbrev entry_of : Rule → Place × Terms
entry_of rule = (place_of rule, terms_of rule)

pub returns-in_err-insert_rule-clause-moves : goal.returns-in_err-insert_rule-clause-moves
returns-in_err-insert_rule-clause-moves g c before from none are =
    let item : Rule = c.index-rules-at.result in
    none_copied g.S.Store place_order before from.rules with_rules c.loop-at.at (c.loop-at.invariant.1 before from none are) (entry_of item) (at_shown rule_of entry_of (λ e. refl) (entries from.rules) c.args.rules.now c.loop-at.at item are (omega (arith, c.loop-at-test.true)) c.index-rules-at.is) c.from_residual.result c.from_residual.ensures.0 (c.in_err-insert_rule.ensures.moves (with_rules (first_of place_cmp c.loop-at.at from.rules) before))

pub loop-at-preserved : goal.loop-at-preserved
loop-at-preserved g c = (
  c.insert_rule.ensures.same_reference ∙ c.loop-at.invariant.0,
  λ before from none are.
      let item : Rule = c.index-rules-at.result in
      one_copied g.S.Store place_order before from.rules with_rules c.loop-at.at (c.loop-at.invariant.1 before from none are) (entry_of item) (at_shown rule_of entry_of (λ e. refl) (entries from.rules) c.args.rules.now c.loop-at.at item are (omega (arith, c.loop-at-test.true)) c.index-rules-at.is) (c.in_ok-insert_rule.ensures.moves (with_rules (first_of place_cmp c.loop-at.at from.rules) before)),
)

pub returns-clause-moves : goal.returns-clause-moves
returns-clause-moves g c before from none are = all_copied g.S.Store place_order before from.rules with_rules c.loop-at.at (c.loop-at.invariant.1 before from none are) (omega (arith, ap length are ∙ length-map (entries from.rules) rule_of, c.loop-at-test.false, c.loop-at.auto.at-end))
