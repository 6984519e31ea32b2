use Rattle.rd_store.proofs.Common.{◌∙◌, ◌++◌, ap, sym, subst, IfOk-weaker, AreInOrder, Takedown, Deed, desk, both_in_order, Desk, rules_at}
use Rattle.rd_store.proofs.store.Store.rules_under.Goals as goal

pub returns-clause-order : goal.returns-clause-order
returns-clause-order g c is_open =
    let d = desk g.S.Store c.args.self.now in
    let deed = c.args.deed in
    let was = c.with_rules_of.ensures.reads.keeps.lasts.was_open is_open in
    let late = rules_at (desk g.S.Store c.rules_at.new.self) Deed deed in
    let same = ap (λ (d : Desk). rules_at d Deed deed) (c.rules_at.ensures.reads.keeps.same was) in
    let all = ap (λ l. l ++ late) (c.in_ok-takedowns.ensures.reads.answer was) ∙ ap (λ l. rules_at d Takedown c.args.acc ++ l) same in
    IfOk-weaker c.with_rules_of.result _ _ (λ rules is. subst AreInOrder (sym (is ∙ all)) (both_in_order d c.args.acc deed)) (c.with_rules_of.ensures.reads.answer is_open)
