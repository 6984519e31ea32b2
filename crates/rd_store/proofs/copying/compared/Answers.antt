use Rattle.rd_store.proofs.Common.{◌∙◌, IsTrue, rules, subst, sym, Keeps}
use Rattle.rd_store.proofs.copying.compared.Goals as goal

pub returns-in_default-clause-refused : goal.returns-in_default-clause-refused
returns-in_default-clause-refused g c = (subst (Keeps g.S.Store c.args.copy) (sym c.unlike.ensures.same) c.is_same_desk.ensures.compares.other, c.unlike.ensures.fault)

pub returns-then-not-is_same-clause-refused : goal.returns-then-not-is_same-clause-refused
returns-then-not-is_same-clause-refused g c =
    (subst (Keeps g.S.Store c.args.copy) (sym c.unlike-then-not-is_same.ensures.same) c.is_same_desk.ensures.compares.other, c.unlike-then-not-is_same.ensures.fault)

pub returns-clause-same : goal.returns-clause-same
returns-clause-same g c =
    let sure : IsTrue c.in-Ok.is_same = search rules in
    let compares = c.in-Ok.ensures.compares in (
      compares.other,
      record { same = λ o1 o2. compares.answer o1 o2 sure ∙ sym (compares.other.same o2); ends_open = compares.other_open },
    )
