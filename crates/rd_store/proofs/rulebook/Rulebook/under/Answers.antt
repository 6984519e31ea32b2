use Rattle.rd_store.proofs.Common.{◌++◌, ◌∙◌, ap₂, subst, sym, AreInOrder, Takedown, Deed, both_in_order}
use Rattle.rd_store.proofs.rulebook.Rulebook.under.Goals as goal

pub those_of-takedowns-requires : goal.those_of-takedowns-requires
those_of-takedowns-requires c = rw c.as_slice-rules.ensures.value c.self.invariant

pub those_of-others-requires : goal.those_of-others-requires
those_of-others-requires c = rw c.as_slice-rules.ensures.value c.self.invariant

pub returns-clause-takedowns : goal.returns-clause-takedowns
returns-clause-takedowns c = λ desk are. c.those_of-takedowns.ensures desk Takedown c.of_band.ensures (c.as_slice-rules.ensures.value ∙ c.self.view_is ∙ are)

pub returns-clause-rules : goal.returns-clause-rules
returns-clause-rules c = λ desk are. c.those_of-others.ensures desk Deed c.of_band-2.ensures (c.as_slice-rules.ensures.value ∙ c.self.view_is ∙ are)

pub returns-clause-order : goal.returns-clause-order
returns-clause-order c =
    let desk = c.self.invariant.0 in
    let are = c.as_slice-rules.ensures.value ∙ c.self.invariant.1 in
    let takedowns = c.those_of-takedowns.ensures desk Takedown c.of_band.ensures are in
    let others = c.those_of-others.ensures desk Deed c.of_band-2.ensures are in
    subst AreInOrder (sym (ap₂ (λ t r. t ++ r) takedowns others)) (both_in_order desk c.args.acc c.args.deed)
