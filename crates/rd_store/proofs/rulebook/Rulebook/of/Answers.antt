use Rattle.rd_store.proofs.Common.{subst, sym, AreAllRules}
use Rattle.rd_store.proofs.rulebook.Rulebook.of.Goals as goal

pub invariant_of-result : goal.invariant_of-result
invariant_of-result c = subst AreAllRules c.deref.ensures.value c.if-not-are_ascending.ensures

pub returns-then-not-are_ascending : goal.returns-then-not-are_ascending
returns-then-not-are_ascending c all = c.if-not-are_ascending.ensures (subst AreAllRules (sym c.deref.ensures.value) all)
