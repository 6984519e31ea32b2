use Rattle.rd_policy.proofs.OrderLemmas.{NoneBefore}
use Rattle.rd_policy.proofs.decision.decide.Given as goal

abbrev pub invariant-loop-rule : goal.invariant-loop-rule
invariant-loop-rule l = NoneBefore l.rules l.audience l.day l.file l.rule-index
