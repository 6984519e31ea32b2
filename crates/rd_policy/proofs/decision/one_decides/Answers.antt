use Rattle.rd_policy.proofs.OrderLemmas.{one_rule, one_verdict}
use Rattle.rd_policy.proofs.decision.one_decides.Goals as goal

pub returns-clause-rule : goal.returns-clause-rule
returns-clause-rule c = one_rule

pub returns-clause-verdict : goal.returns-clause-verdict
returns-clause-verdict c = one_verdict
