use Rattle.std.proofs.Common.{arith, refl}
use Rattle.rd_policy.proofs.OrderLemmas.{in_order_from_next}
use Rattle.rd_policy.proofs.decision.in_order.Goals as goal

pub returns : goal.returns
returns c = (λ _. in_order_from_next c.args.rules.now c.loop-i.i (omega arith) c.loop-i.invariant, λ _. refl)
