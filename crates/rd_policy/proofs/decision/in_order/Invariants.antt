use Rattle.std.specs.List.{AllAdjacentBelow}
use Rattle.rd_policy.specs.Neighbours.{ComesFirst}
use Rattle.rd_policy.proofs.decision.in_order.Given as goal

-- each rule passed comes before the next one
abbrev pub invariant-loop-i : goal.invariant-loop-i
invariant-loop-i l = AllAdjacentBelow ComesFirst l.rules l.i
