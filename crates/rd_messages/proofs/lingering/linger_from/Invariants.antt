use Rattle.std.proofs.Common.{◌+◌}
use Rattle.rd_messages.specs.Waits.{GoesOn}
use Rattle.rd_messages.proofs.lingering.linger_from.Given as goal

abbrev pub invariant-loop : goal.invariant-loop
invariant-loop g l = GoesOn (200 + l.fn.began) (g.C.Clock.times l.fn.clock) (g.S.Stream.waits l.fn.stream) (g.C.Clock.times l.clock) (g.S.Stream.waits l.stream)
