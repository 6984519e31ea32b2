use Rattle.std.proofs.Common.{◌-◌}
use Rattle.rd_history.proofs.Judging.{Came}
use Rattle.rd_history.proofs.history.judge.Given as goal

abbrev pub invariant-loop-stage : goal.invariant-loop-stage
invariant-loop-stage g l = Came g.S.Store l.fn.chain l.chain l.stage

abbrev pub decreases-loop-stage : goal.decreases-loop-stage
decreases-loop-stage g l = l.last - l.stage.number
