use Rattle.std.proofs.Common.{◌-◌}
use Rattle.rd_history.proofs.Replays.{CameTo}
use Rattle.rd_history.proofs.history.History.changes_through.Given as goal

abbrev pub invariant-loop-replay : goal.invariant-loop-replay
invariant-loop-replay g l = CameTo g.S.Store l.fn.self l.self l.fn.number l.replay

abbrev pub decreases-loop-replay : goal.decreases-loop-replay
decreases-loop-replay g l = l.last - l.replay.stage.number
