use Rattle.std.proofs.Common.{take}
use Rattle.rd_history.specs.Rebuilt.{GiveNoStaffKey}
use Rattle.rd_history.proofs.rebuilding.first_staff_key.Given as goal

abbrev pub invariant-loop-change : goal.invariant-loop-change
invariant-loop-change l = GiveNoStaffKey (take l.change-index l.changes)
