use Rattle.std.proofs.Common.{◌≡◌, ◌++◌, map}
use Rattle.rd_history.specs.Standings.{deed_put}
use Rattle.rd_history.proofs.base.with_deeds.Given as goal

abbrev pub invariant-loop-entry : goal.invariant-loop-entry
invariant-loop-entry l = l.all.items ≡ l.fn.listed.items ++ map deed_put l.yielded
