use Rattle.std.proofs.Common.{◌≡◌, ◌++◌}
use Rattle.rd_desk.proofs.rehearsals.joined.Given as goal

abbrev pub invariant-loop-line : goal.invariant-loop-line
invariant-loop-line l = l.all.items ≡ l.fn.lines.items ++ l.yielded
