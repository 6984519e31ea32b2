use Rattle.std.proofs.Common.{◌+ℤ◌, pos}
use Rattle.rd_operands.specs.Moments.{HasNoneFrom}
use Rattle.rd_operands.proofs.moment.first_from.Given as goal

abbrev pub invariant-loop-place : goal.invariant-loop-place
invariant-loop-place l = HasNoneFrom l.start (l.start +ℤ pos l.place) l.day l.zone
