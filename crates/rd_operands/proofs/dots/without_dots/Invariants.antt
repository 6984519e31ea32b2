use Rattle.std.proofs.Common.{◌≡◌, length, reverse}
use Rattle.rd_operands.specs.FileNames.{skip_dots}
use Rattle.rd_operands.proofs.dots.without_dots.Given as goal

abbrev pub invariant-loop-bytes : goal.invariant-loop-bytes
invariant-loop-bytes l = skip_dots (reverse l.bytes) ≡ skip_dots (reverse l.fn.bytes)

abbrev pub decreases-loop-bytes : goal.decreases-loop-bytes
decreases-loop-bytes l = length l.bytes
