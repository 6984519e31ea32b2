use Rattle.rd_chain.proofs.Common.{◌≡◌, map, row_of, shown}
use Rattle.std.proofs.Common.{take}
use Rattle.rd_chain.proofs.read.summed_lines.Given as goal

abbrev pub invariant-loop-row : goal.invariant-loop-row
invariant-loop-row l = map row_of l.lines.items ≡ map shown (take l.row-index l.rows)
