use Rattle.rd_cbm.proofs.TwoChains.{IsCountPassed}
use Rattle.rd_cbm.proofs.faults.count_both.Given as goal

abbrev pub invariant-loop-block : goal.invariant-loop-block
invariant-loop-block l = IsCountPassed l.contents l.sides l.block-index l.count
