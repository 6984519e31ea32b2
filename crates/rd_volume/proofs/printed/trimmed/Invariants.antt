use Rattle.rd_volume.proofs.PrintedLemmas.{IsPadFrom}
use Rattle.rd_volume.proofs.printed.trimmed.Given as goal

abbrev pub invariant-loop-end : goal.invariant-loop-end
invariant-loop-end l = IsPadFrom l.pad l.bytes l.end

abbrev pub decreases-loop-end : goal.decreases-loop-end
decreases-loop-end l = l.end
