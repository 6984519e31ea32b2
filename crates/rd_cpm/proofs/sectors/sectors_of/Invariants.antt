use Rattle.rd_cpm.proofs.SectorLemmas.{AreRecordsBelow}
use Rattle.rd_cpm.proofs.sectors.sectors_of.Given as goal

abbrev pub invariant-loop-number : goal.invariant-loop-number
invariant-loop-number l = AreRecordsBelow l.entries l.number l.sectors.items
