use Rattle.rd_cbm.proofs.TestLemmas.{first_holds, second_tells}
use Rattle.rd_cbm.proofs.faults.either_loops.Goals as goal

pub returns-then-loops : goal.returns-then-loops
returns-then-loops c = first_holds c.if-loops.ensures

pub returns : goal.returns
returns c = second_tells _ c.if-loops.ensures c.loops-2.ensures
