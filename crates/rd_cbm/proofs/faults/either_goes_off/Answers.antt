use Rattle.rd_cbm.proofs.TestLemmas.{first_holds, second_tells}
use Rattle.rd_cbm.proofs.faults.either_goes_off.Goals as goal

pub returns-then-goes_off : goal.returns-then-goes_off
returns-then-goes_off c = first_holds c.if-goes_off.ensures

pub returns : goal.returns
returns c = second_tells _ c.if-goes_off.ensures c.goes_off-2.ensures
