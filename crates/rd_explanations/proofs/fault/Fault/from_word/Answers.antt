use Rattle.std.proofs.Common.{◌∙◌, ap, arith, sym}
use Rattle.rd_explanations.specs.Faults.{fault_word}
use Rattle.rd_explanations.proofs.FaultLemmas.{at_place, place_below, place_of}
use Rattle.rd_explanations.proofs.fault.Fault.from_word.Goals as goal

-- each fault was passed
pub returns-clause-none : goal.returns-clause-none
returns-clause-none c = λ fault same.
    c.loop-fault.invariant (place_of fault) (omega (arith, place_below fault, c.loop-fault-test.false)) (same ∙ ap fault_word (sym (at_place fault)))
