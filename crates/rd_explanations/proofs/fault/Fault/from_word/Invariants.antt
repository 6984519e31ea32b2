use Rattle.std.proofs.Common.{◌≢◌, ◌<◌, ℕ}
use Rattle.std.specs.List.{slice_index_or}
use Rattle.rd_explanations.specs.Faults.{fault_word}
use Rattle.rd_explanations.specs.declared.fault.Fault.TheVariants.{BadCount}
use Rattle.rd_explanations.proofs.fault.Fault.from_word.Given as goal

-- the word is that of no fault passed
abbrev pub invariant-loop-fault : goal.invariant-loop-fault
invariant-loop-fault l = (k : ℕ) → k < l.fault-index → l.word ≢ fault_word (slice_index_or l.fault-items k BadCount)
