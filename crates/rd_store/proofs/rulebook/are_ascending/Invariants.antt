use Rattle.rd_store.proofs.Rulebooks.{Rise}
use Rattle.rd_store.proofs.rulebook.are_ascending.Given as goal

-- each rule passed comes before the next one
abbrev pub invariant-loop-i : goal.invariant-loop-i
invariant-loop-i l = Rise l.rules l.i
