use Rattle.rd_store.proofs.Common.{◌≡◌, map, take, number_of}
use Rattle.rd_store.proofs.register.numbers_in.Given as goal

abbrev pub invariant-loop-entry : goal.invariant-loop-entry
invariant-loop-entry l = l.numbers.items ≡ map number_of (take l.entry-index l.entries)
