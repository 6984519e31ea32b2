use Rattle.rd_store.proofs.Common.{◌≡◌, map, take, numbered_accession}
use Rattle.rd_store.proofs.register.numbered_in.Given as goal

abbrev pub invariant-loop-entry : goal.invariant-loop-entry
invariant-loop-entry l = l.numbered.items ≡ map numbered_accession (take l.entry-index l.entries)
