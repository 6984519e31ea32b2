use Rattle.rd_store.proofs.CompareLemmas.{SameFirst}
use Rattle.rd_store.proofs.comparing.has_same_images.Given as goal

abbrev pub invariant-loop-at : goal.invariant-loop-at
invariant-loop-at g l = SameFirst g.S.Store l.fn.one l.fn.other l.accessions.items l.one l.other l.at
