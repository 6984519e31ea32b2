use Rattle.rd_cbm.proofs.UseLemmas.{AreAddedTo}
use Rattle.rd_cbm.proofs.claims.Uses.add_all.Given as goal

abbrev pub invariant-loop-block : goal.invariant-loop-block
invariant-loop-block l = AreAddedTo l.fn.self.used l.fn.self.shared l.blocks l.block-index l.self.used l.self.shared
