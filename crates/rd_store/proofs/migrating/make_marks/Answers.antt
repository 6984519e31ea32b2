use Rattle.rd_store.proofs.Common.{[], arith, creates_writes}
use Rattle.rd_store.proofs.MigrationLemmas.{makes_marks}
use Rattle.rd_tables.proofs.TransactionSteps.{moves}
use Rattle.rd_store.proofs.migrating.make_marks.Goals as goal

pub returns-clause-moves : goal.returns-clause-moves
returns-clause-moves g c desk =
    moves (creates_writes 7 (omega arith)) ([]) (λ db of. of.schema) (makes_marks desk) g.S.Store c.args.tx.now.conn.now c.execute.new.self.conn.now c.execute.result c.execute.ensures.ended
    (rw c.create_text.ensures at c.execute.ensures.runs) c.execute.ensures.survives
