use Rattle.rd_store.proofs.Common.{[], creates_writes}
use Rattle.rd_store.proofs.CreationLemmas.{makes_table, made_schema}
use Rattle.rd_tables.proofs.TransactionSteps.{moves}
use Rattle.rd_store.proofs.create.make_table.Goals as goal

pub returns-clause-moves : goal.returns-clause-moves
returns-clause-moves g c =
    moves (creates_writes c.args.at c.requires) ([]) (made_schema c.args.at) (makes_table c.args.at c.requires) g.S.Store c.args.tx.now.conn.now c.execute.new.self.conn.now c.execute.result c.execute.ensures.ended
    (rw c.create_text.ensures at c.execute.ensures.runs) c.execute.ensures.survives
