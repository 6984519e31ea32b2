use Rattle.rd_chain.proofs.Common.{[]}
use Rattle.rd_chain.proofs.Statements.{create_writes, empty_is, makes_table}
use Rattle.rd_tables.proofs.TransactionSteps.{moves}
use Rattle.rd_chain.proofs.write.make_table.Goals as goal

pub returns-clause-moves : goal.returns-clause-moves
returns-clause-moves g c =
    moves create_writes ([]) empty_is makes_table g.S.Store c.args.tx.now.conn.now c.execute.new.self.conn.now c.execute.result c.execute.ensures.ended c.execute.ensures.runs c.execute.ensures.survives
