use Rattle.rd_store.proofs.Common.{marks_params, put_marks_writes, IsFiledTo}
use Rattle.rd_tables.proofs.TransactionSteps.{moves}
use Rattle.rd_store.proofs.DatabaseSteps.{makes_marks, with_schema}
use Rattle.rd_store.proofs.marks.insert_marks.Goals as goal

pub returns-clause-moves : goal.returns-clause-moves
returns-clause-moves g c before images files count image stands kind =
    let Index = IsFiledTo images c.args.acc files count in
    moves put_marks_writes (marks_params c.args.acc c.args.marks.now) (with_schema before Index) (makes_marks c.args.acc image c.args.marks.now before Index stands kind c.requires.count) g.S.Store c.args.tx.now.conn.now c.execute.new.self.conn.now c.execute.result c.execute.ensures.ended
    (rw (c.params-to_sql.ensures, c.params-to_sql-2.ensures) at c.execute.ensures.runs) c.execute.ensures.survives
