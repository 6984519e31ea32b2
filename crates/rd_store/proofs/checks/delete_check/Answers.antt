use Rattle.rd_store.proofs.Common.{w32, to_z-of_z, checkup_params, drop_check_writes}
use Rattle.rd_tables.proofs.TransactionSteps.{moves}
use Rattle.rd_store.proofs.DatabaseSteps.{makes_no_check, of_schema}
use Rattle.rd_store.proofs.checks.delete_check.Goals as goal

pub returns-clause-moves : goal.returns-clause-moves
returns-clause-moves g c before =
    moves drop_check_writes (checkup_params c.args.acc c.args.day) (of_schema before) (makes_no_check c.args.acc c.args.day before) g.S.Store c.args.tx.now.conn.now c.execute.new.self.conn.now c.execute.result c.execute.ensures.ended
    (rw (c.params-to_sql.ensures, c.params-to_sql-2.ensures, to_z-of_z w32 c.args.day c.ranges.day) at c.execute.ensures.runs) c.execute.ensures.survives
