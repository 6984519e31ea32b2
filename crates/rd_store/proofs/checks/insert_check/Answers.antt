use Rattle.rd_store.proofs.Common.{w32, to_z-of_z, check_params, put_check_writes, outcome_code}
use Rattle.rd_tables.proofs.TransactionSteps.{moves}
use Rattle.rd_store.proofs.DatabaseSteps.{makes_check, of_schema}
use Rattle.rd_store.proofs.checks.insert_check.Goals as goal

pub returns-clause-moves : goal.returns-clause-moves
returns-clause-moves g c before free =
    moves put_check_writes (check_params c.args.acc c.args.day (outcome_code c.args.outcome)) (of_schema before) (makes_check c.args.acc c.args.day c.args.outcome before free) g.S.Store c.args.tx.now.conn.now c.execute.new.self.conn.now c.execute.result c.execute.ensures.ended
    (rw (c.params-to_sql.ensures, c.params-to_sql-2.ensures, c.params-to_sql-3.ensures, to_z-of_z w32 c.args.day c.ranges.day, c.of_outcome-code.ensures) at c.execute.ensures.runs) c.execute.ensures.survives
