use Rattle.rd_store.proofs.Common.{key_params, put_key_writes, audience_code}
use Rattle.rd_tables.proofs.TransactionSteps.{moves}
use Rattle.rd_store.proofs.DatabaseSteps.{makes_key, of_schema}
use Rattle.rd_store.proofs.keys.insert_key.Goals as goal

pub returns-clause-moves : goal.returns-clause-moves
returns-clause-moves g c before free =
    moves put_key_writes (key_params c.args.digest.now (audience_code c.args.audience)) (of_schema before) (makes_key c.args.digest.now c.args.audience before free) g.S.Store c.args.tx.now.conn.now c.execute.new.self.conn.now c.execute.result c.execute.ensures.ended
    (rw (c.params-to_sql.ensures, c.params-to_sql-2.ensures, c.as_slice-sum.ensures, c.of_audience-code.ensures) at c.execute.ensures.runs) c.execute.ensures.survives
