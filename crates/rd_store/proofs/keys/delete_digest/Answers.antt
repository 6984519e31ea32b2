use Rattle.rd_store.proofs.Common.{digest_params, drop_key_writes}
use Rattle.rd_tables.proofs.TransactionSteps.{moves}
use Rattle.rd_store.proofs.DatabaseSteps.{makes_no_key, of_schema}
use Rattle.rd_store.proofs.keys.delete_digest.Goals as goal

pub returns-clause-moves : goal.returns-clause-moves
returns-clause-moves g c before =
    moves drop_key_writes (digest_params c.args.digest.now) (of_schema before) (makes_no_key c.args.digest.now before) g.S.Store c.args.tx.now.conn.now c.execute.new.self.conn.now c.execute.result c.execute.ensures.ended
    (rw (c.params-to_sql.ensures, c.as_slice-sum.ensures) at c.execute.ensures.runs) c.execute.ensures.survives
