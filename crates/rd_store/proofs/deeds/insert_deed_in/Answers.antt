use Rattle.rd_store.proofs.Common.{w32, to_z-of_z, deed_params, put_deed_writes}
use Rattle.rd_tables.proofs.TransactionSteps.{moves}
use Rattle.rd_store.proofs.DatabaseSteps.{makes_new_deed, of_schema}
use Rattle.rd_store.proofs.deeds.insert_deed_in.Goals as goal

pub returns-clause-moves : goal.returns-clause-moves
returns-clause-moves g c before free =
    moves put_deed_writes (deed_params c.args.num c.args.donor.now c.args.signed) (of_schema before) (makes_new_deed c.args.num (record { donor = c.args.donor.now; signed = c.args.signed }) before free) g.S.Store c.args.tx.now.conn.now c.execute.new.self.conn.now c.execute.result c.execute.ensures.ended
    (rw (c.params-to_sql.ensures, c.params-to_sql-2.ensures, c.params-to_sql-3.ensures, to_z-of_z w32 c.args.signed c.ranges.signed) at c.execute.ensures.runs) c.execute.ensures.survives
