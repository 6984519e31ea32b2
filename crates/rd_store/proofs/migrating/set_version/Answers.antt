use Rattle.rd_store.proofs.Common.{[], set_version_writes}
use Rattle.rd_store.proofs.MigrationLemmas.{makes_second}
use Rattle.rd_tables.proofs.TransactionSteps.{moves}
use Rattle.rd_store.proofs.migrating.set_version.Goals as goal

pub returns-clause-moves : goal.returns-clause-moves
returns-clause-moves g c desk =
    moves set_version_writes ([]) (λ db of. of.schema) (makes_second desk) g.S.Store c.args.tx.now.conn.now c.execute.new.self.conn.now c.execute.result c.execute.ensures.ended
    c.execute.ensures.runs c.execute.ensures.survives
