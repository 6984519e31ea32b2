use Rattle.rd_store.proofs.Common.{[], put_version_writes}
use Rattle.rd_store.proofs.CreationLemmas.{makes_version, made_schema}
use Rattle.rd_tables.proofs.TransactionSteps.{moves}
use Rattle.rd_store.proofs.create.insert_version.Goals as goal

pub returns-clause-moves : goal.returns-clause-moves
returns-clause-moves g c =
    moves put_version_writes ([]) (made_schema 8) makes_version g.S.Store c.args.tx.now.conn.now c.execute.new.self.conn.now c.execute.result c.execute.ensures.ended
    c.execute.ensures.runs c.execute.ensures.survives
