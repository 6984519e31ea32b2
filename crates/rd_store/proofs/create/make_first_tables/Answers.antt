use Rattle.rd_store.proofs.Common.{rules}
use Rattle.rd_tables.proofs.TransactionSteps.{step_done, step_failed}
use Rattle.rd_store.proofs.create.make_first_tables.Goals as goal

pub returns-in_err-make_tables : goal.returns-in_err-make_tables
returns-in_err-make_tables g c = record {
  turns = step_failed g.S.Store (record { settles = g.met.S.Store.settled; shuts = g.met.S.Store.shut_if_dirty }) c.args.conn.now _ c.transaction-tx.ensures.begun c.requires.start c.drop-tx.new.self.0 c.conn-1.given.0 (search rules) c.in_err-make_tables.ensures.moves c.drop-tx.ensures.undone c.drop-tx.ensures.survives c.from_residual.result c.from_residual.ensures.0;
}

pub returns : goal.returns
returns g c = record {
  turns = step_done g.S.Store (record { settles = g.met.S.Store.settled; shuts = g.met.S.Store.shut_if_dirty }) c.args.conn.now _ c.transaction-tx.ensures.begun c.requires.start c.commit.new.self.0 c.conn-2-1.given.0 (search rules) c.in_ok-make_tables.ensures.moves c.commit.ensures.survives c.commit.result c.commit.ensures.ok c.commit.ensures.err;
}
