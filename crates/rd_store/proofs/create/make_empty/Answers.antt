use Rattle.rd_tables.proofs.TransactionSteps.{and_then, stopped}
use Rattle.rd_store.proofs.create.make_empty.Goals as goal

pub returns-in_err-make_tables-clause-moves : goal.returns-in_err-make_tables-clause-moves
returns-in_err-make_tables-clause-moves g c = stopped g.S.Store c.from_residual.result c.from_residual.ensures.0 c.in_err-make_tables.ensures.moves

pub returns-clause-moves : goal.returns-clause-moves
returns-clause-moves g c = and_then g.S.Store c.in_ok-make_tables.ensures.moves c.insert_version.ensures.moves
