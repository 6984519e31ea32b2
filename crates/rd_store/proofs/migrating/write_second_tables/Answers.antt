use Rattle.rd_tables.proofs.TransactionSteps.{and_then, stopped}
use Rattle.rd_store.proofs.migrating.write_second_tables.Goals as goal

pub returns-in_err-make_marks-clause-moves : goal.returns-in_err-make_marks-clause-moves
returns-in_err-make_marks-clause-moves g c desk = stopped g.S.Store c.from_residual.result c.from_residual.ensures.0 (c.in_err-make_marks.ensures.moves desk)

pub returns-clause-moves : goal.returns-clause-moves
returns-clause-moves g c desk = and_then g.S.Store (c.in_ok-make_marks.ensures.moves desk) (c.set_version.ensures.moves desk)
