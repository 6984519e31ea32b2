use Rattle.rd_store.proofs.Common.{empty_desk}
use Rattle.rd_store.proofs.CreationLemmas.{no_key}
use Rattle.rd_tables.proofs.TransactionSteps.{and_then, stopped, then_told}
use Rattle.rd_store.proofs.create.fill.Goals as goal

pub returns-in_err-insert_key-clause-moves : goal.returns-in_err-insert_key-clause-moves
returns-in_err-insert_key-clause-moves g c =
    stopped g.S.Store c.from_residual-in_err-insert_key.result c.from_residual-in_err-insert_key.ensures.0 (and_then g.S.Store c.in_ok-make_empty.ensures.moves (c.in_err-insert_key.ensures.moves empty_desk (no_key c.args.staff.now)))

pub returns-clause-moves : goal.returns-clause-moves
returns-clause-moves g c = then_told g.S.Store c.in_ok-make_empty.ensures.moves (c.in_ok-insert_key.ensures.moves empty_desk (no_key c.args.staff.now))
