use Rattle.rd_history.proofs.tests.what_is_put_stands_again.Goals as goal

pub append-requires-clause-comes : goal.append-requires-clause-comes
append-requires-clause-comes g c = λ is_open. c.changes_may_come.ensures _ _ tt
