use Rattle.rd_store.proofs.Common.{◌≡◌, Ok, Error, HasFirstTables, Moves}
use Rattle.rd_store.proofs.create.make_tables.Given as goal

-- as many tables are made as there were turns
abbrev pub invariant-loop-at : goal.invariant-loop-at
invariant-loop-at g l =
    (l.tx.conn.ghost_name ≡ l.fn.tx.conn.ghost_name) × Moves {T = Unit {0}} {X = Error} g.S.Store l.fn.tx.conn.now l.tx.conn.now (HasFirstTables 0) (HasFirstTables l.at) (Ok tt)
