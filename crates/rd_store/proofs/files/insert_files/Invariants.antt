use Rattle.rd_store.proofs.Common.{◌≡◌, Ok, Error, IsDeskWith, Moves, IsFiledTo}
use Rattle.rd_store.proofs.files.insert_files.Given as goal

-- as many files are in the index as there were turns
abbrev pub invariant-loop-at : goal.invariant-loop-at
invariant-loop-at g l =
    (l.tx.conn.ghost_name ≡ l.fn.tx.conn.ghost_name)
    × ((desk : _) (images : _) → Moves {T = Unit {0}} {X = Error} g.S.Store l.fn.tx.conn.now l.tx.conn.now (IsDeskWith desk (IsFiledTo images l.fn.acc l.fn.files 0)) (IsDeskWith desk (IsFiledTo images l.fn.acc l.fn.files l.at)) (Ok tt))
