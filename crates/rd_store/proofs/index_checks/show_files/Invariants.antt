use Rattle.rd_store.proofs.Common.{◌<◌, ℕ, get_or, length, Row, Found, IsFileRow}
use Rattle.rd_store.proofs.index_checks.show_files.Given as goal

abbrev pub invariant-loop-at : goal.invariant-loop-at
invariant-loop-at l = (k : ℕ) (file : Found) (row : Row) → k < l.at → k < length l.files → IsFileRow (get_or l.files k file) (get_or l.rows k row)
