use Rattle.rd_store.proofs.Common.{◌≡◌, map, take, file_in}
use Rattle.rd_store.proofs.files.read_files.Given as goal

abbrev pub invariant-loop-row : goal.invariant-loop-row
invariant-loop-row l = l.files.items ≡ map file_in (take l.row-index l.rows)
