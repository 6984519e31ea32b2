use Rattle.rd_store.proofs.Common.{◌≡◌, map, take, column, natural}
use Rattle.rd_store.proofs.images.read_numbers.Given as goal

abbrev pub invariant-loop-row : goal.invariant-loop-row
invariant-loop-row l = l.numbers.items ≡ map (λ row. natural (column row 0)) (take l.row-index l.rows)
