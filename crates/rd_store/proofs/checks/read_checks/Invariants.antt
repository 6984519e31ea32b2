use Rattle.rd_store.proofs.Common.{◌≡◌, map, take, numbered_check, check_spelling}
use Rattle.rd_store.proofs.checks.read_checks.Given as goal

abbrev pub invariant-loop-row : goal.invariant-loop-row
invariant-loop-row l = l.checks.items ≡ map (λ row. numbered_check (check_spelling.entry row)) (take l.row-index l.rows)
