use Rattle.rd_store.proofs.Common.{◌≡◌, map, take, rule_spelling, rule_of}
use Rattle.rd_store.proofs.rules.read_rules.Given as goal

abbrev pub invariant-loop-row : goal.invariant-loop-row
invariant-loop-row l = l.rules.items ≡ map (λ row. rule_of (rule_spelling.entry row)) (take l.row-index l.rows)
