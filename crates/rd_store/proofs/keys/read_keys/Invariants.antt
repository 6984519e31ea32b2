use Rattle.rd_store.proofs.Common.{◌≡◌, map, take, key_spelling}
use Rattle.rd_store.proofs.keys.read_keys.Given as goal

abbrev pub invariant-loop-row : goal.invariant-loop-row
invariant-loop-row l = l.keys.items ≡ map key_spelling.entry (take l.row-index l.rows)
