use Rattle.rd_store.proofs.Common.{◌≡◌, map, take, deed_spelling}
use Rattle.rd_store.proofs.deeds.read_deeds.Given as goal

abbrev pub invariant-loop-row : goal.invariant-loop-row
invariant-loop-row l = l.deeds.items ≡ map deed_spelling.entry (take l.row-index l.rows)
