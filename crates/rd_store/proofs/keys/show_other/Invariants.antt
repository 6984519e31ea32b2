use Rattle.rd_store.proofs.Common.{All, take, ShowsOther}
use Rattle.rd_store.proofs.keys.show_other.Given as goal

abbrev pub invariant-loop-row : goal.invariant-loop-row
invariant-loop-row l = All (λ row. ¬ ShowsOther l.digest row) (take l.row-index l.rows)
