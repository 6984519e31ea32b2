use Rattle.rd_store.proofs.Common.{◌≡◌, take}
use Rattle.rd_store.proofs.comparing.are_same_rows.Given as goal

abbrev pub invariant-loop-at : goal.invariant-loop-at
invariant-loop-at l = take l.at l.fn.one ≡ take l.at l.fn.other
