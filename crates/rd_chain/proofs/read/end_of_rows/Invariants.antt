use Rattle.rd_chain.proofs.Common.{[], ◌≡◌, AreNextRows, end_of, end_with, lines_in}
use Rattle.std.proofs.Common.{drop}
use Rattle.rd_chain.proofs.read.end_of_rows.Given as goal

-- what is left of the rows decides, from where the lines so far end
abbrev pub invariant-loop-row : goal.invariant-loop-row
invariant-loop-row l = record {
  left : AreNextRows (end_of []) l.rows → AreNextRows l.end (drop l.row-index l.rows);
  whole : AreNextRows l.end (drop l.row-index l.rows) → AreNextRows (end_of []) l.rows;
  is : end_with l.end (lines_in (drop l.row-index l.rows)) ≡ end_with (end_of []) (lines_in l.rows);
}
