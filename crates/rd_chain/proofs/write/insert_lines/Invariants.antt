use Rattle.rd_chain.proofs.Common.{◌≡◌, ◌++◌, ℕ, List, Ok, map, Error, EndsAt, Moves, end_with}
use Rattle.std.proofs.Common.{take}
use Rattle.rd_chain.proofs.write.insert_lines.Given as goal

-- the lines so far are put in
abbrev pub invariant-loop-line : goal.invariant-loop-line
invariant-loop-line g l = record {
  same : l.tx.conn.ghost_name ≡ l.fn.tx.conn.ghost_name;
  last : l.last ≡ end_with l.end (map (λ line. line.now) (take l.line-index l.lines));
  moves : (before : List (List ℕ)) → Moves {T = Unit {0}} {X = Error} g.S.Store l.fn.tx.conn.now l.tx.conn.now (EndsAt l.end before) (EndsAt l.last (before ++ map (λ line. line.now) (take l.line-index l.lines))) (Ok tt);
}
