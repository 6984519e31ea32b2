use Rattle.rd_chain.proofs.Common.{◌∙◌, ◌++◌, ℕ, List, [], arith, refl}
use Rattle.std.specs.Borrow.{Bor}
use Rattle.rd_chain.proofs.Appending.{end_none, first, last_all, last_more, moves_all, moves_more, moves_none, told_next}
use Rattle.rd_tables.proofs.TransactionSteps.{and_then, stopped}
use Rattle.rd_chain.proofs.write.insert_lines.Goals as goal

-- the bytes of a line
abbrev text : Bor (List ℕ) → List ℕ
text line = line.now

pub loop-line-init : goal.loop-line-init
loop-line-init g c = record { same = refl; last = end_none c.args.end.now; moves = λ before. moves_none g.S.Store c.args.tx.now.conn.now c.args.end.now before }

pub loop-line-preserved : goal.loop-line-preserved
loop-line-preserved g c =
    let nothing : Bor (List ℕ) = record { ref_ptr = (0, 0); now = [] } in
    let lines = c.args.lines.now in
    let end = c.args.end.now in
    let last = c.loop-line.last in
    let at = c.loop-line.line-index in
    let so_far = c.loop-line.invariant in
    let low = c.loop-line-test.true in
    record {
      same = c.in_ok-last.ensures.same_reference ∙ so_far.same;
      last = c.in_ok-last.ensures.next ∙ last_more text lines end last at nothing low so_far.last;
      moves = λ before. moves_more text lines g.S.Store end last _ before at nothing low c.in_ok-last.ensures.next (so_far.moves before) (c.in_ok-last.ensures.moves (before ++ first text lines at));
    }

pub returns-in_err-last-clause-moves : goal.returns-in_err-last-clause-moves
returns-in_err-last-clause-moves g c before = stopped g.S.Store c.from_residual.result c.from_residual.ensures.0 (and_then g.S.Store (c.loop-line.invariant.moves before) (c.in_err-last.ensures.moves (before ++ first text c.args.lines.now c.loop-line.line-index)))

pub returns-clause-last : goal.returns-clause-last
returns-clause-last g c = last_all text c.args.lines.now c.args.end.now c.loop-line.last c.loop-line.line-index (omega arith) c.loop-line.invariant.last

pub returns-clause-moves : goal.returns-clause-moves
returns-clause-moves g c before =
    told_next g.S.Store _ (moves_all text c.args.lines.now g.S.Store c.args.end.now c.loop-line.last before c.loop-line.line-index (omega arith) c.loop-line.invariant.last (c.loop-line.invariant.moves before))
