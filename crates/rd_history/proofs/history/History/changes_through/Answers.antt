use Rattle.std.proofs.Common.{arith, subst, sym}
use Rattle.rd_chain.specs.Held.{lines}
use Rattle.rd_history.specs.Replayed.{IsCutOf}
use Rattle.rd_history.proofs.Replays.{all_read, is_cut, page_is, page_more}
use Rattle.rd_history.proofs.history.History.changes_through.Goals as goal

pub loop-replay-preserved : goal.loop-replay-preserved
loop-replay-preserved g c =
    page_more g.S.Store c.args.self.now c.loop-replay.self c.lines_after.new.self c.args.number c.loop-replay.replay c.in_ok-replay.replay c.in_ok-page.page c.loop-replay.invariant c.in_ok-page.ensures (rw c.deref.ensures.value at c.in_ok-replay.ensures.reads)
    c.if-replay.false

pub returns-then-replay-clause-cut : goal.returns-then-replay-clause-cut
returns-then-replay-clause-cut g c = λ is_open entries of.
    let next = c.in_ok-replay.replay in
    let is =
    page_is g.S.Store c.args.self.now c.loop-replay.self c.lines_after.new.self c.args.number c.loop-replay.replay next c.in_ok-page.page c.loop-replay.invariant c.in_ok-page.ensures (rw c.deref.ensures.value at c.in_ok-replay.ensures.reads) is_open entries
    of in
    subst (IsCutOf c.args.number entries) (sym c.into_cut.ensures) (is_cut c.args.number entries next is (is.cut c.if-replay.true))

pub returns-clause-cut : goal.returns-clause-cut
returns-clause-cut g c = λ is_open entries of.
    let came = c.loop-replay.invariant in
    subst (IsCutOf c.args.number entries) (sym c.into_cut-2.ensures)
    (all_read c.args.number entries (lines g.S.Store c.args.self.now) c.loop-replay.replay (came.is is_open entries of) of (omega (arith, c.last-last.ensures (came.keeps.lasts.was_open is_open))))
