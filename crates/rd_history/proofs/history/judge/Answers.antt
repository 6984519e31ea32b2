use Rattle.std.proofs.Common.{arith}
use Rattle.std.proofs.lemmas.Result.{err_from_is_err_and}
use Rattle.rd_history.proofs.Judging.{came_broken, came_more, came_short}
use Rattle.rd_history.proofs.history.judge.Goals as goal

pub returns-in_err-stage-clause-broken : goal.returns-in_err-stage-clause-broken
returns-in_err-stage-clause-broken g c = λ is_open.
    let p = err_from_is_err_and c.from_residual.result c.from_residual.ensures.1 in
    rw (p.1, p.2) (λ broken.
    came_broken g.S.Store c.args.chain.now c.loop-stage.chain c.lines_after.new.self c.loop-stage.stage c.in-Ok.page c.loop-stage.invariant c.in-Ok.ensures ((rw c.deref.ensures.value at c.in_err-stage.ensures.broken) broken) is_open)

pub loop-stage-preserved : goal.loop-stage-preserved
loop-stage-preserved g c =
    came_more g.S.Store c.args.chain.now c.loop-stage.chain c.lines_after.new.self c.loop-stage.stage c.in_ok-stage.stage c.in-Ok.page c.loop-stage.invariant c.in-Ok.ensures (rw c.deref.ensures.value at c.in_ok-stage.ensures.ok)

pub returns-then-stage-gt0-clause-broken : goal.returns-then-stage-gt0-clause-broken
returns-then-stage-gt0-clause-broken g c = λ is_open broken.
    came_short g.S.Store c.args.chain.now c.loop-stage.chain c.loop-stage.stage c.loop-stage.invariant is_open (omega (arith, c.last-last.ensures (c.loop-stage.invariant.keeps.lasts.was_open is_open))) (λ e. absurd (omega (arith, e)))
