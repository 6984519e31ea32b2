use Rattle.std.proofs.Common.{◌+◌, take, arith}
use Rattle.std.proofs.lemmas.List.{length-take}
use Rattle.rd_messages.proofs.TakenLemmas.{grows_more, takes_grown, takes_kept}
use Rattle.rd_messages.proofs.body.fill.Goals as goal

pub returns-in_err-count-clause-limit : goal.returns-in_err-count-clause-limit
returns-in_err-count-clause-limit g c =
    let i = c.loop-filled.invariant in
    takes_kept _ _ (g.W.Wire.incoming c.loop-filled.wire) _
    (takes_grown _ _ _ (take c.args.start c.args.buf.now) (take c.loop-filled.filled c.loop-filled.buf) i.read
    (omega (arith, length-take c.args.start c.args.buf.now, length-take c.loop-filled.filled c.loop-filled.buf)))
    c.in_err-count.ensures.err

pub returns-then-count-eq0-clause-limit : goal.returns-then-count-eq0-clause-limit
returns-then-count-eq0-clause-limit g c =
    let filled = c.loop-filled.filled + c.in_ok-count.count in
    takes_grown _ _ _ (take c.args.start c.args.buf.now) (take filled c.take_more.new.buf)
    (grows_more _ (g.W.Wire.incoming c.loop-filled.wire) _ _ (take c.loop-filled.filled c.loop-filled.buf) _ c.loop-filled.invariant.read c.in_ok-count.ensures.read)
    (omega (arith, length-take c.args.start c.args.buf.now, length-take filled c.take_more.new.buf))
