use Rattle.std.proofs.Common.{◌+◌}
use Rattle.rd_messages.proofs.LingerLemmas.{begins, goes_on, goes_on_and_ends}
use Rattle.rd_messages.proofs.lingering.linger_from.Goals as goal

pub loop-init : goal.loop-init
loop-init g c = begins (200 + c.args.began) _ _

pub loop-preserved : goal.loop-preserved
loop-preserved g c = goes_on (200 + c.args.began) _ _ _ _ _ _ c.loop.invariant c.in-Some.ensures.goes_on

pub returns-in_default : goal.returns-in_default
returns-in_default g c = goes_on_and_ends (200 + c.args.began) _ _ _ _ _ c.loop.invariant c.in-Some.ensures.waits

pub returns-in_default-2 : goal.returns-in_default-2
returns-in_default-2 g c = goes_on_and_ends (200 + c.args.began) _ _ _ _ _ c.loop.invariant c.in_default.ensures.waits
