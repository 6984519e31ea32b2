use Rattle.std.proofs.Common.{arith}
use Rattle.rd_messages.proofs.ReadLemmas.{takes_both}
use Rattle.rd_messages.proofs.read_request.read_request.Goals as goal

pub returns-in-Some-clause-bounded : goal.returns-in-Some-clause-bounded
returns-in-Some-clause-bounded g c =
    takes_both 8192 262144 270336 (g.W.Wire.incoming c.args.wire.now) (g.W.Wire.incoming c.read_head.new.wire) (g.W.Wire.incoming c.read_rest.new.wire)
    c.in_ok-found.ensures.limit c.read_rest.ensures.bounded (omega arith)
