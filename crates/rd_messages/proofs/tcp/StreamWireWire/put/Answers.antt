use Rattle.rd_messages.proofs.SentBytes.{put_counted}
use Rattle.rd_messages.proofs.tcp.StreamWireWire.put.Goals as goal

pub returns-then-bytes-len-clause-sent : goal.returns-then-bytes-len-clause-sent
returns-then-bytes-len-clause-sent g c = put_counted _ _ _ _ _ c.hold.ensures.stream c.hold.ensures.held
