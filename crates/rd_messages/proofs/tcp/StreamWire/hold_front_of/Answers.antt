use Rattle.std.proofs.Common.{arith}
use Rattle.rd_messages.proofs.SentBytes.{held_front, held_more}
use Rattle.rd_messages.proofs.tcp.StreamWire.hold_front_of.Goals as goal

pub returns-clause-held : goal.returns-clause-held
returns-clause-held g c =
    let wire = c.args.self.now in
    let copied = c.copy_front-count.ensures in
    let more = held_more wire.held c.copy_front-count.result wire.room.len wire.room.items c.deref_mut.result.now c.copy_front-count.new.into _ _
    c.deref_mut.ensures.value (omega arith) copied.within (omega arith) in
    let pieces = copied.copied in
    held_front _ _ _ _ _ _ pieces.left pieces.joined more
