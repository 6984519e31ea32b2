use Rattle.std.proofs.Common.{[], OnOk, refl, subst, take}
use Rattle.std.specs.Io.KnownBytes.{Appends}
use Rattle.rd_messages.proofs.SentBytes.{held_sent_ok}
use Rattle.rd_messages.proofs.tcp.StreamWire.send_held.Goals as goal

pub returns-clause-kept : goal.returns-clause-kept
returns-clause-kept g c =
    let old = g.S.Write.contents c.args.self.now.stream in
    let new = g.S.Write.contents c.send-sent.new.stream in
    let held = c.args.self.now.held in
    let sent = subst (λ room. OnOk c.send-sent.result (Appends old new (take held room))) c.deref.ensures.value c.send-sent.ensures in
    rw c.tell.ensures.sent (rw c.tell.ensures.stream (rw c.tell.ensures.held
    (held_sent_ok c.send-sent.result old new (take held c.args.self.now.room.items) [] refl sent)))
