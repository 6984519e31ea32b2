use Rattle.std.proofs.Common.{arith, length-drop, length-take-le, ℕ}
use Rattle.rd_messages.proofs.SentBytes.{sent_more}
use Rattle.rd_messages.proofs.tcp.send.Goals as goal

pub loop-sent-preserved : goal.loop-sent-preserved
loop-sent-preserved g c =
    let at = c.loop-sent.invariant in
    let wrote = c.in-Ok.ensures in
    record {
      within = omega (arith, wrote.bound, length-take-le {A = ℕ}, length-drop {A = ℕ});
      sends = sent_more _ _ _ c.args.bytes.now c.loop-sent.sent c.in-Ok.count at.within at.sends wrote.bytes;
    }
