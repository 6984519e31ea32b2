use Rattle.rd_messages.specs.ReplyText.{reply_bytes}
use Rattle.rd_messages.proofs.SentBytes.{first_part, then_second}
use Rattle.rd_messages.proofs.write.put_reply.Goals as goal

pub returns-in-Ok-clause-sends : goal.returns-in-Ok-clause-sends
unfolding reply_bytes
returns-in-Ok-clause-sends g c =
    let head = rw (c.as_slice.ensures, c.head_of-head.ensures, c.len.ensures) at c.in-Ok.ensures.sends in
    then_second _ (g.W.Wire.outgoing c.put_all.new.wire) _ c.put_pieces.result _ _ head c.put_pieces.ensures.sends

pub returns-in-Err-clause-sends : goal.returns-in-Err-clause-sends
unfolding reply_bytes
returns-in-Err-clause-sends g c = first_part _ _ _ _ (rw (c.as_slice.ensures, c.head_of-head.ensures, c.len.ensures) at c.in-Err.ensures.sends)
