use Rattle.std.proofs.Common.{rules}
use Rattle.rd_messages.proofs.SentBytes.{some_reply, then_flushed}
use Rattle.rd_messages.proofs.answer.send.Goals as goal

pub returns-in-Ok-clause-sends : goal.returns-in-Ok-clause-sends
returns-in-Ok-clause-sends g c = search (rules, then_flushed, some_reply)
