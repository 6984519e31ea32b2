use Rattle.std.proofs.Common.{rules}
use Rattle.rd_desk.proofs.commands.put_key.Goals as goal

pub returns-in-Ok-clause-change : goal.returns-in-Ok-clause-change
returns-in-Ok-clause-change g c day = record { result = c.put_key.result; changes = c.put_key.ensures.changes; returned = rw c.in-Ok.is tt }

pub returns-in-Err-Missing : goal.returns-in-Err-Missing
returns-in-Err-Missing g c = record {
  carries = search rules;
  change = λ day. record { result = c.put_key.result; changes = c.put_key.ensures.changes; returned = rw c.in-Err-Missing.is tt };
}
