use Rattle.std.proofs.Common.{rules}
use Rattle.rd_desk.proofs.commands.put_rule.Goals as goal

pub returns-in-Ok-clause-change : goal.returns-in-Ok-clause-change
returns-in-Ok-clause-change g c day = record { result = c.put_rule.result; changes = c.put_rule.ensures.changes; returned = rw c.in-Ok.is tt }

pub returns-in-Err-Conflict : goal.returns-in-Err-Conflict
returns-in-Err-Conflict g c = record {
  carries = search rules;
  change = λ day. record { result = c.put_rule.result; changes = c.put_rule.ensures.changes; returned = rw c.in-Err-Conflict.is tt };
}
