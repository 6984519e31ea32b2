use Rattle.std.proofs.Common.{rules}
use Rattle.rd_desk.proofs.commands.drop_rule.Goals as goal

pub returns-in-Ok-clause-change : goal.returns-in-Ok-clause-change
returns-in-Ok-clause-change g c day = record { result = c.drop_rule.result; changes = c.drop_rule.ensures.changes; returned = rw c.in-Ok.is tt }

pub returns-in-Err-Conflict : goal.returns-in-Err-Conflict
returns-in-Err-Conflict g c = record {
  carries = search rules;
  change = λ day. record { result = c.drop_rule.result; changes = c.drop_rule.ensures.changes; returned = rw c.in-Err-Conflict.is tt };
}
