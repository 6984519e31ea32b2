use Rattle.std.proofs.Common.{rules}
use Rattle.rd_desk.proofs.commands.commit_image.Goals as goal

pub returns-in-Ok-clause-change : goal.returns-in-Ok-clause-change
returns-in-Ok-clause-change g c day = record { result = c.put_image.result; changes = rw c.as_slice.ensures at c.put_image.ensures.changes; returned = rw c.in-Ok.is tt }

pub returns-in-Err-Missing : goal.returns-in-Err-Missing
returns-in-Err-Missing g c = record {
  carries = search rules;
  change = λ day. record { result = c.put_image.result; changes = rw c.as_slice.ensures at c.put_image.ensures.changes; returned = rw c.in-Err-Missing.is tt };
}
