use Rattle.rd_messages.proofs.FramingLemmas.{not_text-is, length_in_value-is}
use Rattle.rd_messages.proofs.framing.length_in.Goals as goal

pub returns-in-Ok : goal.returns-in-Ok
returns-in-Ok c = length_in_value-is c.args.value.now c.number.result (rw c.in-Ok.ensures.cases.0 at c.number.ensures)

pub returns-in-Err : goal.returns-in-Err
returns-in-Err c = not_text-is c.args.value.now c.in-Err.ensures.cases.0
