use Rattle.rd_messages.proofs.bodies.dates.day_of.Goals as goal

pub returns-in-Err-BadDate : goal.returns-in-Err-BadDate
returns-in-Err-BadDate c = c.in-Err-BadDate.ensures.bad c.in-Err-BadDate.field-0-is
