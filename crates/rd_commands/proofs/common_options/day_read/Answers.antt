use Rattle.rd_commands.proofs.common_options.day_read.Goals as goal

pub returns-in-Err-BadDate-clause-none : goal.returns-in-Err-BadDate-clause-none
returns-in-Err-BadDate-clause-none c = λ same. c.in-Err-BadDate.ensures.bad c.in-Err-BadDate.field-0-is
