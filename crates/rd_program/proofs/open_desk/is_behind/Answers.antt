use Rattle.std.proofs.Common.{◌+ℤ◌, FitsSigned, pos, rules, w32}
use Rattle.std.proofs.lemmas.Int.{to_z-of_z}
use Rattle.rd_program.proofs.open_desk.is_behind.Goals as goal

pub returns-in-Ok-clause-keeps : goal.returns-in-Ok-clause-keeps
returns-in-Ok-clause-keeps g c = c.has_check_after.ensures.reads.keeps

pub returns-in-Err-clause-keeps : goal.returns-in-Err-clause-keeps
returns-in-Err-clause-keeps g c = c.has_check_after.ensures.reads.keeps

pub returns-in-Ok-clause-behind : goal.returns-in-Ok-clause-behind
returns-in-Ok-clause-behind g c =
    let fits : FitsSigned w32 (c.args.day +ℤ pos 1) = search rules in
    let this = to_z-of_z w32 c.args.day c.ranges.day in
    let next = to_z-of_z w32 (c.args.day +ℤ pos 1) fits in rw (this, next) at c.in-Ok.ensures.reads.answer
