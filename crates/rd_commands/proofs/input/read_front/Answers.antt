use Rattle.std.proofs.Common.{arith, rules}
use Rattle.std.proofs.lemmas.Grind.{common_steps}
use Rattle.rd_commands.proofs.ReadLimits.{reads_after}
use Rattle.rd_commands.proofs.input.read_front.Goals as goal

pub returns-in_err-read_part-clause-limit : goal.returns-in_err-read_part-clause-limit
returns-in_err-read_part-clause-limit g c =
    reads_after _ _ _ _ _ _ c.loop-part.invariant.taken c.in_err-read_part.ensures.limit (first_of (search rules, omega arith, grind (arith, common_steps)))
