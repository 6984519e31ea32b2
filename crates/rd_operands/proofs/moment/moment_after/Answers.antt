use Rattle.std.proofs.Common.{rules, arith}
use Rattle.std.proofs.lemmas.Grind.{common_steps}
use Rattle.std.proofs.lemmas.Int.{ints}
use Rattle.jiff_core.proofs.SignedLemmas.{signed_arith}
use Rattle.rd_operands.proofs.moment.moment_after.Goals as goal

pub returns : goal.returns
returns c =
    first_of (search rules, omega (arith, ints), omega (arith, signed_arith), grind (arith, ints), grind (arith, common_steps))
