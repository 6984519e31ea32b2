use Rattle.std.proofs.Common.{◌≡◌, arith, FitsSigned, w32, w64}
use Rattle.std.proofs.lemmas.Grind.{common_steps}
use Rattle.std.proofs.lemmas.Int.{to_z-of_z, ints}
use Rattle.jiff_core.proofs.SignedLemmas.{signed_arith}
use Rattle.rd_operands.proofs.moment.earliest.Goals as goal

pub returns : goal.returns
returns c =
    let day : FitsSigned w32 c.args.day = c.ranges.day in
    let wide : c.from.result ≡ c.args.day = simp to_z-of_z at c.from.ensures in
    let fits : FitsSigned w64 c.from.result = omega (arith, ints) in
    first_of (omega (arith, ints), omega (arith, signed_arith), grind (arith, ints), grind (arith, common_steps))
