use Rattle.std.proofs.Common.{rules, ◌∙◌, ap, pos, ◌+ℤ◌, FitsSigned, w32, w64, arith}
use Rattle.std.specs.Int.{int_div_euclid}
use Rattle.std.proofs.lemmas.Int.{to_z-of_z}
use Rattle.jiff.proofs.SpanFacts.{signed_arith}
use Rattle.jiff_core.proofs.SignedLemmas.{int_div_euclid-parts}
use Rattle.rd_policy.specs.Zones.{offset_at}
use Rattle.rd_policy.proofs.day.day_in.Goals as goal

pub returns-clause-day : goal.returns-clause-day
returns-clause-day c =
    let fs : FitsSigned w64 c.args.seconds = c.ranges.seconds in
    let fo : FitsSigned w32 c.offset.result = omega (arith, signed_arith, c.offset.ensures.bound) in
    let ff : FitsSigned w64 c.from.result = omega (arith, signed_arith) in
    let fr : FitsSigned w64 c.div_euclid.result = omega (arith, signed_arith) in
    let k = simp to_z-of_z at c.from.ensures in
    let f = simp to_z-of_z at c.in-Ok.ensures.value in
    let sum : FitsSigned w64 (c.args.seconds +ℤ c.from.result) = search rules in
    let d = simp to_z-of_z at c.div_euclid.ensures in
    let fd : FitsSigned w32 c.div_euclid.result = search rules in
    let o = k ∙ c.offset.ensures.value ∙ ap (offset_at c.args.zone.now) f in
    rw (to_z-of_z w64 c.div_euclid.result fr, to_z-of_z w32 c.div_euclid.result fd)
    (d ∙ ap (λ x. int_div_euclid (c.args.seconds +ℤ x) (pos 86400)) o)

pub returns-clause-in_range : goal.returns-clause-in_range
returns-clause-in_range c =
    let bound = c.offset.ensures.bound in
    let has = c.requires in
    let fo : FitsSigned w32 c.offset.result = omega (arith, signed_arith, bound) in
    let ff : FitsSigned w64 c.from.result = omega (arith, signed_arith) in
    let fr : FitsSigned w64 c.div_euclid.result = omega (arith, signed_arith) in
    let k = simp to_z-of_z at c.from.ensures in
    let sum : FitsSigned w64 (c.args.seconds +ℤ c.from.result) = search rules in
    let d = simp to_z-of_z at c.div_euclid.ensures in
    let fd : FitsSigned w32 c.div_euclid.result = search rules in
    rw (to_z-of_z w64 c.div_euclid.result fr, to_z-of_z w32 c.div_euclid.result fd)
    (omega (arith, signed_arith, d, k, bound, has, int_div_euclid-parts (c.args.seconds +ℤ c.from.result) 86400 (omega arith)))
