use Rattle.std.proofs.Common.{◌+ℤ◌, ◌-ℤ◌, ◌*ℤ◌, pos, subst, rules, FitsSigned, w32, w64}
use Rattle.std.specs.Prelude.{IfNone, IfSome}
use Rattle.std.proofs.lemmas.Int.{to_z-of_z}
use Rattle.rd_operands.specs.Moments.{HasNoMoment, HasNoneFrom, IsFirstFrom, IsFirstMoment}
use Rattle.rd_operands.proofs.MomentLemmas.{first_of_all, none_at_all, if_found, if_none}
use Rattle.rd_operands.proofs.moment.first_moment.Goals as goal

pub returns-clause-first : goal.returns-clause-first
returns-clause-first c =
    let day : FitsSigned w32 c.args.day = c.ranges.day in
    let fits : FitsSigned w64 c.earliest.result = search rules in
    let start = simp to_z-of_z at c.earliest.ensures in
    let found = simp to_z-of_z at c.first_from.ensures.found in
    if_found c.first_from.result (IsFirstFrom (c.args.day *ℤ pos 86400 -ℤ pos 93599) c.args.day c.args.zone.now)
    (IsFirstMoment c.args.day c.args.zone.now) (first_of_all c.args.day c.args.zone.now)
    (subst (λ s. IfSome c.first_from.result (IsFirstFrom s c.args.day c.args.zone.now)) start found)

pub returns-clause-none : goal.returns-clause-none
returns-clause-none c =
    let day : FitsSigned w32 c.args.day = c.ranges.day in
    let fits : FitsSigned w64 c.earliest.result = search rules in
    let start = simp to_z-of_z at c.earliest.ensures in
    let none = simp to_z-of_z at c.first_from.ensures.none in
    if_none c.first_from.result (HasNoneFrom (c.args.day *ℤ pos 86400 -ℤ pos 93599) (c.args.day *ℤ pos 86400 -ℤ pos 93599 +ℤ pos 273598) c.args.day c.args.zone.now)
    (HasNoMoment c.args.day c.args.zone.now) (none_at_all c.args.day c.args.zone.now)
    (subst (λ s. IfNone c.first_from.result (HasNoneFrom s (s +ℤ pos 273598) c.args.day c.args.zone.now)) start none)
