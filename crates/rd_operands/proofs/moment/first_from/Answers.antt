use Rattle.std.proofs.Common.{◌≡◌, ◌∙◌, ◌+ℤ◌, pos, sym, subst, true≢false, rules, arith, FitsSigned, to_z, of_z, w32, w64}
use Rattle.std.proofs.lemmas.Int.{to_z-of_z, ints}
use Rattle.rd_operands.specs.Moments.{IsOnDay}
use Rattle.rd_operands.proofs.MomentLemmas.{none_from_itself, none_more, plain_none}
use Rattle.rd_operands.proofs.moment.first_from.Goals as goal

pub loop-place-init : goal.loop-place-init
loop-place-init c = none_from_itself (to_z w64 (of_z w64 c.args.start)) (to_z w32 (of_z w32 c.args.day)) c.args.zone.now

pub loop-place-preserved : goal.loop-place-preserved
loop-place-preserved c =
    let fits : FitsSigned w64 c.moment_after-seconds.result = search rules in
    let at : to_z w64 (of_z w64 c.moment_after-seconds.result) ≡ to_z w64 (of_z w64 c.args.start) +ℤ pos c.loop-place.place =
    to_z-of_z w64 c.moment_after-seconds.result fits ∙ c.moment_after-seconds.ensures in
    none_more (to_z w64 (of_z w64 c.args.start)) c.loop-place.place (to_z w32 (of_z w32 c.args.day)) c.args.zone.now c.loop-place.invariant
    (λ on. true≢false (sym (c.is_on_day.ensures.1 (subst (λ s. IsOnDay (to_z w32 (of_z w32 c.args.day)) c.args.zone.now s) (sym at) on)) ∙ c.if-is_on_day.false))

pub returns-then-is_on_day-clause-found : goal.returns-then-is_on_day-clause-found
returns-then-is_on_day-clause-found c =
    let day : FitsSigned w32 c.args.day = c.ranges.day in
    let start : FitsSigned w64 c.args.start = c.ranges.start in
    let fits : FitsSigned w64 c.moment_after-seconds.result = search rules in
    let at = simp to_z-of_z at c.moment_after-seconds.ensures in
    let tests = simp to_z-of_z at c.is_on_day.ensures in
    let raw : IsOnDay c.args.day c.args.zone.now c.moment_after-seconds.result = tests.0 c.if-is_on_day.true in
    let wrapped : IsOnDay c.args.day c.args.zone.now (to_z w64 (of_z w64 c.moment_after-seconds.result)) =
    subst (λ s. IsOnDay c.args.day c.args.zone.now s) (sym (to_z-of_z w64 c.moment_after-seconds.result fits)) raw in
    let before = plain_none c.args.start c.args.day (pos c.loop-place.place) c.args.zone.now start day c.loop-place.invariant in
    record {
      on_day = assumption (raw, wrapped);
      none = λ seconds low high on. before seconds low (omega (arith, ints, high, at)) on;
    }

pub returns-clause-none : goal.returns-clause-none
returns-clause-none c =
    let before = plain_none c.args.start c.args.day (pos c.loop-place.place) c.args.zone.now c.ranges.start c.ranges.day c.loop-place.invariant in
    λ seconds low high on. before seconds low (omega (arith, ints, high)) on
