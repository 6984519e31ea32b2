use Rattle.std.proofs.Common.{◌≡◌, inl, subst, w32, to_z, of_z}
use Rattle.std.proofs.lemmas.Bool.{iff_false}
use Rattle.std.proofs.lemmas.Int.{to_z-of_z}
use Rattle.rd_policy.specs.Matches.{Matches}
use Rattle.rd_policy.proofs.OrderLemmas.{NoneBefore, none_more, first_decides}
use Rattle.rd_policy.proofs.decision.decide.Goals as goal

pub returns-then-matches : goal.returns-then-matches
returns-then-matches c =
    let exact : to_z w32 (of_z w32 c.args.day) ≡ c.args.day = to_z-of_z w32 c.args.day c.ranges.day in
    let matching = subst (λ day. Matches c.rule-item.result c.args.audience day c.args.file.now) exact (c.matches.ensures.0 c.if-matches.true) in
    let none = subst (λ day. NoneBefore c.args.rules.now c.args.audience day c.args.file.now c.loop-rule.rule-index) exact c.loop-rule.invariant in
    inl (
      c.rule-item.result,
      first_decides c.args.rules.now c.args.audience c.args.day c.args.file.now c.loop-rule.rule-index c.rule-item.result c.requires
          c.loop-rule-test.true c.rule-item.is none matching,
      c.verdict.ensures,
    )

pub loop-rule-preserved : goal.loop-rule-preserved
loop-rule-preserved c =
    none_more c.args.rules.now c.args.audience _ c.args.file.now c.loop-rule.rule-index c.rule-item.result
    c.loop-rule-test.true c.rule-item.is (iff_false c.matches.ensures c.if-matches.false) c.loop-rule.invariant
