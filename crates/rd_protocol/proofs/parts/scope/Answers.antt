use Rattle.std.proofs.Common.{◌∙◌, IfSome, subst, sym, lit≤}
use Rattle.rd_policy.specs.Rules.{IsScope}
use Rattle.rd_protocol.proofs.PartLemmas.{number_read, scope_within}
use Rattle.rd_protocol.proofs.parts.scope.Goals as goal

pub returns-then-has_digits-clause-value : goal.returns-then-has_digits-clause-value
returns-then-has_digits-clause-value c =
    c.ok.ensures.value
    ∙ number_read 32 6 c.args.text.now c.parse.result c.parse.ensures.value.0 (lit≤ tt) (sym c.if-has_digits.ensures)

pub returns-then-has_digits-clause-within : goal.returns-then-has_digits-clause-within
returns-then-has_digits-clause-within c =
    subst (λ o. IfSome o IsScope)
    (sym (c.ok.ensures.value
    ∙ number_read 32 6 c.args.text.now c.parse.result c.parse.ensures.value.0 (lit≤ tt) (sym c.if-has_digits.ensures)))
    (scope_within c.args.text.now)
