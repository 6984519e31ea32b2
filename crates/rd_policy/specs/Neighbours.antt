-- What the test of a rule and the next one says.
use Rattle.std.specs.Prelude.{◌≡◌}
use Rattle.rd_policy.specs.declared.rule.Rule.{Rule}
use Rattle.rd_policy.specs.Verdicts.{Precedes}

-- The first rule comes before the second, and they have one scope if they are of one band.
pub record ComesFirst (first second : Rule) : Type 0 where
  pub precedes : Precedes first second
  pub one_scope : first.band ≡ second.band → first.scope ≡ second.scope
