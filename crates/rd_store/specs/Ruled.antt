-- All rules of a desk in one list, and where those of one band and number are in it.
use Rattle.std.specs.Prelude.{◌≡◌, ℕ, List, Bool}
use Rattle.std.specs.declared.cmp.Ordering.{Ordering}
use Rattle.std.specs.Ordering.{is_le, is_lt, nat_cmp, ordering_then}
use Rattle.rd_policy.specs.declared.rule.Band.{Band}
use Rattle.rd_policy.specs.declared.rule.Rule.{Rule}
use Rattle.rd_holdings.specs.State.{Desk, all_rules, band_code}

-- these are all rules of some desk, so they ascend by place
abbrev pub AreAllRules : List Rule → Type 0
AreAllRules rules = (desk : Desk) × (rules ≡ all_rules desk)

-- ---- those of one band and number

-- a band and a number beside another band, by its code, and another number: first by the band, then by the number
abbrev pub side_of : ℕ → ℕ → Band → ℕ → Ordering
side_of code scope of_band of_scope = ordering_then (nat_cmp (band_code of_band) code) (nat_cmp of_scope scope)

-- the rule stands in a lower band, or in this one for a lower number
abbrev pub is_below : ℕ → ℕ → Rule → Bool
is_below code scope rule = is_lt (side_of code scope rule.band rule.scope)

-- the rule is below that, or of this band and number
abbrev pub is_up_to : ℕ → ℕ → Rule → Bool
is_up_to code scope rule = is_le (side_of code scope rule.band rule.scope)
