-- Laws of the rules for an accession.
use Rattle.std.specs.Prelude.{◌≡◌, ℕ, ◌++◌, ◌↔◌, Some, Contains}
use Rattle.std.specs.FinMap.{get}
use Rattle.rd_policy.specs.Verdicts.{AreInOrder}
use Rattle.rd_policy.specs.declared.rule.Band.{Band}
use Rattle.rd_policy.specs.declared.rule.Band.TheVariants.{Takedown, Deed}
use Rattle.rd_policy.specs.declared.rule.Rule.{Rule}
use Rattle.rd_holdings.specs.declared.rows.ImageRow.{ImageRow}
use Rattle.rd_holdings.specs.State.{Desk, place_of, terms_of, rules_at, rules_for}

-- takedowns of this accession, and rules of this deed
abbrev pub IsAbout : ℕ → ℕ → Band → ℕ → Type 0
IsAbout acc deed Takedown scope = scope ≡ acc
IsAbout acc deed Deed scope = scope ≡ deed

-- The image of the accession stands, and the rule stands: a takedown of the accession, or a rule of its deed.
pub record IsRuleFor (desk : Desk) (acc : ℕ) (rule : Rule) : Type 0 where
  pub image : ImageRow
  pub given : get desk.images acc ≡ Some image
  pub stands : get desk.rules (place_of rule) ≡ Some (terms_of rule)
  pub about : IsAbout acc image.deed rule.band rule.scope

-- the rules for each accession are in order
abbrev pub RulesAreInOrder : Type 0
RulesAreInOrder = (desk : Desk) (acc : ℕ) → AreInOrder (rules_for desk acc)

-- the takedowns of any accession, and behind them the rules of any deed, are in order
abbrev pub RulesOfBothAreInOrder : Type 0
RulesOfBothAreInOrder = (desk : Desk) (acc deed : ℕ) → AreInOrder (rules_at desk Takedown acc ++ rules_at desk Deed deed)

-- the rules for an accession are exactly those
abbrev pub RulesAreThose : Type 0
RulesAreThose = (desk : Desk) (acc : ℕ) (rule : Rule) → Contains (rules_for desk acc) rule ↔ IsRuleFor desk acc rule
