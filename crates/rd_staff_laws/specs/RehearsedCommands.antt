-- The answer to a rehearsal has exactly the differences that its command makes.
use Rattle.std.specs.Prelude.{◌↔◌, ℕ, ℤ, List, Contains, None}
use Rattle.rd_policy.specs.declared.audience.Audience.TheVariants.{Staff}
use Rattle.rd_policy.specs.declared.rule.Band.{Band}
use Rattle.rd_policy.specs.declared.rule.Rule.{Rule}
use Rattle.rd_protocol.specs.RehearsalLaws.{IsDifference}
use Rattle.rd_protocol.specs.Replies.{Tells, carried_out}
use Rattle.rd_holdings.specs.State.{Desk}
use Rattle.rd_protocol.specs.declared.request.What.{What}
use Rattle.rd_protocol.specs.declared.request.What.TheVariants.{DropRule, PutRule, RehearseDrop, RehearseRule}
use Rattle.rd_protocol.specs.declared.response.Difference.{Difference}
use Rattle.rd_protocol.specs.declared.response.Response.TheVariants as response

-- The answer to the staff's question, on the day of a visit, has exactly the differences of another day between the desk
-- and the one that the command makes of it.
abbrev pub Foretells : Desk → ℤ → ℤ → What → What → Type 0
Foretells desk visited on question command = (differences : List Difference) → Tells desk Staff visited None (response.Rehearsed differences) question
    → (difference : Difference) → Contains differences difference ↔ IsDifference desk (carried_out visited command desk) on difference

-- to rehearse a rule foretells the command that puts it
abbrev pub RehearsedRulesFollow : Type 0
RehearsedRulesFollow = (desk : Desk) (visited on : ℤ) (rule : Rule) → Foretells desk visited on (RehearseRule on rule) (PutRule rule)

-- to rehearse that a rule goes foretells the command that drops it
abbrev pub RehearsedDropsFollow : Type 0
RehearsedDropsFollow = (desk : Desk) (visited on : ℤ) (band : Band) (scope rank : ℕ) → Foretells desk visited on (RehearseDrop on band scope rank) (DropRule band scope rank)
