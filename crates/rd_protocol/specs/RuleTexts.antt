-- The JSON text of a rule, and what is read of it.
use Rattle.std.specs.Prelude.{◌≡◌, ℕ, List, Some, bytes_eq, codes, if◌then◌else◌}
use Rattle.serde_json.specs.Data.{Data, object, Members, no_members, member}
use Rattle.serde_json.specs.Read.{read}
use Rattle.serde_json.specs.Written.{compact_text}
use Rattle.rd_policy.specs.Rules.{IsRule}
use Rattle.rd_policy.specs.declared.rule.Rule.{Rule}
use Rattle.rd_protocol.specs.Texts.{rule_data}

-- the members but those of a key
abbrev pub members_without : List ℕ → Members → Members
members_without key no_members = no_members
members_without key (member other value members) =
    if bytes_eq key other then members_without key members else member other value (members_without key members)

-- an object without the member of a key; any other value as it is
abbrev pub without : List ℕ → Data → Data
without key (object members) = object (members_without key members)
without key other = other

-- a rule as replies show it, but without its rank: what the body of a command holds
abbrev pub rule_body : Rule → Data
rule_body rule = without (codes "rank") (rule_data rule)

-- the text of a rule, with its rank and without it, reads back as the value that was written
abbrev pub RulesAreReadBack : Type 0
RulesAreReadBack = (rule : Rule) → IsRule rule
    → (read (compact_text (rule_data rule)) ≡ Some (rule_data rule)) × (read (compact_text (rule_body rule)) ≡ Some (rule_body rule))
