-- A rule that the desk shows, sent back to it.
use Rattle.std.specs.Prelude.{◌≡◌, ◌↔◌, ℕ, List}
use Rattle.serde_json.specs.Written.{compact_text}
use Rattle.rd_policy.specs.Days.{IsDay}
use Rattle.rd_policy.specs.Rules.{IsRule}
use Rattle.rd_policy.specs.declared.rule.Rule.{Rule as NewRule}
use Rattle.rd_protocol.specs.RuleTexts.{rule_body}
use Rattle.rd_protocol.specs.declared.request.What.{What}
use Rattle.rd_protocol.specs.declared.request.What.TheVariants as what
use Rattle.rd_messages.specs.Asked.{IsWhat}
use Rattle.rd_messages.specs.PathValues.{scope_in}
use Rattle.rd_messages.specs.declared.method.Method.TheVariants.{Put}
use Rattle.rd_messages.specs.declared.table.Subject.TheVariants.{Rule, Rehearsal}
use Rattle.rd_messages.specs.declared.values.Values.{Values}

-- the text of a rule as replies show it, with its rank taken off
abbrev pub shown_text : NewRule → List ℕ
shown_text rule = compact_text (rule_body rule)

-- the values name the place of the rule
abbrev pub NamePlace : NewRule → Values → Type 0
NamePlace rule values = (scope_in rule.band values ≡ rule.scope) × (values.rank ≡ rule.rank)

-- sent as a body to the place of the rule, it asks to put exactly this rule
abbrev pub ShownRulesArePut : Type 0
ShownRulesArePut = (rule : NewRule) → IsRule rule → (values : Values) → NamePlace rule values → (asked : What)
    → IsWhat (Rule rule.band) values Put (shown_text rule) asked ↔ (asked ≡ what.PutRule rule)

-- sent to a rehearsal at that place, it asks to rehearse exactly this rule on that day
abbrev pub ShownRulesAreRehearsed : Type 0
ShownRulesAreRehearsed = (rule : NewRule) → IsRule rule → (values : Values) → NamePlace rule values → IsDay values.day → (asked : What)
    → IsWhat (Rehearsal rule.band) values Put (shown_text rule) asked ↔ (asked ≡ what.RehearseRule values.day rule)
