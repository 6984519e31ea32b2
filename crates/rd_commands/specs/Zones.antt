-- The zone of a desk's clocks, as the words of a command give it.
use Rattle.std.specs.Prelude.{◌≡◌, ◌⊎◌, ℕ, Bool, List, None, Option, Some, codes, false, true}
use Rattle.clap.specs.Words.{Row, first_of, one_of}
use Rattle.rd_policy.specs.Zones.{IsZoneRule}

-- the rule that a text gives; without a text the clocks are those of UTC
abbrev pub rule_text : Option (List ℕ) → List ℕ
rule_text (Some text) = text
rule_text None = codes "UTC0"

-- the text, or its absence, gives this rule
abbrev pub IsRuleNamed : Option (List ℕ) → List ℕ → Type 0
IsRuleNamed given rule = (rule ≡ rule_text given) × IsZoneRule rule

-- what `clap` found for a command has a rule for its clocks
abbrev pub HasZoneRule : List Row → Type 0
HasZoneRule rows = IsZoneRule (rule_text (first_of (codes "zone") rows))

-- the command of this name has an option for the zone of a desk's clocks: `serve`, `import`, `export`, `check` or
-- `show`
abbrev pub HasClocks : List ℕ → Type 0
HasClocks name = (name ≡ codes "serve") ⊎ ((name ≡ codes "import") ⊎ ((name ≡ codes "export") ⊎ ((name ≡ codes "check") ⊎ (name ≡ codes "show"))))

-- what a flag tells: its text is that of the truth value, and without a text it is not set
abbrev pub IsFlagGiven : Option (List ℕ) → Bool → Type 0
IsFlagGiven (Some text) true = text ≡ codes "true"
IsFlagGiven (Some text) false = text ≡ codes "false"
IsFlagGiven None flag = flag ≡ false

-- what `clap` found for a command tells whether the clock is trusted
abbrev pub TellsTrust : List Row → Bool → Type 0
TellsTrust rows trusted = IsFlagGiven (one_of (codes "trust-clock") rows) trusted
