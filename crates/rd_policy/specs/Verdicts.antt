-- The verdict on a file, from the set of the rules about it. A set of rules is a test of a rule.
use Rattle.std.specs.Prelude.{◌≡◌, ℕ, ℤ, ◌<◌, ◌⊎◌, ◌++◌, List, AllPairs, Contains, codes}
use Rattle.std.specs.Fmt.{decimal}
use Rattle.rd_volume.specs.declared.found.Found.{Found}
use Rattle.rd_policy.specs.declared.audience.Audience.{Audience}
use Rattle.rd_policy.specs.declared.rule.Band.{Band}
use Rattle.rd_policy.specs.declared.rule.Band.TheVariants.{Takedown, Deed}
use Rattle.rd_policy.specs.declared.rule.Effect.TheVariants.{Deny}
use Rattle.rd_policy.specs.declared.rule.Rule.{Rule}
use Rattle.rd_policy.specs.declared.verdict.Label.{Label}
use Rattle.rd_policy.specs.declared.verdict.Label.TheVariants.{Takedown as TakedownLabel, Deed as DeedLabel, Default}
use Rattle.rd_policy.specs.declared.verdict.Verdict.{Verdict}
use Rattle.rd_policy.specs.Matches.{Matches}

-- the first rule comes before the second: a takedown before a rule of a deed, and within a band the lower
-- rank before the higher
abbrev pub Precedes : Rule → Rule → Type 0
Precedes first second =
    ((first.band ≡ Takedown) × (second.band ≡ Deed))
    ⊎ ((first.band ≡ second.band) × (first.rank < second.rank))

-- Each rule of the list comes before those after it, and the rules of a band have one scope.
pub record AreInOrder (rules : List Rule) : Type 0 where
  pub rising : AllPairs Precedes rules
  pub one_scope : AllPairs (λ first second. first.band ≡ second.band → first.scope ≡ second.scope) rules

-- The rule decides: it is one of the rules and matches, and none of the rules that come before it does.
pub record Decides (rules : Rule → Type 0) (audience : Audience) (day : ℤ) (file : Found) (rule : Rule) : Type 0 where
  pub among : rules rule
  pub matches : Matches rule audience day file
  pub first : (other : Rule) → rules other → Precedes other rule → ¬ Matches other audience day file

-- none of the rules matches
abbrev pub NoneMatches : (Rule → Type 0) → Audience → ℤ → Found → Type 0
NoneMatches rules audience day file = (rule : Rule) → rules rule → ¬ Matches rule audience day file

-- the label of a rule, by its band, scope and rank
abbrev pub label_of : Band → ℕ → ℕ → Label
label_of Takedown accession rank = TakedownLabel accession rank
label_of Deed deed rank = DeedLabel deed rank

-- what a rule says when it decides
abbrev pub verdict_of : Rule → Verdict
verdict_of rule = record { effect = rule.effect; label = label_of rule.band rule.scope rule.rank }

-- what holds if no rule matches: to deny, with the label D0
abbrev pub DEFAULT : Verdict
DEFAULT = record { effect = Deny; label = Default }

-- the verdict: what the deciding rule says, or to deny if no rule matches
abbrev pub IsVerdict : (Rule → Type 0) → Audience → ℤ → Found → Verdict → Type 0
IsVerdict rules audience day file verdict =
    ((rule : Rule) × Decides rules audience day file rule × (verdict ≡ verdict_of rule))
    ⊎ (NoneMatches rules audience day file × (verdict ≡ DEFAULT))

-- in a list of rules in order, two rules that decide are the same
abbrev pub OneRuleDecides : Type 0
OneRuleDecides = (rules : List Rule) (audience : Audience) (day : ℤ) (file : Found) (one other : Rule)
    → AreInOrder rules
    → Decides (Contains rules) audience day file one
    → Decides (Contains rules) audience day file other
    → one ≡ other

-- the rules of a list in order give one verdict
abbrev pub OneVerdict : Type 0
OneVerdict = (rules : List Rule) (audience : Audience) (day : ℤ) (file : Found) (one other : Verdict)
    → AreInOrder rules
    → IsVerdict (Contains rules) audience day file one
    → IsVerdict (Contains rules) audience day file other
    → one ≡ other

-- the text of a label: `T<accession>.<rank>`, `R<deed>.<rank>` or `D0`, as T12.1 for the rule of rank 1 on accession 12
abbrev pub label_text : Label → List ℕ
label_text (TakedownLabel accession rank) = codes "T" ++ decimal accession ++ codes "." ++ decimal rank
label_text (DeedLabel deed rank) = codes "R" ++ decimal deed ++ codes "." ++ decimal rank
label_text Default = codes "D0"
