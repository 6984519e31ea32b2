-- What is read of a text: the entry of which it is the line.
use Rattle.std.specs.Prelude.{◌≡◌, ℕ, List, [], Some, codes}
use Rattle.serde_json.specs.Data.{Data, object, member}
use Rattle.serde_json.specs.Find.{get}
use Rattle.rd_policy.specs.Rules.{IsRank, IsRule, IsScope}
use Rattle.rd_policy.specs.declared.rule.Band.{Band}
use Rattle.rd_policy.specs.declared.rule.Rule.{Rule}
use Rattle.rd_protocol.specs.Texts.{natural, one_member, rule_data}
use Rattle.rd_history.specs.Entries.{HasDigests, IsChange, IsEntry, TellsDigests}
use Rattle.rd_history.specs.Lines.{change_data, line_of}
use Rattle.rd_history.specs.declared.entry.Change.{Change}
use Rattle.rd_history.specs.declared.entry.Change.TheVariants.{DropRule}
use Rattle.rd_history.specs.declared.entry.Entry.{Entry}

-- The text is the line of the entry, whose values are within their limits, with digests of 32 bytes.
pub record IsLineOf (text : List ℕ) (entry : Entry) : Type 0 where
  pub within : IsEntry entry
  pub digests : HasDigests entry
  pub written : line_of entry ≡ text

-- the text is the line of no entry
abbrev pub IsNoLine : List ℕ → Type 0
IsNoLine text = (entry : Entry) → ¬ IsLineOf text entry

-- the first member of an object alone; of any other value, that value under an empty key
abbrev pub first_member : Data → Data
first_member (object (member key value ms)) = one_member key value
first_member other = one_member [] other

-- the change is each that is written as the value
abbrev pub Reads : Data → Change → Type 0
Reads value read = (change : Change) → IsChange change → TellsDigests change → value ≡ change_data change → read ≡ change

-- the rule is each of this band whose scope stands at this place of the value, and whose terms are its rule
abbrev pub ReadsRule : Band → List ℕ → Data → Rule → Type 0
ReadsRule band place value read =
    (rule : Rule) → IsRule rule → rule.band ≡ band → get place value ≡ Some (natural rule.scope)
    → get (codes "rule") value ≡ Some (rule_data rule) → read ≡ rule

-- the change is each that drops what the value tells so: a rule of this band, by the scope at this place and its rank
abbrev pub ReadsPlace : Band → List ℕ → Data → Change → Type 0
ReadsPlace band place value read =
    (scope rank : ℕ) → IsScope scope → IsRank rank → get place value ≡ Some (natural scope)
    → get (codes "rank") value ≡ Some (natural rank) → read ≡ DropRule band scope rank
