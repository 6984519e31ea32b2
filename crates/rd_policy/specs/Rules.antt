-- The words for what a rule does, and the limits of a rule's values: this project's.
use Rattle.std.specs.Prelude.{◌≡◌, ◌≢◌, ℕ, ◌≤◌, List, All, codes, length, IfSome}
use Rattle.rd_policy.specs.declared.limits.TheConstants.{LAST_RANK, LAST_SCOPE, LAST_SLOT}
use Rattle.rd_policy.specs.declared.rule.Band.TheVariants.{Takedown}
use Rattle.rd_policy.specs.declared.rule.Effect.{Effect}
use Rattle.rd_policy.specs.declared.rule.Effect.TheVariants.{Deny, List as Listed, Read}
use Rattle.rd_policy.specs.declared.rule.Rule.{Rule}
use Rattle.rd_policy.specs.declared.select.Select.{Select}
use Rattle.rd_policy.specs.declared.select.Select.TheVariants.{All as AllFiles, Slot, Prefix, User, Kind}
use Rattle.rd_policy.specs.Audiences.{IsEmpty}
use Rattle.rd_policy.specs.Days.{IsDay}

-- the word for what a rule does
abbrev pub effect_word : Effect → List ℕ
effect_word Deny = codes "deny"
effect_word Listed = codes "list"
effect_word Read = codes "read"

-- a number of an accession or a deed
abbrev pub IsScope : ℕ → Type 0
IsScope number = (1 ≤ number) × (number ≤ LAST_SCOPE)

-- a rank
abbrev pub IsRank : ℕ → Type 0
IsRank rank = (1 ≤ rank) × (rank ≤ LAST_RANK)

-- The text has at most so many bytes, each a printable character of ASCII or a blank.
pub record IsPlainText (most : ℕ) (text : List ℕ) : Type 0 where
  pub few : length text ≤ most
  pub plain : All (λ byte. (32 ≤ byte) × (byte ≤ 126)) text

-- what a rule may select: slots to 9,999, prefixes to 64 bytes, users to 15, types to 16 bytes
abbrev pub IsSelect : Select → Type 0
IsSelect AllFiles = Unit {0}
IsSelect (Slot slot) = slot ≤ LAST_SLOT
IsSelect (Prefix text) = IsPlainText 64 text
IsSelect (User user) = user ≤ 15
IsSelect (Kind text) = IsPlainText 16 text

-- The values of the rule are within their limits. A first day that is not before the end is allowed: such
-- a rule never matches.
pub record IsRule (rule : Rule) : Type 0 where
  pub scope : IsScope rule.scope
  pub rank : IsRank rule.rank
  pub audiences : ¬ IsEmpty rule.audiences
  pub from : IfSome rule.from IsDay
  pub until : IfSome rule.until IsDay
  pub select : IsSelect rule.select
  pub takedown : rule.band ≡ Takedown → rule.effect ≢ Read
