-- When a rule matches.
use Rattle.std.specs.Prelude.{◌≡◌, ℕ, ℤ, ◌≤ℤ◌, ◌<ℤ◌, List, ◌++◌, Some, IfSome}
use Rattle.rd_volume.specs.declared.found.Found.{Found}
use Rattle.rd_policy.specs.declared.audience.Audience.{Audience}
use Rattle.rd_policy.specs.declared.rule.Rule.{Rule}
use Rattle.rd_policy.specs.declared.select.Select.{Select}
use Rattle.rd_policy.specs.declared.select.Select.TheVariants.{All as AllFiles, Slot, Prefix, User, Kind}
use Rattle.rd_policy.specs.Audiences.{IsAmong}

-- the text begins with the prefix, byte by byte: small and capital letters differ
abbrev pub BeginsWith : List ℕ → List ℕ → Type 0
BeginsWith text prefix = (rest : List ℕ) × (text ≡ prefix ++ rest)

-- the selector fits the file; a file without a user fits no user
abbrev pub Selects : Select → Found → Type 0
Selects AllFiles file = Unit {0}
Selects (Slot slot) file = file.slot ≡ slot
Selects (Prefix prefix) file = BeginsWith file.name prefix
Selects (User user) file = file.user ≡ Some user
Selects (Kind text) file = file.ty ≡ text

-- The rule matches for an audience, a day and a file. Its first day counts, the day of its end does not.
pub record Matches (rule : Rule) (audience : Audience) (day : ℤ) (file : Found) : Type 0 where
  pub asked : IsAmong rule.audiences audience
  pub begun : IfSome rule.from (λ first. first ≤ℤ day)
  pub not_over : IfSome rule.until (λ end. day <ℤ end)
  pub selected : Selects rule.select file
