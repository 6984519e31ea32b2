-- The values that a path names: each by the part of the path that stands where its row has the name in braces.
use Rattle.std.specs.Prelude.{◌≤◌, ℕ, ℤ, pos, List, Option, Some, None, codes, replicate}
use Rattle.matchit.specs.Params.{named, walk}
use Rattle.matchit.specs.declared.params.Params.{Params}
use Rattle.rd_geometry.specs.declared.kind.Kind.TheVariants.{D64}
use Rattle.rd_policy.specs.Days.{IsDay}
use Rattle.rd_policy.specs.Rules.{IsScope, IsRank}
use Rattle.rd_policy.specs.declared.limits.TheConstants.{LAST_SLOT}
use Rattle.rd_policy.specs.declared.rule.Band.{Band}
use Rattle.rd_policy.specs.declared.rule.Band.TheVariants as band
use Rattle.rd_protocol.specs.Parts.{digest_of, kind_of, rank_of, scope_of, slot_of}
use Rattle.rd_messages.specs.PathDays.{day_of_date}
use Rattle.rd_messages.specs.declared.values.Values.{Values}

-- the ? of the logic: the second step, where the first gave a value
infixl 10 ◌>>=◌
abbrev pub ◌>>=◌ : {A B : Type 0} → Option A → (A → Option B) → Option B
Some value >>= next = next value
None >>= next = None

-- each name with the part of a path that stands for it
abbrev pub NamedParts : Type 0
NamedParts = List (List ℕ × List ℕ)

-- what the part that has a name writes, or the least that may be written, if there is no such part
abbrev pub value_at : {A : Type 0} → Option (List ℕ) → (List ℕ → Option A) → A → Option A
value_at None read least = Some least
value_at (Some part) read least = read part

-- the day that the parts name; 1970-01-01 if they name none
abbrev pub day_in : NamedParts → Option ℤ
day_in parts = value_at (named (codes "date") parts) day_of_date (pos 0)

-- the values that the parts name, of which the day is this
abbrev pub values_on : ℤ → NamedParts → Option Values
values_on day parts = do
  acc ← value_at (named (codes "acc") parts) scope_of 1
  slot ← value_at (named (codes "slot") parts) slot_of 0
  rank ← value_at (named (codes "rank") parts) rank_of 1
  kind ← value_at (named (codes "kind") parts) kind_of D64
  deed ← value_at (named (codes "deed") parts) scope_of 1
  digest ← value_at (named (codes "digest") parts) digest_of (replicate 32 0)
  Some (record { acc = acc; slot = slot; rank = rank; day = day; kind = kind; deed = deed; digest = digest })

-- the values that the parts name, where each is well written
abbrev pub values_in : NamedParts → Option Values
values_in parts = do
  day ← day_in parts
  values_on day parts

-- the number of the accession or the deed that a rule of a band is for
abbrev pub scope_in : Band → Values → ℕ
scope_in band.Takedown values = values.acc
scope_in band.Deed values = values.deed

-- The values are within the limits of what they count; a kind and a digest may be any.
pub record AreWithin (values : Values) : Type 0 where
  pub acc : IsScope values.acc
  pub slot : values.slot ≤ LAST_SLOT
  pub rank : IsRank values.rank
  pub day : IsDay values.day
  pub deed : IsScope values.deed

-- ---- inside

-- what the parameters of a route took from a path
abbrev pub parts_in : Params → NamedParts
parts_in params = walk params.pattern.now params.text.now params.path.now params.names.now 0 0
