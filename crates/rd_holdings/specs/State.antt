-- What a desk holds: finite maps, and what each accepted command makes of them.
use Rattle.std.specs.Prelude.{◌≡◌, ◌≢◌, ℕ, ℤ, List, [], ◌++◌, Option, Some, None, IsSome, map, Bool, ◌==◌, ◌&&◌}
use Rattle.std.specs.declared.cmp.Ordering.{Ordering}
use Rattle.std.specs.Cmp.Lexicographic.{slice_cmp}
use Rattle.std.specs.Ordering.{nat_cmp, int_cmp, on, then_cmp}
use Rattle.std.specs.FinMap.{FinMap, get, insert, remove, entries, retain_keys}
use Rattle.rd_policy.specs.declared.audience.Audience.{Audience}
use Rattle.rd_policy.specs.declared.audience.Audience.TheVariants.{Staff}
use Rattle.rd_policy.specs.declared.audience.Audiences.{Audiences}
use Rattle.rd_policy.specs.declared.rule.Band.{Band}
use Rattle.rd_policy.specs.declared.rule.Band.TheVariants.{Takedown, Deed}
use Rattle.rd_policy.specs.declared.rule.Effect.{Effect}
use Rattle.rd_policy.specs.declared.rule.Rule.{Rule}
use Rattle.rd_policy.specs.declared.select.Select.{Select}
use Rattle.rd_holdings.specs.declared.rows.DeedRow.{DeedRow}
use Rattle.rd_holdings.specs.declared.rows.ImageRow.{ImageRow}
use Rattle.rd_holdings.specs.declared.rows.Outcome.{Outcome}
use Rattle.rd_holdings.specs.declared.rows.Accession.{Accession}

-- The place of a rule: its band, the number of its accession or deed, and its rank.
pub record Place : Type 0 where
  pub band : Band
  pub scope : ℕ
  pub rank : ℕ

-- a number for each band, by which rules are ordered: takedowns come before the rules of deeds
abbrev pub band_code : Band → ℕ
band_code Takedown = 0
band_code Deed = 1

-- the rule stands in this band, for this number
abbrev pub is_at : Band → ℕ → Band → ℕ → Bool
is_at band scope other_band other_scope = (band_code other_band == band_code band) && (other_scope == scope)

-- takedowns come before deed rules, then the lower number, then the lower rank
abbrev pub place_cmp : Place → Place → Ordering
place_cmp = then_cmp (on (λ place. band_code place.band) nat_cmp) (then_cmp (on (λ place. place.scope) nat_cmp) (on (λ place. place.rank) nat_cmp))

-- The rest of a rule.
pub record Terms : Type 0 where
  pub audiences : Audiences
  pub from : Option ℤ
  pub until : Option ℤ
  pub select : Select
  pub effect : Effect

-- the rule with a place and terms
abbrev pub rule_of : Place × Terms → Rule
rule_of entry = record {
  band = entry.0.band;
  scope = entry.0.scope;
  rank = entry.0.rank;
  audiences = entry.1.audiences;
  from = entry.1.from;
  until = entry.1.until;
  select = entry.1.select;
  effect = entry.1.effect;
}

-- the place of a rule
abbrev pub place_of : Rule → Place
place_of rule = record { band = rule.band; scope = rule.scope; rank = rule.rank }

-- the terms of a rule
abbrev pub terms_of : Rule → Terms
terms_of rule = record { audiences = rule.audiences; from = rule.from; until = rule.until; select = rule.select; effect = rule.effect }

-- An accession that was checked, and the day.
pub record Checkup : Type 0 where
  pub acc : ℕ
  pub day : ℤ

-- checks by the number of their accession, then by their day
abbrev pub checkup_cmp : Checkup → Checkup → Ordering
checkup_cmp = then_cmp (on (λ checkup. checkup.acc) nat_cmp) (on (λ checkup. checkup.day) int_cmp)

-- digests by their bytes
abbrev pub digest_cmp : List ℕ → List ℕ → Ordering
digest_cmp = slice_cmp nat_cmp

-- What a desk holds, with at most one entry for each number, place or digest, and for each accession and day of a
-- check: five finite maps.
pub record Desk : Type 0 where
  -- deeds by number, images by accession, rules by place
  pub deeds : FinMap nat_cmp DeedRow
  pub images : FinMap nat_cmp ImageRow
  pub rules : FinMap place_cmp Terms
  -- who holds a desk key, by its digest
  pub keys : FinMap digest_cmp Audience
  -- what the checks of images found
  pub checks : FinMap checkup_cmp Outcome

-- ---- what stands

-- the accession or the deed of a rule stands
abbrev pub Stands : Desk → Band → ℕ → Type 0
Stands desk Takedown scope = IsSome (get desk.images scope)
Stands desk Deed scope = IsSome (get desk.deeds scope)

-- a digest is that of a staff key
abbrev pub IsStaff : Desk → List ℕ → Type 0
IsStaff desk digest = get desk.keys digest ≡ Some Staff

-- a staff key with another digest stands
abbrev pub HasOtherStaff : Desk → List ℕ → Type 0
HasOtherStaff desk digest = (other : List ℕ) × (other ≢ digest) × IsStaff desk other

-- without this key, or with it for another audience, no staff key would be left
abbrev pub IsLastStaff : Desk → List ℕ → Type 0
IsLastStaff desk digest = IsStaff desk digest × ¬ HasOtherStaff desk digest

-- the same kind, deed and digest
abbrev pub IsSameImage : ImageRow → ImageRow → Type 0
IsSameImage image other = (image.kind ≡ other.kind) × (image.deed ≡ other.deed) × (image.digest ≡ other.digest)

-- an image of another kind, deed or digest stands at the accession
abbrev pub HasOtherImage : Desk → ℕ → ImageRow → Type 0
HasOtherImage desk acc image = (standing : ImageRow) × (get desk.images acc ≡ Some standing) × ¬ IsSameImage standing image

-- the rules of one band and scope, by rank
abbrev pub rules_at : Desk → Band → ℕ → List Rule
rules_at desk band scope = map rule_of (entries (retain_keys desk.rules (λ place. is_at band scope place.band place.scope)))

-- the rules for an accession with this image: its takedowns, then the rules of its deed; without an image none
abbrev pub rules_with : Desk → ℕ → Option ImageRow → List Rule
rules_with desk acc None = []
rules_with desk acc (Some image) = rules_at desk Takedown acc ++ rules_at desk Deed image.deed

-- the takedowns of an accession and then the rules of its deed, each by rank; none where it is not there
abbrev pub rules_for : Desk → ℕ → List Rule
rules_for desk acc = rules_with desk acc (get desk.images acc)

-- all rules, by place: takedowns before rules of deeds, then by number, then by rank
abbrev pub all_rules : Desk → List Rule
all_rules desk = map rule_of (entries desk.rules)

-- an image without its digest and its bytes: its kind and its deed
abbrev pub accession_of : ImageRow → Accession
accession_of image = record { kind = image.kind; deed = image.deed }

-- an accession with its number, its kind and its deed
abbrev pub registered : ℕ × ImageRow → ℕ × Accession
registered e = (e.0, accession_of e.1)

-- ---- what the commands make of it

-- a deed is put at its number, in place of one that stands there
abbrev pub with_deed : ℕ → DeedRow → Desk → Desk
with_deed num deed desk = record desk { deeds = insert desk.deeds num deed }

-- an image is put where none stands, and one that stands is kept
abbrev pub put_or_kept : Option ImageRow → ℕ → ImageRow → Desk → Desk
put_or_kept None acc image desk = record desk { images = insert desk.images acc image }
put_or_kept (Some standing) acc image desk = desk

-- an image that stands is kept
abbrev pub with_image : ℕ → ImageRow → Desk → Desk
with_image acc image desk = put_or_kept (get desk.images acc) acc image desk

-- a rule is put at its place, in place of one that stands there
abbrev pub with_rule : Place → Terms → Desk → Desk
with_rule place terms desk = record desk { rules = insert desk.rules place terms }

-- the rule at a place goes, if one stands there
abbrev pub without_rule : Place → Desk → Desk
without_rule place desk = record desk { rules = remove desk.rules place }

-- the outcome of a check is put for its accession and day, in place of one of the same day
abbrev pub with_check : ℕ → ℤ → Outcome → Desk → Desk
with_check acc day outcome desk = record desk { checks = insert desk.checks (record { acc = acc; day = day }) outcome }

-- a check goes only where another is put in its place
abbrev pub without_check : ℕ → ℤ → Desk → Desk
without_check acc day desk = record desk { checks = remove desk.checks (record { acc = acc; day = day }) }

-- a key is put for an audience, in place of the audience that it had, if it had one
abbrev pub with_key : List ℕ → Audience → Desk → Desk
with_key digest audience desk = record desk { keys = insert desk.keys digest audience }

-- a key goes, if it stands
abbrev pub without_key : List ℕ → Desk → Desk
without_key digest desk = record desk { keys = remove desk.keys digest }
