-- What the bodies of commands say. Each is the text of one object, with the keys named here and no
-- others. The limits of their values are checked later, with the whole request.
use Rattle.std.specs.Prelude.{◌≡◌, ◌≢◌, ◌↔◌, ◌⊎◌, ℕ, ℤ, List, [], ◌∷◌, Option, Some, None, AllPairs, Contains, codes, map}
use Rattle.serde_json.specs.Data.{Data, array, null, string}
use Rattle.serde_json.specs.Find.{get}
use Rattle.serde_json.specs.View.{items_of}
use Rattle.rd_policy.specs.Audiences.{IsAmong}
pub use Rattle.rd_policy.specs.Audiences.{audience_word}
use Rattle.rd_policy.specs.Dates.{IsDateOf}
use Rattle.rd_policy.specs.Rules.{IsRule, effect_word}
use Rattle.rd_policy.specs.declared.audience.Audience.{Audience}
use Rattle.rd_policy.specs.declared.audience.Audience.TheVariants.{Public}
use Rattle.rd_policy.specs.declared.audience.Audiences.{Audiences}
use Rattle.rd_policy.specs.declared.rule.Band.{Band}
use Rattle.rd_policy.specs.declared.rule.Rule.{Rule}
pub use Rattle.rd_protocol.specs.Texts.{select_data}
use Rattle.rd_messages.specs.Objects.{HasOnlyKeys, IsJson, one_member, text_at}

-- ---- deeds

-- The value says who gave the disks and on which day they signed the deed, as in
-- {"donor":"A. Curator","signed":"2019-05-04"}.
pub record TellsDeed (value : Data) (donor : List ℕ) (signed : ℤ) : Type 0 where
  pub date : List ℕ
  pub keys : HasOnlyKeys (codes "donor" ∷ codes "signed" ∷ []) value
  pub donor_text : text_at (codes "donor") value ≡ Some donor
  pub signed_text : text_at (codes "signed") value ≡ Some date
  pub day : IsDateOf signed date

-- The body is the text of a value that describes the deed.
pub record IsDeedBody (body donor : List ℕ) (signed : ℤ) : Type 0 where
  pub value : Data
  pub json : IsJson body value
  pub tells : TellsDeed value donor signed

-- the value describes no deed
abbrev pub TellsNoDeed : Data → Type 0
TellsNoDeed value = (donor : List ℕ) (signed : ℤ) → ¬ TellsDeed value donor signed

-- the body describes no deed
abbrev pub IsNoDeedBody : List ℕ → Type 0
IsNoDeedBody body = (donor : List ℕ) (signed : ℤ) → ¬ IsDeedBody body donor signed

-- ---- keys

-- The value says whether a desk key is for the reading room or for the staff: {"audience":"room"}
-- or {"audience":"staff"}.
pub record TellsKey (value : Data) (audience : Audience) : Type 0 where
  pub has_keys : audience ≢ Public
  pub written : value ≡ one_member (codes "audience") (string (audience_word audience))

-- The body is the text of a value that names the audience.
pub record IsKeyBody (body : List ℕ) (audience : Audience) : Type 0 where
  pub value : Data
  pub json : IsJson body value
  pub tells : TellsKey value audience

-- the value is not one that says for whom a desk key is
abbrev pub TellsNoKey : Data → Type 0
TellsNoKey value = (audience : Audience) → ¬ TellsKey value audience

-- the body is not one that says for whom a desk key is
abbrev pub IsNoKeyBody : List ℕ → Type 0
IsNoKeyBody body = (audience : Audience) → ¬ IsKeyBody body audience

-- ---- for whom a rule is

-- The values are the words of audiences, at least one and none twice, in any order; the set has these.
pub record NameAudiences (values : List Data) (set : Audiences) : Type 0 where
  pub named : List Audience
  pub written : values ≡ map (λ audience. string (audience_word audience)) named
  pub some : named ≢ []
  pub once : AllPairs ◌≢◌ named
  pub members : (audience : Audience) → IsAmong set audience ↔ Contains named audience

-- At the key stands an array that names the audiences of the set, as in ["public","room"].
pub record HasAudiencesAt (key : List ℕ) (value : Data) (set : Audiences) : Type 0 where
  pub values : List Data
  pub listed : get key value ≡ Some (array (items_of values))
  pub audiences : NameAudiences values set

-- ---- on which days

-- without a day, there is nothing or null at the key; with one, there is its date
abbrev pub HasDayAt : List ℕ → Data → Option ℤ → Type 0
HasDayAt key value None = (get key value ≡ None) ⊎ (get key value ≡ Some null)
HasDayAt key value (Some day) = (date : List ℕ) × (text_at key value ≡ Some date) × IsDateOf day date

-- ---- rules

-- the keys that the value of a rule may have
abbrev pub RULE_KEYS : List (List ℕ)
RULE_KEYS = codes "audiences" ∷ codes "effect" ∷ codes "from" ∷ codes "select" ∷ codes "until" ∷ []

-- The value says what a rule says, as in
-- {"audiences":["public"],"effect":"deny","select":{"all":true},"until":"2030-01-01"}. A rule
-- without a first day has no `from` there, or null, and one without a last day no `until`, or null; and there is no
-- other key. A number in `select` is whole, of at most 64 bits, and written without a sign, a fraction or an exponent:
-- 1.0, 1e0 and -0 do not count.
pub record TellsRule (value : Data) (rule : Rule) : Type 0 where
  pub keys : HasOnlyKeys RULE_KEYS value
  pub audiences : HasAudiencesAt (codes "audiences") value rule.audiences
  pub from : HasDayAt (codes "from") value rule.from
  pub until : HasDayAt (codes "until") value rule.until
  pub select : get (codes "select") value ≡ Some (select_data rule.select)
  pub effect : text_at (codes "effect") value ≡ Some (effect_word rule.effect)

-- The rule has this place: where it comes from, the number of its accession or deed, and its rank.
pub record HasPlace (band : Band) (scope rank : ℕ) (rule : Rule) : Type 0 where
  pub of_band : rule.band ≡ band
  pub of_scope : rule.scope ≡ scope
  pub of_rank : rule.rank ≡ rank

-- The body is the text of a value that describes the rule of this place.
pub record IsRuleBody (band : Band) (scope rank : ℕ) (body : List ℕ) (rule : Rule) : Type 0 where
  pub value : Data
  pub json : IsJson body value
  pub tells : TellsRule value rule
  pub at : HasPlace band scope rank rule

-- ---- inside

-- the value describes no rule whose values are within their limits
abbrev pub TellsNoRule : Data → Type 0
TellsNoRule value = (rule : Rule) → TellsRule value rule → ¬ IsRule rule

-- the body describes no rule of this place whose values are within their limits
abbrev pub IsNoRuleBody : Band → ℕ → ℕ → List ℕ → Type 0
IsNoRuleBody band scope rank body = (rule : Rule) → IsRuleBody band scope rank body rule → ¬ IsRule rule
