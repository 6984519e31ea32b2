-- What stands at the keys of an object.
use Rattle.std.proofs.Common.{◌≡◌, ◌∙◌, ℕ, zero, suc, ◌<◌, ℤ, List, [], ◌∷◌, ◌||◌, length, get_or, map, Bool, true, false, Bor, bytes_eq, Option, Some, None, Contains, IfNone, refl, sym, subst, arith, inl, inr}
use Rattle.std.specs.List.{list_any}
use Rattle.std.proofs.lemmas.Bool.{or_cases, or_left}
use Rattle.std.proofs.lemmas.Option.{same_Some}
use Rattle.std.proofs.lemmas.Slice.Eq.{bytes_eq-Decides}
use Rattle.serde_json.specs.Data.{Data, array}
use Rattle.serde_json.specs.Find.{as_array, get}
use Rattle.serde_json.specs.View.{items_of}
use Rattle.rd_policy.specs.Dates.{IsDateOf, IsNoDate}
use Rattle.rd_policy.specs.declared.audience.Audiences.{Audiences}
use Rattle.rd_messages.specs.Objects.{text_at}
use Rattle.rd_messages.specs.RequestBodies.{HasAudiencesAt, HasDayAt, NameAudiences}
use Rattle.rd_messages.proofs.BodyUniqueness.{no_text}
use Rattle.rd_messages.proofs.JsonValues.{is_array, items_of_same}

-- ---- one key of several

or_later : (x y : Bool) → y ≡ true → (x || y) ≡ true
or_later true y e = refl
or_later false y e = e

pub any_contains : (keys : List (Bor (List ℕ))) (key : List ℕ) → list_any (λ other. bytes_eq other.now key) keys ≡ true
    → Contains (map (λ other. other.now) keys) key
any_contains [] key e = absurd (cc)
any_contains (other ∷ keys) key e =
    elim (or_cases (bytes_eq other.now key) (list_any (λ one. bytes_eq one.now key) keys) e) as (λ _. Contains (map (λ one. one.now) (other ∷ keys)) key) [
      | inl here ↦ (0, omega arith, (bytes_eq-Decides other.now key).0 here)
      | inr later ↦ let rest = any_contains keys key later in (suc rest.0, omega (arith, rest.1), rest.2)
    ]

any_at : (keys : List (Bor (List ℕ))) (key : List ℕ) (k : ℕ) → k < length (map (λ other. other.now) keys)
    → get_or (map (λ other. other.now) keys) k key ≡ key → list_any (λ other. bytes_eq other.now key) keys ≡ true
any_at [] key k inside at = absurd (omega arith)
any_at (other ∷ keys) key zero inside at = or_left (bytes_eq other.now key) _ ((bytes_eq-Decides other.now key).1 at)
any_at (other ∷ keys) key (suc k) inside at = or_later (bytes_eq other.now key) _ (any_at keys key k (omega arith) at)

pub any_from_contains : (keys : List (Bor (List ℕ))) (key : List ℕ) → Contains (map (λ other. other.now) keys) key
    → list_any (λ other. bytes_eq other.now key) keys ≡ true
any_from_contains keys key has = any_at keys key has.0 has.1 has.2

-- ---- members

pub if_none : {X : Type 0} (o : Option X) {P Q : Type 0} → (P → Q) → IfNone o P → IfNone o Q
if_none None f p = f p
if_none (Some x) f p = tt

-- a text that is no date is no day
pub no_day : (key : List ℕ) (value : Data) (date : List ℕ) → text_at key value ≡ Some date → IsNoDate date
    → (day : Option ℤ) → ¬ HasDayAt key value day
no_day key value date is none None has = no_text key value date has is
no_day key value date is none (Some day) has = none day (subst (IsDateOf day) (same_Some has.0 date (sym has.1 ∙ is)) has.2)

-- an array whose items name no audiences
pub no_audiences : (key : List ℕ) (value found : Data) (values : List Data) → Some found ≡ get key value → Some (items_of values) ≡ as_array found
    → ((set : Audiences) → ¬ NameAudiences values set) → (set : Audiences) → ¬ HasAudiencesAt key value set
no_audiences key value found values there items none set has =
    let whole : found ≡ array (items_of values) = is_array found (items_of values) items in
    let other : found ≡ array (items_of has.values) = same_Some found (array (items_of has.values)) (there ∙ has.listed) in
    let same : items_of has.values ≡ items_of values = cc in
    none set (subst (λ values. NameAudiences values set) (items_of_same has.values values same) has.audiences)
