-- The lines of what stands have what stands.
use Rattle.std.proofs.Common.{◌≡◌, ◌⊎◌, ◌∙◌, inl, inr, ℕ, List, [], ◌∷◌, Bool, true, false, cond, IsSome, Option, Some, None, ap, map, refl, subst, sym}
use Rattle.std.specs.FinMap.{entries, get, same_entries_map, same_map}
use Rattle.std.specs.List.{filter}
use Rattle.rd_policy.specs.declared.audience.Audience.{Audience}
use Rattle.rd_policy.specs.declared.rule.Band.{Band}
use Rattle.rd_policy.specs.declared.rule.Band.TheVariants.{Takedown, Deed}
use Rattle.rd_policy.specs.declared.rule.Rule.{Rule}
use Rattle.rd_holdings.specs.Lawful.{IsLawful}
use Rattle.rd_protocol.specs.StaffLists.{deed_line, deed_lines, has_rules, key_lines, takedown_line, takedown_lines}
use Rattle.rd_holdings.specs.State.{Desk, Place, Stands, Terms, place_cmp, place_of, rule_of, rules_at, terms_of}
use Rattle.std.specs.Ordering.{nat_cmp}
use Rattle.rd_protocol.specs.declared.response.DeedLine.{DeedLine}
use Rattle.rd_protocol.specs.declared.response.KeyLine.{KeyLine}
use Rattle.rd_protocol.specs.declared.response.TakedownLine.{TakedownLine}
use Rattle.rd_holdings.specs.declared.rows.DeedRow.{DeedRow}
use Rattle.rd_holdings.specs.declared.rows.ImageRow.{ImageRow}
use Rattle.rd_holdings.proofs.KeyOrders.{number_order, place_order}
use Rattle.rd_holdings.proofs.Members.{Has, from_map, got_entry, in_map}
use Rattle.rd_holdings.proofs.RulesFor.{listed_here, stands_here}

-- ---- lists and options

in_filter : {A : Type 0} (test : A → Bool) (xs : List A) (x : A) → Has xs x → test x ≡ true → Has (filter test xs) x
in_filter test [] x none passes = absurd none
in_filter test (y ∷ xs) x (inl is) passes = go (test y) (ap test (sym is) ∙ passes)
  where
    go : (b : Bool) → b ≡ true → Has (cond b (y ∷ filter test xs) (filter test xs)) x
    go true h = inl is
    go false h = absurd cc
in_filter test (y ∷ xs) x (inr there) passes = go (test y) (in_filter test xs x there passes)
  where
    go : (b : Bool) → Has (filter test xs) x → Has (cond b (y ∷ filter test xs) (filter test xs)) x
    go true h = inr h
    go false h = h

pub from_filter : {A : Type 0} (test : A → Bool) (xs : List A) (x : A) → Has (filter test xs) x → Has xs x
from_filter test [] x none = absurd none
from_filter test (y ∷ xs) x there = go (test y) there (from_filter test xs x)
  where
    go : (b : Bool) → Has (cond b (y ∷ filter test xs) (filter test xs)) x → (Has (filter test xs) x → Has xs x) → (x ≡ y) ⊎ Has xs x
    go true (inl is) rest = inl is
    go true (inr more) rest = inr (rest more)
    go false more rest = inr (rest more)

same_option : {A : Type 0} (one other : Option A) → ((x : A) → one ≡ Some x → other ≡ Some x) → ((x : A) → other ≡ Some x → one ≡ Some x) → one ≡ other
same_option None None to from = refl
same_option None (Some x) to from = from x refl
same_option (Some x) other to from = sym (to x refl)

some_in : {A : Type 0} (found : Option A) → IsSome found → (x : A) × (found ≡ Some x)
some_in None is = absurd cc
some_in (Some x) is = (x, refl)

-- ---- deeds and keys

deed_of : DeedLine → ℕ × DeedRow
deed_of line = (line.deed, record { donor = line.donor; signed = line.signed })

deeds_in : (desk : Desk) (es : List (ℕ × DeedRow)) → map deed_of (map (deed_line desk) es) ≡ es
unfolding deed_of
deeds_in desk [] = refl
deeds_in desk (e ∷ es) = ap (λ more. e ∷ more) (deeds_in desk es)

pub same_deeds : (desk other : Desk) → deed_lines desk ≡ deed_lines other → desk.deeds ≡ other.deeds
same_deeds desk other same = same_entries_map desk.deeds other.deeds (sym (deeds_in desk (entries desk.deeds)) ∙ ap (map deed_of) same ∙ deeds_in other (entries other.deeds))

key_of : KeyLine → List ℕ × Audience
key_of line = (line.digest, line.audience)

keys_in : (es : List (List ℕ × Audience)) → map key_of (map (λ e. record { digest = e.0; audience = e.1 }) es) ≡ es
unfolding key_of
keys_in [] = refl
keys_in (e ∷ es) = ap (λ more. e ∷ more) (keys_in es)

pub same_keys : (desk other : Desk) → key_lines desk ≡ key_lines other → desk.keys ≡ other.keys
same_keys desk other same = same_entries_map desk.keys other.keys (sym (keys_in (entries desk.keys)) ∙ ap (map key_of) same ∙ keys_in (entries other.keys))

-- ---- rules

some_rules : (rules : List Rule) (rule : Rule) → Has rules rule → has_rules rules ≡ true
some_rules [] rule none = absurd none
some_rules (first ∷ rules) rule there = refl

module _ (desk other : Desk) (lawful : IsLawful desk) (deeds : deed_lines desk ≡ deed_lines other) (takedowns : takedown_lines desk ≡ takedown_lines other) where
  of_deed : (rule : Rule) (scope : ℕ) → IsSome (get desk.deeds scope) → Has (rules_at desk Deed scope) rule → get other.rules (place_of rule) ≡ Some (terms_of rule)
  of_deed rule scope stands here =
      let deed = some_in (get desk.deeds scope) stands in
      let line = in_map (deed_line desk) (entries desk.deeds) (scope, deed.0) (got_entry nat_cmp number_order desk.deeds scope deed.0 deed.1) in
      let there = from_map (deed_line other) (entries other.deeds) (deed_line desk (scope, deed.0)) (subst (λ lines. Has lines (deed_line desk (scope, deed.0))) deeds line) in
      let rules : rules_at desk Deed scope ≡ rules_at other Deed there.0.0 = ap (λ (l : DeedLine). l.rules) there.2 in
      (stands_here other Deed there.0.0 rule (subst (λ rules. Has rules rule) rules here)).0

  of_takedown : (rule : Rule) (scope : ℕ) → IsSome (get desk.images scope) → Has (rules_at desk Takedown scope) rule → get other.rules (place_of rule) ≡ Some (terms_of rule)
  of_takedown rule scope stands here =
      let image = some_in (get desk.images scope) stands in
      let mine : TakedownLine = takedown_line desk (scope, image.0) in
      let all = in_map (takedown_line desk) (entries desk.images) (scope, image.0) (got_entry nat_cmp number_order desk.images scope image.0 image.1) in
      let line = in_filter (λ (l : TakedownLine). has_rules l.rules) (map (takedown_line desk) (entries desk.images)) mine all (some_rules (rules_at desk Takedown scope) rule here) in
      let kept = from_filter (λ (l : TakedownLine). has_rules l.rules) (map (takedown_line other) (entries other.images)) mine (subst (λ lines. Has lines mine) takedowns line) in
      let there = from_map (takedown_line other) (entries other.images) mine kept in
      let rules : rules_at desk Takedown scope ≡ rules_at other Takedown there.0.0 = ap (λ (l : TakedownLine). l.rules) there.2 in
      (stands_here other Takedown there.0.0 rule (subst (λ rules. Has rules rule) rules here)).0

  by_band : (rule : Rule) (band : Band) → rule.band ≡ band → Stands desk band rule.scope → get desk.rules (place_of rule) ≡ Some (terms_of rule) → get other.rules (place_of rule) ≡ Some (terms_of rule)
  by_band rule Takedown is stands found = of_takedown rule rule.scope stands (listed_here desk Takedown rule.scope rule found is refl)
  by_band rule Deed is stands found = of_deed rule rule.scope stands (listed_here desk Deed rule.scope rule found is refl)

  rule_there : (place : Place) (terms : Terms) → get desk.rules place ≡ Some terms → get other.rules place ≡ Some terms
  rule_there place terms found = by_band (rule_of (place, terms)) place.band refl (lawful.rules place terms found).1 found

pub same_rules : (desk other : Desk) → IsLawful desk → IsLawful other → deed_lines desk ≡ deed_lines other → takedown_lines desk ≡ takedown_lines other → desk.rules ≡ other.rules
same_rules desk other one two deeds takedowns = same_map place_order.total place_order.same desk.rules other.rules (λ place.
    same_option (get desk.rules place) (get other.rules place) (rule_there desk other one deeds takedowns place) (rule_there other desk two (sym deeds) (sym takedowns) place))
