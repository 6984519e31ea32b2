-- All rules in one list: that they ascend, and where those of one band and number are among them.
use Rattle.rd_store.proofs.Common.{◌≡◌, ℕ, ◌+◌, ◌<◌, ◌≤◌, List, [], ◌∷◌, map, take, drop, length, Bool, true, not, T, ◌&&◌, ◌==◌, refl, sym, ap, subst, subst₂, ◌∙◌, arith, Ordering, nat_cmp, is_le, is_lt, Less, get_or, entries, entries-from_sorted, from_entries, from_sorted, entries_sorted, is_sorted, AllAdjacentBelow, IsPartitionedBy, ordering_then, nat_tests, drop-map, get_or-map, length-map, filter-map, Band, Rule, entries_retained, is_rising, filter_same, map_map, between, parted, parted_map, sorted_after, pairs_rise, AreAllRules, is_below, is_up_to, side_of, Desk, Place, Terms, all_rules, place_cmp, place_of, rule_of, rules_at, terms_of, band_code, is_at}
use Rattle.std.specs.List.Sorted.{IsStrictlySortedBy}
use Rattle.std.proofs.lemmas.Map.Keys.{sorted_from_all_adjacent}
use Rattle.rd_tables.proofs.TestPlaces.{Turns}
use Rattle.rd_store.proofs.Orders.{place_order}

abbrev Entries : Type 0
Entries = List (Place × Terms)

-- ---- rules that ascend are all rules of a desk

abbrev entry_of_rule : Rule → Place × Terms
entry_of_rule rule = (place_of rule, terms_of rule)

-- each comes before the next
abbrev pub Rise : List Rule → ℕ → Type 0
Rise = AllAdjacentBelow (λ one other. is_lt (place_cmp (place_of one) (place_of other)) ≡ true)

less : (o : Ordering) → is_lt o ≡ true → o ≡ Less
less o is = grind (arith)

same_rules : (rules : List Rule) → map rule_of (map entry_of_rule rules) ≡ rules
same_rules [] = refl
same_rules (rule ∷ rules) = ap (λ more. rule ∷ more) (same_rules rules)

places_ascend : (rules : List Rule) → Rise rules (length rules) → IsStrictlySortedBy place_cmp (map place_of rules)
unfolding IsStrictlySortedBy
places_ascend [] rise = tt
places_ascend (rule ∷ rules) rise =
    let all = rule ∷ rules in
    sorted_from_all_adjacent place_order.total (map place_of all) (place_of rule) (λ k low.
    let within : k + 1 < length all = omega (arith, low, length-map all place_of) in
    let first = get_or-map place_of all k rule (place_of rule) (omega (arith, within)) in
    let second = get_or-map place_of all (k + 1) rule (place_of rule) within in
    subst₂ (λ x y. place_cmp x y ≡ Less) (sym first) (sym second) (less _ (rise k rule within)))

pub are_all : (rules : List Rule) → Rise rules (length rules) → AreAllRules rules
are_all rules rise =
    let es : Entries = map entry_of_rule rules in
    let up : T (is_sorted place_cmp es) = is_rising place_cmp place_order es (subst (IsStrictlySortedBy place_cmp) (sym (map_map (λ (e : Place × Terms). e.0) entry_of_rule rules)) (places_ascend rules rise)) in
    let desk : Desk = record { deeds = from_entries []; images = from_entries []; rules = from_sorted es; keys = from_entries []; checks = from_entries [] } in
    (desk, sym (same_rules rules) ∙ ap (map rule_of) (sym (entries-from_sorted place_cmp es up)))

-- all rules of a desk rise
pub all_rise : (rules : List Rule) → AreAllRules rules → (k : ℕ) (d : Rule) → k + 1 < length rules → is_lt (place_cmp (place_of (get_or rules k d)) (place_of (get_or rules (k + 1) d))) ≡ true
all_rise rules (desk, is) k d low =
    let es = entries desk.rules in
    let e = entry_of_rule d in
    let within : k + 1 < length es = omega (arith, low, ap length is, length-map es rule_of) in
    let first : get_or rules k d ≡ rule_of (get_or es k e) = ap (λ rs. get_or rs k d) is ∙ get_or-map rule_of es k e d (omega (arith, within)) in
    let second : get_or rules (k + 1) d ≡ rule_of (get_or es (k + 1) e) = ap (λ rs. get_or rs (k + 1) d) is ∙ get_or-map rule_of es (k + 1) e d within in
    subst₂ (λ x y. is_lt (place_cmp (place_of x) (place_of y)) ≡ true) (sym first) (sym second) (pairs_rise place_cmp es (entries_sorted desk.rules) k (k + 1) e (omega arith) within)

-- ---- those of one band and number

module _ (code scope : ℕ) where
  abbrev below : Rule → Bool
  below rule = is_below code scope rule

  abbrev up_to : Rule → Bool
  up_to rule = is_up_to code scope rule

  lower_below : (x y s t m n : ℕ) → is_lt (ordering_then (nat_cmp x y) (ordering_then (nat_cmp s t) (nat_cmp m n))) ≡ true → is_lt (ordering_then (nat_cmp y code) (nat_cmp t scope)) ≡ true → is_lt (ordering_then (nat_cmp x code) (nat_cmp s scope)) ≡ true
  lower_below x y s t m n low holds = grind (arith, nat_tests)

  lower_up_to : (x y s t m n : ℕ) → is_lt (ordering_then (nat_cmp x y) (ordering_then (nat_cmp s t) (nat_cmp m n))) ≡ true → is_le (ordering_then (nat_cmp y code) (nat_cmp t scope)) ≡ true → is_le (ordering_then (nat_cmp x code) (nat_cmp s scope)) ≡ true
  lower_up_to x y s t m n low holds = grind (arith, nat_tests)

  pub parted_below : (es : Entries) → T (is_sorted place_cmp es) → IsPartitionedBy below (map rule_of es)
  parted_below es sorted = parted_map below rule_of es (parted place_cmp (λ (place : Place). is_lt (side_of code scope place.band place.scope))
      (λ a b low holds. lower_below (band_code a.band) (band_code b.band) a.scope b.scope a.rank b.rank low holds) es sorted)

  pub parted_up_to : (from : ℕ) (es : Entries) → T (is_sorted place_cmp es) → IsPartitionedBy up_to (drop from (map rule_of es))
  parted_up_to from es sorted = subst (IsPartitionedBy up_to) (sym (drop-map rule_of from es)) (parted_map up_to rule_of (drop from es) (parted place_cmp (λ (place : Place). is_le (side_of code scope place.band place.scope))
      (λ a b low holds. lower_up_to (band_code a.band) (band_code b.band) a.scope b.scope a.rank b.rank low holds) (drop from es) (sorted_after place_cmp from es sorted)))

  there : (x s : ℕ) → (not (is_lt (ordering_then (nat_cmp x code) (nat_cmp s scope))) && is_le (ordering_then (nat_cmp x code) (nat_cmp s scope))) ≡ ((x == code) && (s == scope))
  there x s = grind (arith, nat_tests)

  -- what lies between the two places
  pub picked : (desk : Desk) (band : Band) → code ≡ band_code band → (from to : ℕ) → from ≤ length (all_rules desk) → to ≤ length (drop from (all_rules desk))
      → Turns below (all_rules desk) from → Turns up_to (drop from (all_rules desk)) to → take to (drop from (all_rules desk)) ≡ rules_at desk band scope
  picked desk band is from to low high first second =
      let es = entries desk.rules in
      let here : Place → Bool = λ place. is_at band scope place.band place.scope in
      between below up_to (all_rules desk) from to first second low high
      ∙ filter-map (λ rule. not (below rule) && up_to rule) rule_of es
      ∙ ap (map rule_of) (filter_same _ (λ e. here e.0) es (λ e inside. there (band_code e.0.band) e.0.scope ∙ ap (λ n. (band_code e.0.band == n) && (e.0.scope == scope)) is))
      ∙ ap (map rule_of) (sym (entries_retained place_cmp place_order desk.rules here))
