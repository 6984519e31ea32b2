-- The rules for an accession: which they are, and in what order.
use Rattle.std.proofs.Common.{◌≡◌, inl, inr, ℕ, zero, suc, ◌<◌, List, [], ◌∷◌, ◌++◌, map, length, slice_index_or, Contains, Bool, true, false, cond, T, Option, Some, None, refl, sym, ap, subst, ◌∙◌, arith, nat_cmp, is_lt, ◌&&◌, ◌==◌, All, AllPairs}
use Rattle.std.specs.Ordering.{ordering_then}
use Rattle.std.specs.FinMap.{get, entries, entries_sorted, retain_keys, get-retain_keys}
use Rattle.std.specs.FinMap.Entries.{below_all, is_sorted}
use Rattle.std.proofs.lemmas.Bool.Decides.{nat_tests}
use Rattle.std.proofs.lemmas.List.Elements.{All-append, All-from_recursion, Contains-append_left, Contains-append_right, Contains-append_cases}
use Rattle.std.proofs.lemmas.List.Kept.{AllPairs-cons}
use Rattle.rd_holdings.proofs.Members.{Has, all_from, both, in_map, from_map, entry_got, got_entry}
use Rattle.rd_policy.specs.Neighbours.{ComesFirst}
use Rattle.rd_policy.specs.Verdicts.{AreInOrder}
use Rattle.rd_policy.specs.declared.audience.Audience.{Audience}
use Rattle.rd_policy.specs.declared.rule.Band.{Band}
use Rattle.rd_policy.specs.declared.rule.Band.TheVariants.{Takedown, Deed}
use Rattle.rd_policy.specs.declared.rule.Rule.{Rule}
use Rattle.rd_holdings.specs.declared.rows.ImageRow.{ImageRow}
use Rattle.rd_holdings.specs.State.{Desk, Place, Terms, digest_cmp, place_cmp, place_of, terms_of, rule_of, rules_at, rules_with, rules_for, band_code, is_at}
use Rattle.rd_holdings.specs.RulesFor.{IsAbout, IsRuleFor}
use Rattle.rd_holdings.proofs.KeyOrders.{digest_order, place_order, same_band}

-- ---- lists

all_of : {A : Type 0} (P : A → Type 0) (xs : List A) → ((x : A) → Has xs x → P x) → All P xs
all_of P xs each = All-from_recursion P xs (all_from P xs each)

has_from_contains : {A : Type 0} (xs : List A) (x : A) → Contains xs x → Has xs x
has_from_contains {A} xs x here = at xs here.0 here.1 here.2
  where
    at : (ys : List A) (k : ℕ) → k < length ys → slice_index_or ys k x ≡ x → Has ys x
    at [] k low is = absurd (omega (arith, low))
    at (y ∷ ys) zero low is = inl (sym is)
    at (y ∷ ys) (suc k) low is = inr (at ys k (omega (arith, low)) is)

contains_from_has : {A : Type 0} (xs : List A) (x : A) → Has xs x → Contains xs x
contains_from_has [] x here = absurd here
contains_from_has (y ∷ xs) x (inl is) = (0, omega arith, sym is)
contains_from_has (y ∷ xs) x (inr there) = let it = contains_from_has xs x there in (suc it.0, omega (arith, it.1), it.2)

halves : (a b : Bool) → T (a && b) → T a × T b
halves true b h = (tt, h)
halves false b h = absurd h

is_true : (b : Bool) → T b → b ≡ true
is_true true h = refl
is_true false h = absurd h

-- ---- the entries of one band and scope

-- a place is below those of later entries
below_later : (place : Place) (es : List (Place × Terms)) → T (below_all place_cmp place es) → (e : Place × Terms) → Has es e → is_lt (place_cmp place e.0) ≡ true
below_later place [] below e here = absurd here
below_later place (f ∷ es) below e (inl is) = is_true _ (subst (λ (g : Place × Terms). T (is_lt (place_cmp place g.0))) (sym is) (halves (is_lt (place_cmp place f.0)) (below_all place_cmp place es) below).0)
below_later place (f ∷ es) below e (inr there) = below_later place es (halves (is_lt (place_cmp place f.0)) (below_all place_cmp place es) below).1 e there

-- entries by their places, and then others, are rules each of which comes before those after it
rules_rise : (es : List (Place × Terms)) (more : List Rule) → T (is_sorted place_cmp es)
    → ((e f : Place × Terms) → Has es e → Has es f → is_lt (place_cmp e.0 f.0) ≡ true → ComesFirst (rule_of e) (rule_of f))
    → ((e : Place × Terms) → Has es e → All (ComesFirst (rule_of e)) more)
    → AllPairs ComesFirst more → AllPairs ComesFirst (map rule_of es ++ more)
rules_rise [] more sorted first last rest = rest
rules_rise (e ∷ es) more sorted first last rest =
    let parts = halves (below_all place_cmp e.0 es) (is_sorted place_cmp es) sorted in
    let later : All (ComesFirst (rule_of e)) (map rule_of es) = all_of (ComesFirst (rule_of e)) (map rule_of es) (λ rule there.
    let it = from_map rule_of es rule there in
    subst (ComesFirst (rule_of e)) (sym it.2) (first e it.0 (inl refl) (inr it.1) (below_later e.0 es parts.0 it.0 it.1))) in
    AllPairs-cons ComesFirst (rule_of e) (map rule_of es ++ more) (All-append (ComesFirst (rule_of e)) (map rule_of es) more later (last e (inl refl)))
    (rules_rise es more parts.1 (λ d f here there. first d f (inr here) (inr there)) (λ f there. last f (inr there)) rest)

-- of one band and scope the lower place has the lower rank
lower_rank : (x y s t m n band scope : ℕ) → ((x == band) && (s == scope)) ≡ true → ((y == band) && (t == scope)) ≡ true → is_lt (ordering_then (nat_cmp x y) (ordering_then (nat_cmp s t) (nat_cmp m n))) ≡ true → m < n
lower_rank x y s t m n band scope here there low =
    let h : (x == band) ≡ true = (both (x == band) (s == scope) here).0 in
    let i : (s == scope) ≡ true = (both (x == band) (s == scope) here).1 in
    let j : (y == band) ≡ true = (both (y == band) (t == scope) there).0 in
    let k : (t == scope) ≡ true = (both (y == band) (t == scope) there).1 in
    grind (arith, nat_tests)

same_number : (a b : ℕ) → (a == b) ≡ true → a ≡ b
same_number a b is = grind (arith, nat_tests)

module _ (desk : Desk) (band : Band) (scope : ℕ) where
  abbrev here : Place → Bool
  here place = is_at band scope place.band place.scope

  abbrev among : List (Place × Terms)
  among = entries (retain_keys desk.rules here)

  at_place : (place : Place) → here place ≡ true → (place.band ≡ band) × (place.scope ≡ scope)
  at_place place is = let it = both (band_code place.band == band_code band) (place.scope == scope) is in (same_band place.band band (same_number _ _ it.0), same_number _ _ it.1)

  found : (place : Place) → get (retain_keys desk.rules here) place ≡ cond (here place) (get desk.rules place) None
  found place = get-retain_keys desk.rules here place (λ other tied. ap here (sym (place_order.same place other tied)))

  got : (e : Place × Terms) → Has among e → (here e.0 ≡ true) × (get desk.rules e.0 ≡ Some e.1)
  got e there = go (here e.0) (sym (found e.0) ∙ entry_got place_cmp place_order (retain_keys desk.rules here) e.0 e.1 there)
    where
      go : (b : Bool) → cond b (get desk.rules e.0) None ≡ Some e.1 → (b ≡ true) × (get desk.rules e.0 ≡ Some e.1)
      go true is = (refl, is)
      go false is = absurd cc

  -- the rules of a band and scope are those that stand there
  pub stands_here : (rule : Rule) → Has (rules_at desk band scope) rule → (get desk.rules (place_of rule) ≡ Some (terms_of rule)) × (rule.band ≡ band) × (rule.scope ≡ scope)
  stands_here rule there =
      let it = from_map rule_of among rule there in
      let is = got it.0 it.1 in
      subst (λ (r : Rule). (get desk.rules (place_of r) ≡ Some (terms_of r)) × (r.band ≡ band) × (r.scope ≡ scope)) (sym it.2) (is.1, (at_place it.0.0 is.0).0, (at_place it.0.0 is.0).1)

  pub listed_here : (rule : Rule) → get desk.rules (place_of rule) ≡ Some (terms_of rule) → rule.band ≡ band → rule.scope ≡ scope → Has (rules_at desk band scope) rule
  listed_here rule stands of_band of_scope =
      let is : here (place_of rule) ≡ true = rw (of_band, of_scope) (grind (arith, nat_tests)) in
      in_map rule_of among (place_of rule, terms_of rule)
      (got_entry place_cmp place_order (retain_keys desk.rules here) (place_of rule) (terms_of rule) (found (place_of rule) ∙ ap (λ b. cond b (get desk.rules (place_of rule)) None) is ∙ stands))

  comes_first : (e f : Place × Terms) → Has among e → Has among f → is_lt (place_cmp e.0 f.0) ≡ true → ComesFirst (rule_of e) (rule_of f)
  comes_first e f first second low =
      let one = (got e first).0 in
      let other = (got f second).0 in
      record {
        precedes = inr ((at_place e.0 one).0 ∙ sym (at_place f.0 other).0, lower_rank (band_code e.0.band) (band_code f.0.band) e.0.scope f.0.scope e.0.rank f.0.rank (band_code band) scope one other low);
        one_scope = λ same. (at_place e.0 one).1 ∙ sym (at_place f.0 other).1;
      }

  -- they rise before others of which each comes after them
  pub rise_here : (more : List Rule) → ((rule : Rule) → Has (rules_at desk band scope) rule → All (ComesFirst rule) more) → AllPairs ComesFirst more → AllPairs ComesFirst (rules_at desk band scope ++ more)
  rise_here more last rest = rules_rise among more (entries_sorted (retain_keys desk.rules here)) comes_first (λ e there. last (rule_of e) (in_map rule_of among e there)) rest

-- ---- in order

none_rise : AllPairs ComesFirst []
none_rise i j d low within = absurd (omega (arith, within))

in_order : (rules : List Rule) → AllPairs ComesFirst rules → AreInOrder rules
in_order rules rise = record { rising = λ i j d low within. (rise i j d low within).precedes; one_scope = λ i j d low within. (rise i j d low within).one_scope }

takedown_first : (one other : Rule) → one.band ≡ Takedown → other.band ≡ Deed → ComesFirst one other
takedown_first one other first second = record { precedes = inl (first, second); one_scope = λ same. absurd (cc (first, second, same)) }

append_none : {A : Type 0} (xs : List A) → xs ++ [] ≡ xs
append_none [] = refl
append_none (x ∷ xs) = ap (λ more. x ∷ more) (append_none xs)

pub both_in_order : (desk : Desk) (acc deed : ℕ) → AreInOrder (rules_at desk Takedown acc ++ rules_at desk Deed deed)
both_in_order desk acc deed =
    let deeds = rules_at desk Deed deed in
    let rest : AllPairs ComesFirst deeds = subst (AllPairs ComesFirst) (append_none deeds) (rise_here desk Deed deed [] (λ rule there. λ k d within. absurd (omega (arith, within))) none_rise) in
    in_order _ (rise_here desk Takedown acc deeds (λ rule there. all_of (ComesFirst rule) deeds (λ other later.
    takedown_first rule other (stands_here desk Takedown acc rule there).1 (stands_here desk Deed deed other later).1)) rest)

pub for_in_order : (desk : Desk) (acc : ℕ) → AreInOrder (rules_for desk acc)
for_in_order desk acc = go (get desk.images acc)
  where
    go : (image : Option ImageRow) → AreInOrder (rules_with desk acc image)
    go None = in_order [] none_rise
    go (Some image) = both_in_order desk acc image.deed

-- ---- which they are

module _ (desk : Desk) (acc : ℕ) (rule : Rule) where
  pub is_for : Contains (rules_for desk acc) rule → IsRuleFor desk acc rule
  is_for there = go (get desk.images acc) refl there
    where
      one : (image : ImageRow) → get desk.images acc ≡ Some image → (band : Band) (scope : ℕ) → IsAbout acc image.deed band scope → (get desk.rules (place_of rule) ≡ Some (terms_of rule)) × (rule.band ≡ band) × (rule.scope ≡ scope) → IsRuleFor desk acc rule
      one image given band scope about it = record { image = image; given = given; stands = it.0; about = rw (it.1, it.2) about }

      go : (found : Option ImageRow) → get desk.images acc ≡ found → Contains (rules_with desk acc found) rule → IsRuleFor desk acc rule
      go None given here = absurd (has_from_contains [] rule here)
      go (Some image) given here = elim (Contains-append_cases (rules_at desk Takedown acc) (rules_at desk Deed image.deed) rule here) [
        | inl first ↦ one image given Takedown acc refl (stands_here desk Takedown acc rule (has_from_contains _ rule first))
        | inr second ↦ one image given Deed image.deed refl (stands_here desk Deed image.deed rule (has_from_contains _ rule second))
      ]

  pub is_among : IsRuleFor desk acc rule → Contains (rules_for desk acc) rule
  is_among is = subst (λ found. Contains (rules_with desk acc found) rule) (sym is.given) (go rule.band rule.scope refl refl is.about)
    where
      go : (band : Band) (scope : ℕ) → rule.band ≡ band → rule.scope ≡ scope → IsAbout acc is.image.deed band scope → Contains (rules_at desk Takedown acc ++ rules_at desk Deed is.image.deed) rule
      go Takedown scope of_band of_scope about = Contains-append_left _ _ rule (contains_from_has _ rule (listed_here desk Takedown acc rule is.stands of_band (of_scope ∙ about)))
      go Deed scope of_band of_scope about = Contains-append_right _ _ rule (contains_from_has _ rule (listed_here desk Deed is.image.deed rule is.stands of_band (of_scope ∙ about)))

-- ---- keys

-- a key stands exactly where it is an entry
pub key_stands : (desk : Desk) (digest : List ℕ) (audience : Audience) → Contains (entries desk.keys) (digest, audience) → get desk.keys digest ≡ Some audience
key_stands desk digest audience there = entry_got digest_cmp digest_order desk.keys digest audience (has_from_contains (entries desk.keys) (digest, audience) there)

pub key_listed : (desk : Desk) (digest : List ℕ) (audience : Audience) → get desk.keys digest ≡ Some audience → Contains (entries desk.keys) (digest, audience)
key_listed desk digest audience is = contains_from_has (entries desk.keys) (digest, audience) (got_entry digest_cmp digest_order desk.keys digest audience is)
