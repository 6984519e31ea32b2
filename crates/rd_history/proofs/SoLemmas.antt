-- What a change asks is so in a desk, or is not.
use Rattle.std.proofs.Common.{◌≡◌, ◌≢◌, ◌∙◌, ◌<◌, inl, inr, ℕ, zero, suc, Bool, true, false, true≢false, MatchBool, Ok, Option, None, Some, List, [], ◌∷◌, ◌++◌, All, Contains, ap, arith, length, nat_cmp, option_map, refl, slice_index_or, subst, sym, unwrap_or}
use Rattle.hex.specs.Hex.{IsBytes}
use Rattle.std.specs.FinMap.{get}
use Rattle.sqlite.specs.Held.{Held}
use Rattle.sqlite.specs.Store.{Ghosts}
use Rattle.rd_policy.specs.declared.rule.Band.{Band}
use Rattle.rd_policy.specs.declared.rule.Rule.{Rule as RuleOf}
use Rattle.rd_store.specs.Held.{IsOpen, Reads}
use Rattle.rd_holdings.proofs.KeyOrders.{digest_order, number_order, place_order}
use Rattle.rd_holdings.proofs.Maps.{get_inserted, get_removed, insert_kept, remove_kept}
use Rattle.rd_holdings.proofs.Members.{Has}
use Rattle.rd_holdings.proofs.RulesFor.{listed_here, stands_here}
use Rattle.rd_holdings.specs.State.{Desk, Place, Terms, digest_cmp, place_cmp, place_of, rule_of, rules_at, terms_of}
use Rattle.rd_holdings.specs.declared.rows.DeedRow.{DeedRow}
use Rattle.rd_history.specs.Histories.{IsAsked}
use Rattle.rd_history.specs.Settled.{IsSo, StandsAs, deposit_of}
use Rattle.rd_history.specs.Standings.{Deposit, Standing, changed, put_or_kept, standing_after, step, told}
use Rattle.rd_history.specs.declared.entry.Change.{Change}
use Rattle.rd_history.specs.declared.entry.Change.TheVariants.{Begin, Deed, Image, Rule, DropRule, Key, DropKey, Void}
use Rattle.rd_history.specs.declared.entry.Entry.{Entry}
use Rattle.rd_history.proofs.ToldLemmas.{told_append}

pub match_of : (b : Bool) {P : Type 0} → (b ≡ true → P) → (P → b ≡ true) → MatchBool b P (¬ P)
match_of true is back = is refl
match_of false is back = λ p. true≢false (sym (back p))

pub same_in : {A : Type 0} (one other : A) → ◌≡◌ {A = Option A} (Some one) (Some other) → one ≡ other
same_in one other e = ap (λ o. unwrap_or o one) e

-- what is read, told in another way
pub reads_for : {S T U X : Type 0} (g : Ghosts S) (old new : Held S) (x : T) (y : U) {P : T → Type 0} {Q : U → Type 0} → Reads {X = X} g old new (Ok x) P → (IsOpen g new → P x → Q y) → Reads {X = X} g old new (Ok y) Q
reads_for g old new x y reads is = record { keeps = reads.keeps; answer = λ o. is o (reads.answer o); ends_open = reads.ends_open }

-- ---- the rule at a rank

has_from_contains : (xs : List RuleOf) (x : RuleOf) → Contains xs x → Has xs x
has_from_contains xs x here = at xs here.0 here.1 here.2
  where
    at : (ys : List RuleOf) (k : ℕ) → k < length ys → slice_index_or ys k x ≡ x → Has ys x
    at [] k low is = absurd (omega (arith, low))
    at (y ∷ ys) zero low is = inl (sym is)
    at (y ∷ ys) (suc k) low is = inr (at ys k (omega (arith, low)) is)

all_at : (P : RuleOf → Type 0) (xs : List RuleOf) (x : RuleOf) → All P xs → Has xs x → P x
all_at P [] x all none = absurd none
all_at P (y ∷ xs) x all (inl is) = subst P (sym is) (all 0 x (omega arith))
all_at P (y ∷ xs) x all (inr there) = all_at P xs x (λ k d low. all (suc k) d (omega (arith, low))) there

module _ (desk : Desk) (band : Band) (scope rank : ℕ) (rules : List RuleOf) (are : rules ≡ rules_at desk band scope) where
  abbrev here : Place
  here = record { band = band; scope = scope; rank = rank }

  -- it is that of its place
  pub found_at : (found : RuleOf) → Contains rules found → found.rank ≡ rank → get desk.rules here ≡ Some (terms_of found)
  found_at found there is =
      let it = stands_here desk band scope found (has_from_contains _ found (subst (λ l. Contains l found) are there)) in
      let place : place_of found ≡ here = λ i. record { band = it.1 i; scope = it.2 i; rank = is i } in
      subst (λ p. get desk.rules p ≡ Some (terms_of found)) place it.0

  -- where there is none, none stands at the place
  pub none_at : All (λ rule. rule.rank ≢ rank) rules → get desk.rules here ≡ None
  none_at none = go (get desk.rules here) refl
    where
      go : (found : Option Terms) → get desk.rules here ≡ found → get desk.rules here ≡ None
      go None is = is
      go (Some terms) is = absurd (all_at (λ rule. rule.rank ≢ rank) _ (rule_of (here, terms)) (subst (All (λ rule. rule.rank ≢ rank)) are none) (listed_here desk band scope (rule_of (here, terms)) is refl refl) refl)

-- ---- what stands, and a change that is so

-- an image that stands is kept
image_kept : (desk : Desk) (now : Standing) (acc : ℕ) (deposit standing : Deposit) → get now.images acc ≡ Some standing → StandsAs desk now → StandsAs desk (put_or_kept (get now.images acc) acc deposit now)
image_kept desk now acc deposit standing is stands = subst (λ f. StandsAs desk (put_or_kept f acc deposit now)) (sym is) stands

-- such a change leaves what stands
pub so_kept : (change : Change) (desk : Desk) (now : Standing) → StandsAs desk now → IsSo change desk → StandsAs desk (changed change now)
so_kept (Deed num donor signed) desk now stands so =
    let row : DeedRow = record { donor = donor; signed = signed } in
    record { deeds = stands.deeds ∙ sym (insert_kept nat_cmp number_order.total number_order.same now.deeds num row (subst (λ m. get m num ≡ Some row) stands.deeds so)); images = stands.images; rules = stands.rules; keys = stands.keys }
so_kept (Image acc kind deed digest) desk now stands so =
    let deposit : Deposit = record { kind = kind; deed = deed; digest = digest } in
    image_kept desk now acc deposit deposit (sym (stands.images acc) ∙ so) stands
so_kept (Rule rule) desk now stands so = record {
  deeds = stands.deeds;
  images = stands.images;
  rules = stands.rules ∙ sym (insert_kept place_cmp place_order.total place_order.same now.rules (place_of rule) (terms_of rule) (subst (λ m. get m (place_of rule) ≡ Some (terms_of rule)) stands.rules so));
  keys = stands.keys;
}
so_kept (DropRule band scope rank) desk now stands so =
    let place : Place = record { band = band; scope = scope; rank = rank } in
    record { deeds = stands.deeds; images = stands.images; rules = stands.rules ∙ sym (remove_kept place_cmp place_order.total place_order.same now.rules place (subst (λ m. get m place ≡ None) stands.rules so)); keys = stands.keys }
so_kept (Key digest audience) desk now stands so = record {
  deeds = stands.deeds;
  images = stands.images;
  rules = stands.rules;
  keys = stands.keys ∙ sym (insert_kept digest_cmp digest_order.total digest_order.same now.keys digest audience (subst (λ m. get m digest ≡ Some audience) stands.keys so));
}
so_kept (DropKey digest) desk now stands so = record {
  deeds = stands.deeds;
  images = stands.images;
  rules = stands.rules;
  keys = stands.keys ∙ sym (remove_kept digest_cmp digest_order.total digest_order.same now.keys digest (subst (λ m. get m digest ≡ None) stands.keys so));
}
so_kept other desk now stands so = stands

-- what is not so was not carried out, or changed nothing
image_undone : (desk : Desk) (now : Standing) (acc : ℕ) (deposit : Deposit) (found : Option Deposit) → get now.images acc ≡ found → StandsAs desk (put_or_kept found acc deposit now) → option_map deposit_of (get desk.images acc) ≢ Some deposit → StandsAs desk now
image_undone desk now acc deposit None is stands never = absurd (never (stands.images acc ∙ get_inserted nat_cmp number_order.total now.images acc deposit))
image_undone desk now acc deposit (Some standing) is stands never = stands

pub undone : (change : Change) (desk : Desk) (now : Standing) → StandsAs desk (changed change now) → ¬ IsSo change desk → StandsAs desk now
undone (Deed num donor signed) desk now stands never =
    let row : DeedRow = record { donor = donor; signed = signed } in
    absurd (never (subst (λ m. get m num ≡ Some row) (sym stands.deeds) (get_inserted nat_cmp number_order.total now.deeds num row)))
undone (Image acc kind deed digest) desk now stands never = image_undone desk now acc (record { kind = kind; deed = deed; digest = digest }) (get now.images acc) refl stands never
undone (Rule rule) desk now stands never = absurd (never (subst (λ m. get m (place_of rule) ≡ Some (terms_of rule)) (sym stands.rules) (get_inserted place_cmp place_order.total now.rules (place_of rule) (terms_of rule))))
undone (DropRule band scope rank) desk now stands never =
    let place : Place = record { band = band; scope = scope; rank = rank } in
    absurd (never (subst (λ m. get m place ≡ None) (sym stands.rules) (get_removed place_cmp place_order.total now.rules place)))
undone (Key digest audience) desk now stands never = absurd (never (subst (λ m. get m digest ≡ Some audience) (sym stands.keys) (get_inserted digest_cmp digest_order.total now.keys digest audience)))
undone (DropKey digest) desk now stands never = absurd (never (subst (λ m. get m digest ≡ None) (sym stands.keys) (get_removed digest_cmp digest_order.total now.keys digest)))
undone other desk now stands never = absurd (never tt)

stepped : (change : Change) (at : Standing × Standing) → IsAsked change → (step change at).1 ≡ changed change at.1
stepped (Begin count) at may = absurd may
stepped (Void cause) at may = absurd may
stepped (Deed num donor signed) at may = refl
stepped (Image acc kind deed digest) at may = refl
stepped (Rule rule) at may = refl
stepped (DropRule band scope rank) at may = refl
stepped (Key digest audience) at may = refl
stepped (DropKey digest) at may = refl

-- what stands after a change more
pub stands_after : (before : List Entry) (last : Entry) → IsAsked last.change → standing_after (before ++ last ∷ []) ≡ changed last.change (standing_after before)
stands_after before last may = ap (λ told. told.1) (told_append _ before (last ∷ [])) ∙ stepped last.change (told before) may

-- bytes, one by one
pub bytes_all : (xs : List ℕ) → All (λ (byte : ℕ). byte < 256) xs → IsBytes xs
bytes_all [] all i = omega arith
bytes_all (x ∷ xs) all zero = all 0 0 (omega arith)
bytes_all (x ∷ xs) all (suc i) = bytes_all xs (λ k d low. all (suc k) d (omega (arith, low))) i
