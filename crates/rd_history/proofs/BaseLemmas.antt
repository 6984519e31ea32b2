-- A base tells what it lists.
use Rattle.std.proofs.Common.{◌≡◌, ◌∙◌, ℕ, List, [], ◌∷◌, ◌++◌, Bool, true, false, cond, T, Option, Some, None, Ordering, Less, Equal, Greater, ap, is_eq, is_lt, inl, inr, map, nat_cmp, option_map, refl, subst, sym, ◌&&◌}
use Rattle.std.specs.List.{AllByRecursion}
use Rattle.std.specs.FinMap.{FinMap, empty, entries, entries_sorted, get, get-empty, get-entries, get-insert, insert, same_map}
use Rattle.std.specs.FinMap.Entries.{below_all, find, is_sorted}
use Rattle.std.specs.Ordering.{eq_by_cmp}
use Rattle.std.proofs.lemmas.Cmp.{eq_by_cmp_equiv}
use Rattle.rd_holdings.proofs.KeyOrders.{digest_order, number_order, place_order}
use Rattle.rd_holdings.proofs.Members.{Has, IsKeyOrder, below_has, found_has}
use Rattle.rd_holdings.specs.State.{Desk, Terms, Place, all_rules, digest_cmp, place_cmp, rule_of}
use Rattle.rd_holdings.specs.declared.rows.DeedRow.{DeedRow}
use Rattle.rd_holdings.specs.declared.rows.ImageRow.{ImageRow}
use Rattle.rd_policy.specs.declared.audience.Audience.{Audience}
use Rattle.rd_history.specs.Histories.{IsAsked, IsPut, changes_of}
use Rattle.rd_history.specs.Laws.{BasesTell}
use Rattle.rd_history.specs.Settled.{StandsAs, deposit_of}
use Rattle.rd_history.specs.Standings.{Deposit, NOTHING, Standing, base_of, changed, deed_put, image_put, key_put, put_or_kept, step, told_after}
use Rattle.rd_history.specs.declared.entry.Change.{Change}
use Rattle.rd_history.specs.declared.entry.Change.TheVariants.{Begin, Deed, Image, Rule, DropRule, Key, DropKey, Void}
use Rattle.rd_history.specs.declared.entry.Entry.{Entry}
use Rattle.rd_history.proofs.StageLemmas.{put_asked}
use Rattle.rd_history.proofs.ToldLemmas.{bases_forget}

-- ---- maps that are put together in order

parts : (a b : Bool) → T (a && b) → T a × T b
parts true b h = (tt, h)
parts false b h = absurd h

not_both : (order : Ordering) → is_eq order ≡ true → T (is_lt order) → ⊥
not_both Less tied low = cc tied
not_both Equal tied low = low
not_both Greater tied low = low

module _ {K X : Type 0} (cmp : K → K → Ordering) (order : IsKeyOrder cmp) where
  abbrev put_all : List (K × X) → FinMap cmp X → FinMap cmp X
  put_all [] m = m
  put_all (e ∷ es) m = put_all es (insert m e.0 e.1)

  -- no later key of sorted entries is the first's
  apart : (e f : K × X) (es : List (K × X)) → T (is_sorted cmp (e ∷ es)) → Has es f → eq_by_cmp cmp f.0 e.0 ≡ true → ⊥
  apart e f es sorted there tied =
      not_both (cmp e.0 f.0) ((eq_by_cmp_equiv order.total).symm e.0 f.0 ∙ tied)
      (below_has cmp order e.0 f.0 f.1 es (parts (below_all cmp e.0 es) (is_sorted cmp es) sorted).0 there)

  -- what was put last counts
  abbrev last : Option X → Option X → Option X
  last None before = before
  last (Some x) before = Some x

  got : (es : List (K × X)) (m : FinMap cmp X) (q : K) → T (is_sorted cmp es) → get (put_all es m) q ≡ last (find cmp q es) (get m q)
  got [] m q sorted = refl
  got (e ∷ es) m q sorted =
      got es (insert m e.0 e.1) q (parts (below_all cmp e.0 es) (is_sorted cmp es) sorted).1
      ∙ ap (last (find cmp q es)) (get-insert order.total m e.0 e.1 q)
      ∙ settled (eq_by_cmp cmp q e.0) refl (find cmp q es) refl
    where
      settled : (b : Bool) → eq_by_cmp cmp q e.0 ≡ b → (found : Option X) → find cmp q es ≡ found
          → last found (cond b (Some e.1) (get m q)) ≡ last (cond b (Some e.1) found) (get m q)
      settled true tied None is = refl
      settled true tied (Some x) is = absurd (apart e (q, x) es sorted (found_has cmp order q x es is) tied)
      settled false other found is = refl

  alone : (found : Option X) → last found None ≡ found
  alone None = refl
  alone (Some x) = refl

  -- the entries of a map, put in order, are the map
  whole : (m : FinMap cmp X) → put_all (entries m) empty ≡ m
  whole m = same_map order.total order.same _ m (λ q.
      got (entries m) empty q (entries_sorted m)
      ∙ ap (last (find cmp q (entries m))) (get-empty cmp q)
      ∙ alone (find cmp q (entries m))
      ∙ sym (get-entries m q))

-- ---- changes that are carried out in order

abbrev carry : List Change → Standing → Standing
carry [] now = now
carry (change ∷ changes) now = carry changes (changed change now)

carry_append : (changes others : List Change) (now : Standing) → carry (changes ++ others) now ≡ carry others (carry changes now)
carry_append [] others now = refl
carry_append (change ∷ changes) others now = carry_append changes others (changed change now)

carry_deeds : (es : List (ℕ × DeedRow)) (now : Standing) → carry (map deed_put es) now ≡ record now { deeds = put_all nat_cmp number_order es now.deeds }
carry_deeds [] now = refl
carry_deeds (e ∷ es) now = carry_deeds es (changed (deed_put e) now)

carry_rules : (es : List (Place × Terms)) (now : Standing) → carry (map Rule (map rule_of es)) now ≡ record now { rules = put_all place_cmp place_order es now.rules }
carry_rules [] now = refl
carry_rules (e ∷ es) now = carry_rules es (changed (Rule (rule_of e)) now)

carry_keys : (es : List (List ℕ × Audience)) (now : Standing) → carry (map key_put es) now ≡ record now { keys = put_all digest_cmp digest_order es now.keys }
carry_keys [] now = refl
carry_keys (e ∷ es) now = carry_keys es (changed (key_put e) now)

-- ---- images, without their bytes

abbrev deposit : ℕ × ImageRow → ℕ × Deposit
deposit e = (e.0, deposit_of e.1)

deposits_below : (q : ℕ) (es : List (ℕ × ImageRow)) → below_all nat_cmp q (map deposit es) ≡ below_all nat_cmp q es
deposits_below q [] = refl
deposits_below q (e ∷ es) = ap (λ b. is_lt (nat_cmp q e.0) && b) (deposits_below q es)

deposits_sorted : (es : List (ℕ × ImageRow)) → is_sorted nat_cmp (map deposit es) ≡ is_sorted nat_cmp es
deposits_sorted [] = refl
deposits_sorted (e ∷ es) = ap (λ b. b && is_sorted nat_cmp (map deposit es)) (deposits_below e.0 es) ∙ ap (λ b. below_all nat_cmp e.0 es && b) (deposits_sorted es)

deposits_found : (q : ℕ) (es : List (ℕ × ImageRow)) → find nat_cmp q (map deposit es) ≡ option_map deposit_of (find nat_cmp q es)
deposits_found q [] = refl
deposits_found q (e ∷ es) = ap (λ o. cond (eq_by_cmp nat_cmp q e.0) (Some (deposit_of e.1)) o) (deposits_found q es) ∙ either (eq_by_cmp nat_cmp q e.0)
  where
    either : (b : Bool) → cond b (Some (deposit_of e.1)) (option_map deposit_of (find nat_cmp q es)) ≡ option_map deposit_of (cond b (Some e.1) (find nat_cmp q es))
    either true = refl
    either false = refl

-- none of the images stands yet
abbrev AreNew : List (ℕ × Deposit) → Standing → Type 0
AreNew es now = (e : ℕ × Deposit) → Has es e → get now.images e.0 ≡ None

carry_images : (es : List (ℕ × ImageRow)) (now : Standing) → T (is_sorted nat_cmp (map deposit es)) → AreNew (map deposit es) now
    → carry (map image_put es) now ≡ record now { images = put_all nat_cmp number_order (map deposit es) now.images }
carry_images [] now sorted new = refl
carry_images (e ∷ es) now sorted new =
    ap (λ found. carry (map image_put es) (put_or_kept found e.0 (deposit_of e.1) now)) (new (deposit e) (inl refl))
    ∙ carry_images es (record now { images = insert now.images e.0 (deposit_of e.1) }) (parts (below_all nat_cmp e.0 (map deposit es)) (is_sorted nat_cmp (map deposit es)) sorted).1 (λ f there.
    get-insert number_order.total now.images e.0 (deposit_of e.1) f.0 ∙ still f there (eq_by_cmp nat_cmp f.0 e.0) refl)
  where
    still : (f : ℕ × Deposit) → Has (map deposit es) f → (b : Bool) → eq_by_cmp nat_cmp f.0 e.0 ≡ b → cond b (Some (deposit_of e.1)) (get now.images f.0) ≡ None
    still f there true tied = absurd (apart nat_cmp number_order (deposit e) f (map deposit es) sorted there tied)
    still f there false other = new f (inr there)

-- ---- what a base leaves

module _ (desk : Desk) where
  abbrev deposits : List (ℕ × Deposit)
  deposits = map deposit (entries desk.images)

  are_sorted : T (is_sorted nat_cmp deposits)
  are_sorted = subst T (sym (deposits_sorted (entries desk.images))) (entries_sorted desk.images)

  abbrev images_left : FinMap nat_cmp Deposit
  images_left = put_all nat_cmp number_order deposits empty

  got_image : (acc : ℕ) → option_map deposit_of (get desk.images acc) ≡ get images_left acc
  got_image acc = sym (
      got nat_cmp number_order deposits empty acc are_sorted
      ∙ ap (last nat_cmp number_order (find nat_cmp acc deposits)) (get-empty nat_cmp acc)
      ∙ alone nat_cmp number_order (find nat_cmp acc deposits)
      ∙ deposits_found acc (entries desk.images)
      ∙ ap (option_map deposit_of) (sym (get-entries desk.images acc)))

  abbrev left : Standing
  left = record { deeds = desk.deeds; images = images_left; rules = desk.rules; keys = desk.keys }

  carry_base : carry (base_of desk) NOTHING ≡ left
  carry_base =
      let keys = map key_put (entries desk.keys) in
      let rules = map Rule (all_rules desk) in
      let images = map image_put (entries desk.images) in
      carry_append (map deed_put (entries desk.deeds)) (images ++ (rules ++ keys)) NOTHING
      ∙ ap (carry (images ++ (rules ++ keys))) (carry_deeds (entries desk.deeds) NOTHING ∙ ap (λ deeds. record NOTHING { deeds = deeds }) (whole nat_cmp number_order desk.deeds))
      ∙ carry_append images (rules ++ keys) (record NOTHING { deeds = desk.deeds })
      ∙ ap (carry (rules ++ keys)) (carry_images (entries desk.images) (record NOTHING { deeds = desk.deeds }) are_sorted (λ e there. get-empty nat_cmp e.0))
      ∙ carry_append rules keys (record NOTHING { deeds = desk.deeds; images = images_left })
      ∙ ap (carry keys) (carry_rules (entries desk.rules) (record NOTHING { deeds = desk.deeds; images = images_left })
      ∙ ap (λ rules. record NOTHING { deeds = desk.deeds; images = images_left; rules = rules }) (whole place_cmp place_order desk.rules))
      ∙ carry_keys (entries desk.keys) (record NOTHING { deeds = desk.deeds; images = images_left; rules = desk.rules })
      ∙ ap (λ keys. record left { keys = keys }) (whole digest_cmp digest_order desk.keys)

  left_stands : StandsAs desk left
  left_stands = record { deeds = refl; images = got_image; rules = refl; keys = refl }

-- ---- entries that are carried out

both_put : (changes others : List Change) → AllByRecursion IsPut changes → AllByRecursion IsPut others → AllByRecursion IsPut (changes ++ others)
both_put [] others is more = more
both_put (change ∷ changes) others is more = (is.0, both_put changes others is.1 more)

each_put : {A : Type 0} (put : A → Change) → ((x : A) → IsPut (put x)) → (xs : List A) → AllByRecursion IsPut (map put xs)
each_put put is [] = tt
each_put put is (x ∷ xs) = (is x, each_put put is xs)

pub base_puts : (desk : Desk) → AllByRecursion IsPut (base_of desk)
base_puts desk =
    both_put (map deed_put (entries desk.deeds)) _ (each_put deed_put (λ e. tt) (entries desk.deeds))
    (both_put (map image_put (entries desk.images)) _ (each_put image_put (λ e. tt) (entries desk.images))
    (both_put (map Rule (all_rules desk)) _ (each_put Rule (λ rule. tt) (all_rules desk))
    (each_put key_put (λ e. tt) (entries desk.keys))))

is_now : (change : Change) (at : Standing × Standing) → IsAsked change → (step change at).1 ≡ changed change at.1
is_now (Begin count) at may = absurd may
is_now (Void cause) at may = absurd may
is_now (Deed num donor signed) at may = refl
is_now (Image acc kind deed digest) at may = refl
is_now (Rule rule) at may = refl
is_now (DropRule band scope rank) at may = refl
is_now (Key digest audience) at may = refl
is_now (DropKey digest) at may = refl

carried : (at : Standing × Standing) (listed : List Entry) → AllByRecursion IsPut (changes_of listed)
    → (told_after at listed).1 ≡ carry (changes_of listed) at.1
carried at [] is = refl
carried at (entry ∷ listed) is =
    carried (step entry.change at) listed is.1 ∙ ap (carry (changes_of listed)) (is_now entry.change at (put_asked entry.change is.0))

pub bases_tell : BasesTell
bases_tell before listed entry count desk begins lists =
    subst (StandsAs desk)
    (sym (bases_forget before listed entry count begins
    ∙ carried (NOTHING, NOTHING) listed (subst (AllByRecursion IsPut) (sym lists) (base_puts desk))
    ∙ ap (λ changes. carry changes NOTHING) lists
    ∙ carry_base desk)) (left_stands desk)
