-- Lists of which the same is shown, element by element.
use Rattle.std.proofs.Common.{◌≡◌, ◌∙◌, ◌<◌, ℕ, suc, List, [], ◌∷◌, All, AllPairs, Contains, ap, ap₂, arith, get_or, length, map, refl, subst, sym}
use Rattle.std.proofs.lemmas.List.{get_or-map, length-map}
use Rattle.std.proofs.lemmas.List.Elements.{All-cons, All-nil}

module _ {A E : Type 0} (shown : A → E) where
  -- A list of the same length, of which the same is shown, and each element has a property.
  pub record Counterpart (P : A → Type 0) (xs : List A) : Type 0 where
    pub list : List A
    pub each : All P list
    pub same : map shown list ≡ map shown xs

  -- what one element has: another with the property, of which the same is shown
  abbrev pub HasTwin : (A → Type 0) → A → Type 0
  HasTwin P x = (y : A) × P y × (shown y ≡ shown x)

  pub counterpart : (P Q : A → Type 0) → ((x : A) → P x → HasTwin Q x) → (xs : List A) → All P xs → Counterpart Q xs
  counterpart P Q twin [] each = record { list = []; each = All-nil Q; same = refl }
  counterpart P Q twin (x ∷ xs) each =
      let first = twin x (each 0 x (omega arith)) in
      let rest = counterpart P Q twin xs (λ k d inside. each (suc k) d (omega arith)) in
      record {
        list = first.0 ∷ rest.list;
        each = All-cons Q first.0 rest.list first.1 rest.each;
        same = ap₂ (λ e es. e ∷ es) first.2 rest.same;
      }

  pub same_length : (xs ys : List A) → map shown ys ≡ map shown xs → length ys ≡ length xs
  same_length xs ys same = sym (length-map ys shown) ∙ ap length same ∙ length-map xs shown

  -- of the elements at one place the same is shown
  same_at : (xs ys : List A) → map shown ys ≡ map shown xs → (k : ℕ) (d e : A) → k < length ys → shown (get_or ys k d) ≡ shown (get_or xs k e)
  same_at xs ys same k d e inside =
      sym (get_or-map shown ys k d (shown d) inside)
      ∙ ap (λ list. get_or list k (shown d)) same
      ∙ get_or-map shown xs k e (shown d) (subst (λ n. k < n) (same_length xs ys same) inside)

  pub ascends_too : (key : E → ℕ) (xs ys : List A) → map shown ys ≡ map shown xs
      → AllPairs (λ one other. key (shown one) < key (shown other)) xs → AllPairs (λ one other. key (shown one) < key (shown other)) ys
  ascends_too key xs ys same ascends j k d before inside =
      let low : key (shown (get_or ys j d)) ≡ key (shown (get_or xs j d)) = ap key (same_at xs ys same j d d (omega (arith, before, inside))) in
      let high : key (shown (get_or ys k d)) ≡ key (shown (get_or xs k d)) = ap key (same_at xs ys same k d d inside) in
      let up : key (shown (get_or xs j d)) < key (shown (get_or xs k d)) = ascends j k d before (subst (λ n. k < n) (same_length xs ys same) inside) in
      omega arith

  -- a list of all that have a property: so is its counterpart
  pub complete_too : (P Q : A → Type 0) (xs ys : List A) → map shown ys ≡ map shown xs → All Q ys
      → ((y : A) → Q y → HasTwin P y) → ((y z : A) → Q y → Q z → shown y ≡ shown z → y ≡ z)
      → ((x : A) → P x → Contains xs x) → (y : A) → Q y → Contains ys y
  complete_too P Q xs ys same each twin one all y is =
      let back = twin y is in
      let there = all back.0 back.1 in
      let at : there.0 < length xs = there.1 in
      let inside : there.0 < length ys = subst (λ n. there.0 < n) (sym (same_length xs ys same)) at in
      let shows : shown (get_or ys there.0 y) ≡ shown y = same_at xs ys same there.0 y back.0 inside ∙ ap shown there.2 ∙ back.2 in
      (there.0, inside, one (get_or ys there.0 y) y (each there.0 y inside) is shows)
