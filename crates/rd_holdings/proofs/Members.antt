-- What is in a list, and that a finite map has exactly the entries that are found in it.
use Rattle.std.proofs.Common.{◌≡◌, inl, inr, List, [], ◌∷◌, map, Bool, true, false, cond, T, Some, refl, sym, ap, subst, ◌∙◌, Ordering, Less, Equal, Greater, is_eq, is_lt, ◌&&◌, true≢false, ◌⊎◌}
use Rattle.std.specs.List.{AllByRecursion}
use Rattle.std.specs.Ordering.{eq_by_cmp}
use Rattle.std.specs.Cmp.{IsTotalOrder}
use Rattle.std.specs.FinMap.{FinMap, get, entries, entries_sorted, get-entries, IsAntisymmetric}
use Rattle.std.specs.FinMap.Entries.{find, is_sorted, below_all}
use Rattle.std.proofs.lemmas.Bool.{cases_Bool}
use Rattle.std.proofs.lemmas.Cmp.{eq_by_cmp_equiv}

-- Keys are compared by a total order under which only equal keys are tied.
pub record IsKeyOrder {K : Type 0} (cmp : K → K → Ordering) : Type 0 where
  pub total : IsTotalOrder cmp
  pub same : IsAntisymmetric cmp

-- ---- lists

-- what is in a list
abbrev pub Has : {X : Type 0} → List X → X → Type 0
Has [] x = ⊥
Has (y ∷ ys) x = (x ≡ y) ⊎ Has ys x

pub all_from : {X : Type 0} (P : X → Type 0) (xs : List X) → ((x : X) → Has xs x → P x) → AllByRecursion P xs
all_from P [] each = tt
all_from P (y ∷ xs) each = (each y (inl refl), all_from P xs (λ x h. each x (inr h)))

pub in_map : {A B : Type 0} (f : A → B) (xs : List A) (x : A) → Has xs x → Has (map f xs) (f x)
in_map f [] x none = absurd none
in_map f (y ∷ xs) x (inl is) = inl (ap f is)
in_map f (y ∷ xs) x (inr there) = inr (in_map f xs x there)

pub from_map : {A B : Type 0} (f : A → B) (xs : List A) (y : B) → Has (map f xs) y → (x : A) × Has xs x × (y ≡ f x)
from_map f [] y none = absurd none
from_map f (x ∷ xs) y (inl is) = (x, inl refl, is)
from_map f (x ∷ xs) y (inr there) = let it = from_map f xs y there in (it.0, inr it.1, it.2)

pub both : (a b : Bool) → (a && b) ≡ true → (a ≡ true) × (b ≡ true)
both true b e = (refl, e)
both false b e = absurd (true≢false (sym e))

-- ---- what is found is an entry, and each entry is found

pub tie : (o : Ordering) → is_eq o ≡ true → o ≡ Equal
tie Equal h = refl
tie Less h = absurd cc
tie Greater h = absurd cc

parts : (a b : Bool) → T (a && b) → T a × T b
parts true b h = (tt, h)
parts false b h = absurd h

apart_if_less : (o : Ordering) → T (is_lt o) → is_eq o ≡ false
apart_if_less Less h = refl
apart_if_less Equal h = absurd h
apart_if_less Greater h = absurd h

module _ {K X : Type 0} (cmp : K → K → Ordering) (order : IsKeyOrder cmp) where
  pub found_has : (q : K) (v : X) (es : List (K × X)) → find cmp q es ≡ Some v → Has es (q, v)
  found_has q v [] is = absurd cc
  found_has q v (e ∷ es) is = elim (cases_Bool (eq_by_cmp cmp q e.0)) [
    | inl same ↦
        let key : q ≡ e.0 = order.same q e.0 (tie (cmp q e.0) same) in
        let value : e.1 ≡ v = (let it : cond (eq_by_cmp cmp q e.0) (Some e.1) (find cmp q es) ≡ Some v = is in let some = rw same at it in cc) in
        inl (λ i. (key i, sym value i))
    | inr other ↦ inr (found_has q v es (let it : cond (eq_by_cmp cmp q e.0) (Some e.1) (find cmp q es) ≡ Some v = is in rw other at it))
  ]

  pub below_has : (x q : K) (v : X) (es : List (K × X)) → T (below_all cmp x es) → Has es (q, v) → T (is_lt (cmp x q))
  below_has x q v [] below here = absurd here
  below_has x q v (e ∷ es) below (inl is) = subst (λ (f : K × X). T (is_lt (cmp x f.0))) (sym is) (parts (is_lt (cmp x e.0)) (below_all cmp x es) below).0
  below_has x q v (e ∷ es) below (inr there) = below_has x q v es (parts (is_lt (cmp x e.0)) (below_all cmp x es) below).1 there

  has_found : (q : K) (v : X) (es : List (K × X)) → T (is_sorted cmp es) → Has es (q, v) → find cmp q es ≡ Some v
  has_found q v [] sorted here = absurd here
  has_found q v (e ∷ es) sorted (inl is) = subst (λ (f : K × X). find cmp q (f ∷ es) ≡ Some v) is (rw ((eq_by_cmp_equiv order.total).refl q) refl)
  has_found q v (e ∷ es) sorted (inr there) =
      let halves = parts (below_all cmp e.0 es) (is_sorted cmp es) sorted in
      let apart : eq_by_cmp cmp q e.0 ≡ false = (eq_by_cmp_equiv order.total).symm q e.0 ∙ apart_if_less (cmp e.0 q) (below_has e.0 q v es halves.0 there) in
      rw apart (has_found q v es halves.1 there)

  pub entry_got : (m : FinMap cmp X) (q : K) (v : X) → Has (entries m) (q, v) → get m q ≡ Some v
  entry_got m q v here = get-entries m q ∙ has_found q v (entries m) (entries_sorted m) here

  pub got_entry : (m : FinMap cmp X) (q : K) (v : X) → get m q ≡ Some v → Has (entries m) (q, v)
  got_entry m q v is = found_has q v (entries m) (sym (get-entries m q) ∙ is)
