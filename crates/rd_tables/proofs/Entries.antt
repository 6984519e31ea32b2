-- A list of entries, no two with one key, is a finite map whatever its order.
use Rattle.rd_tables.proofs.Common.{◌≡◌, inl, inr, List, [], ◌∷◌, map, filter, Bool, true, false, cond, T, Some, None, Option, refl, sym, ap, subst, ◌∙◌, arith, Ordering, Less, Equal, Greater, is_eq, is_lt, option_to_list, AllByRecursion, IsPermutation, eq_by_cmp, FinMap, get, entries, entries_sorted, get-entries, insert, remove, from_entries, retain_keys, same_map, get-insert, get-remove, get-from_entries, get-retain_keys, IsAntisymmetric, find, find-where_key, is_sorted, is_sorted-where_key, below_all, same_entries, where_key, cases_Bool, eq_by_cmp_equiv, length_permutation, IsPermutation-map, IsDistinct-IsPermutation, IsDistinct-head, IsDistinct-tail, sorted_head, sorted_tail, Has, IsPermutation-filter, one_permutation}
use Rattle.rd_tables.proofs.ListLemmas.{halves, wholes}
use Rattle.std.specs.List.{IsDistinct}
use Rattle.std.specs.List.Sorted.{IsStrictlySortedBy}
use Rattle.std.specs.Cmp.{IsTotalOrder}

-- Keys are compared by a total order under which only equal keys are tied.
pub record IsKeyOrder {K : Type 0} (cmp : K → K → Ordering) : Type 0 where
  pub total : IsTotalOrder cmp
  pub same : IsAntisymmetric cmp

one_found : {A : Type 0} (a b : Option A) → IsPermutation (option_to_list a) (option_to_list b) → a ≡ b
one_found None None h = refl
one_found None (Some y) h = let e = length_permutation [] (y ∷ []) h in absurd (omega (arith, e))
one_found (Some x) None h = let e = length_permutation (x ∷ []) [] h in absurd (omega (arith, e))
one_found (Some x) (Some y) h = let e = one_permutation x (y ∷ []) h in cc

pub tie : (o : Ordering) → is_eq o ≡ true → o ≡ Equal
tie Equal h = refl
tie Less h = absurd cc
tie Greater h = absurd cc

pub apart_if_less : (o : Ordering) → T (is_lt o) → is_eq o ≡ false
apart_if_less Less h = refl
apart_if_less Equal h = absurd h
apart_if_less Greater h = absurd h

module _ {K X : Type 0} (cmp : K → K → Ordering) (order : IsKeyOrder cmp) where
  abbrev keys_of : List (K × X) → List K
  keys_of entries = map (λ e. e.0) entries

  -- entries with other keys are passed over
  none_tied : (q : K) (e : K × X) (es : List (K × X)) → eq_by_cmp cmp q e.0 ≡ true → AllByRecursion (λ y. eq_by_cmp cmp e.0 y ≡ false) (keys_of es) → filter (λ f. eq_by_cmp cmp q f.0) es ≡ []
  none_tied q e [] is apart = refl
  none_tied q e (f ∷ es) is apart =
      let other : eq_by_cmp cmp q f.0 ≡ false = ap is_eq (order.total.congr q e.0 f.0 (tie (cmp q e.0) is)) ∙ apart.0 in
      rw (other, none_tied q e es is apart.1) refl

  -- so a look-up is a filter
  filter_finds : (q : K) (es : List (K × X)) → IsDistinct (eq_by_cmp cmp) (keys_of es) → map (λ e. e.1) (filter (λ e. eq_by_cmp cmp q e.0) es) ≡ option_to_list (find cmp q es)
  filter_finds q [] apart = refl
  filter_finds q (e ∷ es) apart =
      elim (eq_by_cmp cmp q e.0) as (λ b. eq_by_cmp cmp q e.0 ≡ b → map (λ f. f.1) (cond b (e ∷ filter (λ f. eq_by_cmp cmp q f.0) es) (filter (λ f. eq_by_cmp cmp q f.0) es)) ≡ option_to_list (cond b (Some e.1) (find cmp q es))) [
        | true ↦ λ is. ap (map (λ (f : K × X). f.1)) (ap (λ more. e ∷ more) (none_tied q e es is (IsDistinct-head _ _ _ apart)))
        | false ↦ λ is. filter_finds q es (IsDistinct-tail _ _ _ apart)
      ] refl

  pub found_by_key : (q : K) (es : List (K × X)) → IsDistinct (eq_by_cmp cmp) (keys_of es) → map (λ e. e.1) (where_key cmp (eq_by_cmp cmp q) es) ≡ option_to_list (find cmp q es)
  found_by_key = filter_finds

  -- and does not rest on the order of the entries
  pub found_in_any_order : (q : K) (es fs : List (K × X)) → IsPermutation es fs → IsDistinct (eq_by_cmp cmp) (keys_of es) → find cmp q es ≡ find cmp q fs
  found_in_any_order q es fs moved apart =
      let late : IsDistinct (eq_by_cmp cmp) (keys_of fs) = IsDistinct-IsPermutation (eq_by_cmp cmp) (eq_by_cmp_equiv order.total).symm _ _ (IsPermutation-map (λ e. e.0) es fs moved) apart in
      let shown = IsPermutation-map (λ e. e.1) _ _ (IsPermutation-filter (λ e. eq_by_cmp cmp q e.0) es fs moved) in
      one_found _ _ (subst (λ l. IsPermutation l (option_to_list (find cmp q fs))) (filter_finds q es apart) (subst (IsPermutation (map (λ e. e.1) (filter (λ e. eq_by_cmp cmp q e.0) es))) (filter_finds q fs late) shown))

  pub one_map : (es fs : List (K × X)) → IsPermutation es fs → IsDistinct (eq_by_cmp cmp) (keys_of es) → from_entries {R = cmp} es ≡ from_entries fs
  one_map es fs moved apart = same_map order.total order.same _ _ (λ q. get-from_entries order.total es q ∙ found_in_any_order q es fs moved apart ∙ sym (get-from_entries order.total fs q))

  -- what an entry replaces does not matter
  pub insert_removed : (m : FinMap cmp X) (k : K) (v : X) → insert (remove m k) k v ≡ insert m k v
  insert_removed m k v =
      same_map order.total order.same _ _ (λ q. get-insert order.total (remove m k) k v q ∙ ap (cond (eq_by_cmp cmp q k) (Some v)) (get-remove order.total m k q) ∙ either (eq_by_cmp cmp q k) (Some v) None (get m q) ∙ sym (get-insert order.total m k v q))
    where
      either : {A : Type 0} (b : Bool) (x y z : A) → cond b x (cond b y z) ≡ cond b x z
      either true x y z = refl
      either false x y z = refl

  pub get_removed : (m : FinMap cmp X) (k : K) → get (remove m k) k ≡ None
  get_removed m k = get-remove order.total m k k ∙ rw ((eq_by_cmp_equiv order.total).refl k) refl

  pub get_inserted : (m : FinMap cmp X) (k : K) (v : X) → get (insert m k v) k ≡ Some v
  get_inserted m k v = get-insert order.total m k v k ∙ rw ((eq_by_cmp_equiv order.total).refl k) refl

  pub retain_all : (m : FinMap cmp X) → retain_keys m (λ _. true) ≡ m
  retain_all m = same_map order.total order.same _ m (λ q. get-retain_keys m (λ _. true) q (λ x tied. refl))

  -- the entries whose keys pass
  pub entries_retained : (m : FinMap cmp X) (p : K → Bool) → entries (retain_keys m p) ≡ where_key cmp p (entries m)
  entries_retained m p =
      let alike = λ (q x : K) (tied : cmp q x ≡ Equal). ap p (sym (order.same q x tied)) in
      same_entries cmp order.total order.same (entries (retain_keys m p)) (where_key cmp p (entries m)) (entries_sorted (retain_keys m p)) (is_sorted-where_key cmp p (entries m) (entries_sorted m))
      (λ q. sym (get-entries (retain_keys m p) q) ∙ get-retain_keys m p q (alike q) ∙ ap (λ o. cond (p q) o None) (get-entries m q) ∙ sym (find-where_key cmp p q (alike q) (entries m)))

  below : (x : K) (es : List (K × X)) → AllByRecursion (λ y. cmp x y ≡ Less) (keys_of es) → T (below_all cmp x es)
  below x [] all = tt
  below x (e ∷ es) all = rw all.0 (below x es all.1)

  pub is_rising : (es : List (K × X)) → IsStrictlySortedBy cmp (keys_of es) → T (is_sorted cmp es)
  is_rising [] up = tt
  is_rising (e ∷ es) up = wholes (below_all cmp e.0 es) (is_sorted cmp es) (below e.0 es (sorted_head cmp e.0 _ up)) (is_rising es (sorted_tail cmp e.0 _ up))

  pub where_key_passes : (p : K → Bool) (es : List (K × X)) → AllByRecursion (λ e. p e.0 ≡ true) (where_key cmp p es)
  where_key_passes p [] = tt
  where_key_passes p (e ∷ es) =
      elim (p e.0) as (λ b. p e.0 ≡ b → AllByRecursion (λ f. p f.0 ≡ true) (cond b (e ∷ where_key cmp p es) (where_key cmp p es))) [
        | true ↦ λ is. (is, where_key_passes p es)
        | false ↦ λ is. where_key_passes p es
      ] refl

  -- ---- what is found is an entry, and each entry is found

  pub found_has : (q : K) (v : X) (es : List (K × X)) → find cmp q es ≡ Some v → Has es (q, v)
  found_has q v [] is = absurd cc
  found_has q v (e ∷ es) is = elim (cases_Bool (eq_by_cmp cmp q e.0)) [
    | inl same ↦
        let key : q ≡ e.0 = order.same q e.0 (tie (cmp q e.0) same) in
        let value : e.1 ≡ v = (let it : cond (eq_by_cmp cmp q e.0) (Some e.1) (find cmp q es) ≡ Some v = is in let some = rw same at it in cc) in
        inl (λ i. (key i, sym value i))
    | inr other ↦ inr (found_has q v es (let it : cond (eq_by_cmp cmp q e.0) (Some e.1) (find cmp q es) ≡ Some v = is in rw other at it))
  ]

  pub below_has : (x q : K) (v : X) (es : List (K × X)) → T (below_all cmp x es) → Has es (q, v) → T (is_lt (cmp x q))
  below_has x q v [] below here = absurd here
  below_has x q v (e ∷ es) below (inl is) = subst (λ (f : K × X). T (is_lt (cmp x f.0))) (sym is) (halves (is_lt (cmp x e.0)) (below_all cmp x es) below).0
  below_has x q v (e ∷ es) below (inr there) = below_has x q v es (halves (is_lt (cmp x e.0)) (below_all cmp x es) below).1 there

  has_found : (q : K) (v : X) (es : List (K × X)) → T (is_sorted cmp es) → Has es (q, v) → find cmp q es ≡ Some v
  has_found q v [] sorted here = absurd here
  has_found q v (e ∷ es) sorted (inl is) = subst (λ (f : K × X). find cmp q (f ∷ es) ≡ Some v) is (rw ((eq_by_cmp_equiv order.total).refl q) refl)
  has_found q v (e ∷ es) sorted (inr there) =
      let sides = halves (below_all cmp e.0 es) (is_sorted cmp es) sorted in
      let apart : eq_by_cmp cmp q e.0 ≡ false = (eq_by_cmp_equiv order.total).symm q e.0 ∙ apart_if_less (cmp e.0 q) (below_has e.0 q v es sides.0 there) in
      rw apart (has_found q v es sides.1 there)

  pub entry_got : (m : FinMap cmp X) (q : K) (v : X) → Has (entries m) (q, v) → get m q ≡ Some v
  entry_got m q v here = get-entries m q ∙ has_found q v (entries m) (entries_sorted m) here

  pub got_entry : (m : FinMap cmp X) (q : K) (v : X) → get m q ≡ Some v → Has (entries m) (q, v)
  got_entry m q v is = found_has q v (entries m) (sym (get-entries m q) ∙ is)
