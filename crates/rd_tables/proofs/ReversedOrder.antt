-- A query whose order is turned round shows the same rows, the last one first.
use Rattle.rd_tables.proofs.Common.{◌≡◌, ℕ, suc, ◌+◌, ◌-◌, ◌<◌, List, [], ◌∷◌, ◌++◌, map, reverse, take, filter, length, get_or, slice_get, false, true, not, Some, Ordering, refl, sym, ap, ap₂, subst, ◌∙◌, arith, is_lt, option_to_list, list_all, IsPermutation, IsSorted, ordering_then, get_or-reverse, length-reverse, map-append, reverse-reverse, take-map, IsPermutation-reverse, IsPermutation-trans, Row, Query, Output, output_cmp, key_cmp, Term, eval_all, holds, Key, by_key, collated, directed, IsPicked, IsStart, picked}
use Rattle.std.proofs.lemmas.Grind.{reverse_onto}
use Rattle.std.proofs.lemmas.Option.{slice_get-get_or}
use Rattle.sqlite.specs.Order.{column}
use Rattle.sqlite_value.specs.declared.value.Value.{Value}
use Rattle.rd_tables.proofs.ListLemmas.{map_map}

-- ---- the order turned round

-- a key that sorts the other way
abbrev pub turned_key : Key → Key
turned_key key = record { collation = key.collation; descending = not key.descending }

abbrev pub turned_term : Term × Key → Term × Key
turned_term k = (k.0, turned_key k.1)

-- the same query in the opposite order
abbrev pub turned : Query → Query
turned query = record query { order = map turned_term query.order }

by_turned_key : (key : Key) (a b : Value) → by_key (turned_key key) a b ≡ by_key key b a
by_turned_key key a b =
    elim key.descending as (λ way. directed (not way) (collated key.collation) a b ≡ directed way (collated key.collation) b a) [ true ↦ refl | false ↦ refl ]

by_turned_keys : (keys : List Key) (at : ℕ) (a b : Row) → key_cmp at (map turned_key keys) a b ≡ key_cmp at keys b a
by_turned_keys [] at a b = refl
by_turned_keys (key ∷ keys) at a b = ap₂ ordering_then (by_turned_key key (column a at) (column b at)) (by_turned_keys keys (suc at) a b)

opposite : (query : Query) (x y : Output) → output_cmp (turned query) x y ≡ output_cmp query y x
opposite query x y =
    let keys : map (λ (k : Term × Key). k.1) (map turned_term query.order) ≡ map turned_key (map (λ (k : Term × Key). k.1) query.order) =
    map_map (λ (k : Term × Key). k.1) turned_term query.order ∙ sym (map_map turned_key (λ (k : Term × Key). k.1) query.order) in
    ap (λ ks. key_cmp 0 ks x.0 y.0) keys ∙ by_turned_keys (map (λ (k : Term × Key). k.1) query.order) 0 x.0 y.0

picked_turned : (query : Query) (params : Row) (table : List Row) → picked (turned query) params table ≡ picked query params table
picked_turned query params table =
    ap (λ terms. map (λ (row : Row). (eval_all terms (params ∷ row ∷ []), eval_all query.project (params ∷ row ∷ []))) (filter (λ row. list_all (holds (params ∷ row ∷ [])) query.filter) table))
    (map_map (λ (k : Term × Key). k.0) turned_term query.order)

-- ---- a list from its end

sorted_reversed : {X : Type 0} (cmp back : X → X → Ordering) → ((x y : X) → back x y ≡ cmp y x) → (xs : List X) → IsSorted back xs → IsSorted cmp (reverse xs)
sorted_reversed cmp back is xs sorted k d low inside =
    let within : k + 1 < length xs = omega (arith, inside, length-reverse xs) in
    let at = length xs - 1 - (k + 1) in
    let later : get_or (reverse xs) (k + 1) d ≡ get_or xs at d = get_or-reverse xs (k + 1) d within in
    let next : length xs - 1 - k ≡ at + 1 = omega (arith, within) in
    let earlier : get_or (reverse xs) k d ≡ get_or xs (at + 1) d = get_or-reverse xs k d (omega (arith, within)) ∙ ap (λ n. get_or xs n d) next in
    ap₂ (λ x y. is_lt (cmp x y)) later earlier ∙ sym (ap is_lt (is (get_or xs (at + 1) d) (get_or xs at d))) ∙ sorted at d (omega arith) (omega (arith, within))

reverse-map : {A B : Type 0} (f : A → B) (xs : List A) → reverse (map f xs) ≡ map f (reverse xs)
reverse-map f [] = refl
reverse-map f (x ∷ xs) =
    reverse_onto (map f xs) (f x) [] ∙ ap (λ l. l ++ f x ∷ []) (reverse-map f xs) ∙ sym (map-append f (reverse xs) (x ∷ [])) ∙ ap (map f) (sym (reverse_onto xs x []))

first_taken : {A : Type 0} (xs : List A) → take 1 xs ≡ option_to_list (slice_get xs 0)
first_taken [] = refl
first_taken (x ∷ xs) = refl

-- the first of a list that is turned round is the last of the list
last_first : {A : Type 0} (xs : List A) → slice_get (reverse xs) 0 ≡ slice_get xs (length xs - 1)
last_first [] = refl
last_first (x ∷ more) =
    let xs = x ∷ more in
    let some : 0 < length xs = omega arith in
    slice_get-get_or (reverse xs) 0 x (omega (arith, length-reverse xs))
    ∙ ap Some (get_or-reverse xs 0 x some)
    ∙ sym (slice_get-get_or xs (length xs - 1 - 0) x (omega arith))
    ∙ ap (slice_get xs) (omega arith)

-- ---- what the query shows

-- all rows that the turned query picks are, from the last to the first, those that the query picks
pub turned_picks : (query : Query) (params : Row) (table rows : List Row) → IsPicked (turned query) params table rows → IsPicked query params table (reverse rows)
turned_picks query params table rows picks = record {
  ordered = reverse picks.ordered;
  same = IsPermutation-trans _ _ _ (subst (λ l. IsPermutation l picks.ordered) (picked_turned query params table) picks.same) (IsPermutation-reverse picks.ordered);
  sorted = sorted_reversed (output_cmp query) (output_cmp (turned query)) (opposite query) picks.ordered picks.sorted;
  shown = ap reverse picks.shown ∙ reverse-map (λ (o : Output). o.1) picks.ordered;
}

-- if the query shows these, then the first row of the turned query shows the last of them
pub last_picked : {A : Type 0} (query : Query) (params : Row) (table rows : List Row) (show : A → Row) (es : List A) → ((all : List Row) → IsPicked query params table all → all ≡ map show es) → IsStart (turned query) 1 params table rows
    → rows ≡ map show (option_to_list (slice_get es (length es - 1)))
last_picked query params table rows show es shows start =
    let all = start.all in
    let back : all ≡ map show (reverse es) = sym (reverse-reverse all) ∙ ap reverse (shows (reverse all) (turned_picks query params table all start.picks)) ∙ reverse-map show es in
    start.first ∙ ap (take 1) back ∙ take-map show 1 (reverse es) ∙ ap (map show) (first_taken (reverse es) ∙ ap option_to_list (last_first es))
