-- What a query shows of the map that the rows of its table spell.
use Rattle.rd_tables.proofs.Common.{◌≡◌, ◌+◌, ◌<◌, List, [], ◌∷◌, map, filter, length, get_or, Bool, true, false, cond, T, Some, None, Option, refl, sym, ap, subst, subst₂, ◌∙◌, arith, Less, Equal, is_lt, option_to_list, list_all, AllByRecursion, IsPermutation, IsSorted, eq_by_cmp, get, entries, entries_sorted, retain_keys, get-from_entries, get-retain_keys, get-entries, find, is_sorted, where_key, find-where_key, same_entries, length-map, get_or-map, eq_by_cmp_equiv, length_permutation, IsPermutation-map, All-permutation, recursion_from_All, All-from_recursion, IsDistinct-IsPermutation, apart_from_distinct, sorted_from_all_adjacent, IsDistinct-keys_filter, Row, holds, Query, Output, output, output_cmp, key_cmp, one_permutation, IsPicked, Spelling, entry_of, IsSpelled, Spells, map_of}
use Rattle.std.specs.List.{IsDistinct}
use Rattle.std.specs.List.Sorted.{IsStrictlySortedBy}
use Rattle.rd_tables.proofs.ListLemmas.{map_map, all_weaker, empty_by_length, permuted_images}
use Rattle.rd_tables.proofs.Entries.{IsKeyOrder, found_by_key, found_in_any_order, is_rising, where_key_passes}

module _ {K X : Type 0} (spelling : Spelling K X) (order : IsKeyOrder spelling.cmp) where
  abbrev look : Row → K × X
  look row = entry_of spelling row

  -- a test of rows that is one of keys
  pub kept_entries : (p : K → Bool) (passes : Row → Bool) (table : List Row) → AllByRecursion (λ row. passes row ≡ p (look row).0) table → map look (filter passes table) ≡ where_key spelling.cmp p (map look table)
  kept_entries p passes [] all = refl
  kept_entries p passes (r ∷ table) all =
      ap (λ b. map look (cond b (r ∷ filter passes table) (filter passes table))) all.0
      ∙ elim (p (look r).0) as (λ b. map look (cond b (r ∷ filter passes table) (filter passes table)) ≡ cond b (look r ∷ where_key spelling.cmp p (map look table)) (where_key spelling.cmp p (map look table))) [
        | true ↦ ap (λ more. look r ∷ more) (kept_entries p passes table all.1)
        | false ↦ kept_entries p passes table all.1
      ]

  -- the keys of the entries of such rows are apart
  pub keys_apart : (table : List Row) → Spells spelling table → IsDistinct (eq_by_cmp spelling.cmp) (map (λ (e : K × X). e.0) (map look table))
  keys_apart table spells = subst (IsDistinct (eq_by_cmp spelling.cmp)) (sym (map_map (λ (e : K × X). e.0) look table)) spells.apart

  module _ (query : Query) (params : Row) (table rows : List Row) (spells : Spells spelling table) (picks : IsPicked query params table rows) where
    abbrev passes : Row → Bool
    passes row = list_all (holds (params ∷ row ∷ [])) query.filter

    abbrev shows : Row → Output
    shows row = output query (params ∷ row ∷ [])

    -- What it shows of the entries whose keys pass, in the order of their keys.
    module _ (p : K → Bool) (show : K × X → Row) (sorts : K → Row) (tests : (row : Row) → IsSpelled spelling row → passes row ≡ p (look row).0)
        (outs : (row : Row) → IsSpelled spelling row → shows row ≡ (sorts (look row).0, show (look row)))
        (rises : (a b : K) → p a ≡ true → p b ≡ true → is_lt (key_cmp 0 (map (λ k. k.1) query.order) (sorts b) (sorts a)) ≡ false → eq_by_cmp spelling.cmp a b ≡ false → spelling.cmp a b ≡ Less) where
      abbrev out : K × X → Output
      out e = (sorts e.0, show e)

      shown_as : (rs : List Row) → AllByRecursion (λ row. shows row ≡ out (look row)) rs → map shows (filter passes rs) ≡ map out (map look (filter passes rs))
      shown_as [] all = refl
      shown_as (r ∷ rs) all =
          elim (passes r) as (λ b. map shows (cond b (r ∷ filter passes rs) (filter passes rs)) ≡ map out (map look (cond b (r ∷ filter passes rs) (filter passes rs)))) [
            | true ↦ rw (all.0, shown_as rs all.1) refl
            | false ↦ shown_as rs all.1
          ]

      rising_keys : (fs : List (K × X)) → IsSorted (output_cmp query) (map out fs) → AllByRecursion (λ e. p e.0 ≡ true) fs → IsDistinct (eq_by_cmp spelling.cmp) (map (λ e. e.0) fs) → IsStrictlySortedBy spelling.cmp (map (λ e. e.0) fs)
      unfolding IsStrictlySortedBy
      rising_keys [] sorted pass apart = tt
      rising_keys (f ∷ fs) sorted pass apart =
          sorted_from_all_adjacent order.total (map (λ e. e.0) (f ∷ fs)) f.0 (λ k low.
          let within : k + 1 < length (f ∷ fs) = omega (arith, low, length-map (f ∷ fs) (λ (e : K × X). e.0)) in
          let a = get_or (f ∷ fs) k f in
          let b = get_or (f ∷ fs) (k + 1) f in
          let first : get_or (map (λ e. e.0) (f ∷ fs)) k f.0 ≡ a.0 = get_or-map (λ (e : K × X). e.0) (f ∷ fs) k f in
          let second : get_or (map (λ e. e.0) (f ∷ fs)) (k + 1) f.0 ≡ b.0 = get_or-map (λ (e : K × X). e.0) (f ∷ fs) (k + 1) f in
          let every = All-from_recursion (λ (e : K × X). p e.0 ≡ true) (f ∷ fs) pass in
          let low_out : get_or (map out (f ∷ fs)) k (out f) ≡ out a = get_or-map out (f ∷ fs) k f in
          let high_out : get_or (map out (f ∷ fs)) (k + 1) (out f) ≡ out b = get_or-map out (f ∷ fs) (k + 1) f in
          let up : is_lt (output_cmp query (out b) (out a)) ≡ false = subst₂ (λ x y. is_lt (output_cmp query x y) ≡ false) high_out low_out (sorted k (out f) (omega arith) (omega (arith, within, length-map (f ∷ fs) out))) in
          let differ : eq_by_cmp spelling.cmp a.0 b.0 ≡ false = subst₂ (λ x y. eq_by_cmp spelling.cmp x y ≡ false) first second (apart_from_distinct (eq_by_cmp spelling.cmp) _ k (k + 1) f.0 apart (omega arith) low) in
          subst₂ (λ x y. spelling.cmp x y ≡ Less) (sym first) (sym second) (rises a.0 b.0 (every k f (omega (arith, within))) (every (k + 1) f within) up differ))

      pub in_order : rows ≡ map show (entries (retain_keys (map_of spelling table) p))
      in_order =
          let all = map look table in
          let es = map look (filter passes table) in
          let from : IsPermutation (map out es) picks.ordered = subst (λ l. IsPermutation l picks.ordered) (shown_as table (all_weaker _ _ table outs spells.spelled)) picks.same in
          let found = permuted_images out es picks.ordered from in
          let fs = found.0 in
          let moved : IsPermutation es fs = found.1 in
          let is : picks.ordered ≡ map out fs = found.2 in
          let kept : es ≡ where_key spelling.cmp p all = kept_entries p passes table (all_weaker _ _ table tests spells.spelled) in
          let pass : AllByRecursion (λ e. p e.0 ≡ true) fs =
          recursion_from_All (λ (e : K × X). p e.0 ≡ true) fs (All-permutation (λ (e : K × X). p e.0 ≡ true) _ _ moved (All-from_recursion (λ (e : K × X). p e.0 ≡ true) es (subst (AllByRecursion (λ (e : K × X). p e.0 ≡ true)) (sym kept) (where_key_passes spelling.cmp order p all)))) in
          let apart_es : IsDistinct (eq_by_cmp spelling.cmp) (map (λ e. e.0) es) =
          subst (λ l. IsDistinct (eq_by_cmp spelling.cmp) (map (λ (e : K × X). e.0) l)) (sym kept) (IsDistinct-keys_filter (eq_by_cmp spelling.cmp) (λ e. p e.0) all (keys_apart table spells)) in
          let apart_fs : IsDistinct (eq_by_cmp spelling.cmp) (map (λ e. e.0) fs) = IsDistinct-IsPermutation (eq_by_cmp spelling.cmp) (eq_by_cmp_equiv order.total).symm _ _ (IsPermutation-map (λ e. e.0) es fs moved) apart_es in
          let up : T (is_sorted spelling.cmp fs) = is_rising spelling.cmp order fs (rising_keys fs (subst (IsSorted (output_cmp query)) is picks.sorted) pass apart_fs) in
          let alike = λ (q x : K) (tied : spelling.cmp q x ≡ Equal). ap p (sym (order.same q x tied)) in
          let finds = λ (q : K). sym (found_in_any_order spelling.cmp order q es fs moved apart_es) ∙ ap (find spelling.cmp q) kept ∙ find-where_key spelling.cmp p q (alike q) all
          ∙ ap (λ o. cond (p q) o None) (sym (get-from_entries order.total all q)) ∙ sym (get-retain_keys (map_of spelling table) p q (alike q)) ∙ get-entries _ q in
          let equal : fs ≡ entries (retain_keys (map_of spelling table) p) = same_entries spelling.cmp order.total order.same fs _ up (entries_sorted _) finds in
          picks.shown ∙ ap (map (λ (o : Output). o.1)) is ∙ map_map (λ (o : Output). o.1) out fs ∙ ap (map show) equal

    -- What it shows of the entry with one key.
    module _ (key : K) (show : X → Row) (tests : (row : Row) → IsSpelled spelling row → passes row ≡ eq_by_cmp spelling.cmp key (look row).0)
        (outs : (row : Row) → IsSpelled spelling row → shows row ≡ ([], show (look row).1)) where
      abbrev alone : X → Output
      alone x = ([], show x)

      abbrev of_key : List (K × X) → List (K × X)
      of_key es = where_key spelling.cmp (eq_by_cmp spelling.cmp key) es

      shown_alone : (rs : List Row) → AllByRecursion (λ row. passes row ≡ eq_by_cmp spelling.cmp key (look row).0) rs → AllByRecursion (λ row. shows row ≡ alone (look row).1) rs
          → map shows (filter passes rs) ≡ map alone (map (λ (e : K × X). e.1) (of_key (map look rs)))
      shown_alone [] all out = refl
      shown_alone (r ∷ rs) all out =
          ap (λ b. map shows (cond b (r ∷ filter passes rs) (filter passes rs))) all.0
          ∙ elim (eq_by_cmp spelling.cmp key (look r).0) as (λ b. map shows (cond b (r ∷ filter passes rs) (filter passes rs)) ≡ map alone (map (λ (e : K × X). e.1) (cond b (look r ∷ of_key (map look rs)) (of_key (map look rs))))) [
            | true ↦ rw (out.0, shown_alone rs all.1 out.1) refl
            | false ↦ shown_alone rs all.1 out.1
          ]

      at_most_one : (found : Option X) (ordered : List Output) → IsPermutation (map alone (option_to_list found)) ordered → map (λ o. o.1) ordered ≡ map show (option_to_list found)
      at_most_one None ordered h = rw (empty_by_length ordered (length_permutation [] ordered h)) refl
      at_most_one (Some x) ordered h = rw (one_permutation (alone x) ordered h) refl

      pub looked_up : rows ≡ map show (option_to_list (get (map_of spelling table) key))
      looked_up =
          let all = shown_alone table (all_weaker _ _ table tests spells.spelled) (all_weaker _ _ table outs spells.spelled) ∙ ap (map alone) (found_by_key spelling.cmp order key (map look table) (keys_apart table spells)) in
          picks.shown ∙ at_most_one _ picks.ordered (subst (λ l. IsPermutation l picks.ordered) all picks.same) ∙ ap (λ found. map show (option_to_list found)) (sym (get-from_entries order.total (map look table) key))
