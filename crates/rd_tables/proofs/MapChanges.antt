-- What a row put in, or rows taken out, make of the map that the rows of a table spell.
use Rattle.rd_tables.proofs.Common.{◌≡◌, inl, inr, List, [], ◌∷◌, map, filter, Bool, true, false, not, cond, Option, Some, None, IsSome, refl, sym, ap, subst, ◌∙◌, Ordering, Less, Equal, Greater, is_eq, true≢false, AllByRecursion, IsPermutation, eq_by_cmp, match_ordering, get, insert, remove, same_map, get-remove, get-from_entries, find, where_key, find-where_key, cases_Bool, eq_by_cmp_equiv, IsPermutation-trans, IsPermutation-refl, IsPermutation-cons, IsPermutation-map, IsPermutation-middle, IsPermutation-sym, All-permutation, recursion_from_All, All-from_recursion, IsDistinct-IsPermutation, IsDistinct-cons, IsDistinct-head, IsDistinct-tail, IsDistinct-keys_filter, Row, value_cmp, rowid, put_row, is_taken, Spelling, entry_of, IsSpelled, Spells, map_of}
use Rattle.std.specs.List.{IsDistinct}
use Rattle.rd_tables.proofs.ListLemmas.{map_map, neither, all_map, all_weaker, all_filtered}
use Rattle.rd_tables.proofs.Entries.{IsKeyOrder, one_map, tie}
use Rattle.rd_tables.proofs.QueryMaps.{kept_entries, keys_apart}

-- a row whose rowid is free goes in somewhere
pub put_permutes : (new : Row) (rows : List Row) → is_taken rows new ≡ false → IsPermutation (new ∷ rows) (put_row new rows)
put_permutes new [] free = IsPermutation-refl (new ∷ [])
put_permutes new (r ∷ rows) free =
    let parts = neither _ _ free in
    go (value_cmp (rowid r) (rowid new)) parts.0 (put_permutes new rows parts.1)
  where
    go : (o : Ordering) → is_eq o ≡ false → IsPermutation (new ∷ rows) (put_row new rows) → IsPermutation (new ∷ r ∷ rows) (match_ordering o (r ∷ put_row new rows) (new ∷ rows) (new ∷ r ∷ rows))
    go Less apart more = IsPermutation-trans _ _ _ (IsPermutation-sym _ _ (IsPermutation-middle (r ∷ []) new rows)) (IsPermutation-cons r _ _ more)
    go Equal apart more = absurd (true≢false apart)
    go Greater apart more = IsPermutation-refl (new ∷ r ∷ rows)

module _ {K X : Type 0} (spelling : Spelling K X) (order : IsKeyOrder spelling.cmp) where
  abbrev look : Row → K × X
  look row = entry_of spelling row

  abbrev key_at : Row → K
  key_at row = (look row).0

  -- the row does not have the key
  abbrev pub IsOtherThan : K → Row → Type 0
  IsOtherThan key row = eq_by_cmp spelling.cmp key (key_at row) ≡ false

  -- A row is put in whose key no row has.
  module _ (new : Row) (rows : List Row) (spells : Spells spelling rows) (is : IsSpelled spelling new) (none : AllByRecursion (IsOtherThan (key_at new)) rows) (free : is_taken rows new ≡ false) where
    apart : IsDistinct (eq_by_cmp spelling.cmp) (map key_at (new ∷ rows))
    apart = IsDistinct-cons (eq_by_cmp spelling.cmp) (key_at new) (map key_at rows) (all_map (λ k. eq_by_cmp spelling.cmp (key_at new) k ≡ false) key_at rows none) spells.apart

    pub spells_put : Spells spelling (put_row new rows)
    spells_put = record {
      spelled = recursion_from_All (IsSpelled spelling) _ (All-permutation (IsSpelled spelling) _ _ (put_permutes new rows free) (All-from_recursion (IsSpelled spelling) (new ∷ rows) (is, spells.spelled)));
      apart = IsDistinct-IsPermutation (eq_by_cmp spelling.cmp) (eq_by_cmp_equiv order.total).symm _ _ (IsPermutation-map key_at _ _ (put_permutes new rows free)) apart;
    }

    pub map_put : map_of spelling (put_row new rows) ≡ insert (map_of spelling rows) (look new).0 (look new).1
    map_put =
        sym (one_map spelling.cmp order (map look (new ∷ rows)) (map look (put_row new rows)) (IsPermutation-map look _ _ (put_permutes new rows free))
        (subst (IsDistinct (eq_by_cmp spelling.cmp)) (sym (map_map (λ (e : K × X). e.0) look (new ∷ rows))) apart))

  -- where the map has nothing at a key, no row has it
  pub none_at : (key : K) (rows : List Row) → get (map_of spelling rows) key ≡ None → AllByRecursion (IsOtherThan key) rows
  none_at key rows nothing = go rows (sym (get-from_entries order.total (map look rows) key) ∙ nothing)
    where
      parted : {A : Type 0} (b : Bool) (x : A) (o : Option A) → cond b (Some x) o ≡ None → (b ≡ false) × (o ≡ None)
      parted true x o e = absurd cc
      parted false x o e = (refl, e)

      go : (rs : List Row) → find spelling.cmp key (map look rs) ≡ None → AllByRecursion (IsOtherThan key) rs
      go [] e = tt
      go (r ∷ rs) e =
          let parts = parted (eq_by_cmp spelling.cmp key (key_at r)) (look r).1 (find spelling.cmp key (map look rs)) e in
          (parts.0, go rs parts.1)

  -- where it has something at a key, one row has it
  pub one_at : (key : K) (test : Row → Bool) (rows : List Row) → Spells spelling rows → ((row : Row) → IsSpelled spelling row → test row ≡ eq_by_cmp spelling.cmp key (key_at row)) → IsSome (get (map_of spelling rows) key)
      → (row : Row) × (filter test rows ≡ row ∷ []) × IsSpelled spelling row × (key ≡ key_at row)
  one_at key test rows spells tests some = go rows spells.spelled spells.apart (subst IsSome (get-from_entries order.total (map look rows) key) some)
    where
      -- rows with other keys do not pass
      others : (k : K) (rs : List Row) → eq_by_cmp spelling.cmp key k ≡ true → AllByRecursion (IsSpelled spelling) rs → AllByRecursion (λ j. eq_by_cmp spelling.cmp k j ≡ false) (map key_at rs) → filter test rs ≡ []
      others k [] same all apart = refl
      others k (r ∷ rs) same all apart =
          let other : test r ≡ false = tests r all.0 ∙ ap is_eq (order.total.congr key k (key_at r) (tie (spelling.cmp key k) same)) ∙ apart.0 in
          rw (other, others k rs same all.1 apart.1) refl

      go : (rs : List Row) → AllByRecursion (IsSpelled spelling) rs → IsDistinct (eq_by_cmp spelling.cmp) (map key_at rs) → IsSome (find spelling.cmp key (map look rs)) → (row : Row) × (filter test rs ≡ row ∷ []) × IsSpelled spelling row × (key ≡ key_at row)
      go [] all apart found = absurd cc
      go (r ∷ rs) all apart found = elim (cases_Bool (eq_by_cmp spelling.cmp key (key_at r))) [
        | inl same ↦ (
          r,
          rw (tests r all.0 ∙ same) (ap (λ more. r ∷ more) (others (key_at r) rs same all.1 (IsDistinct-head (eq_by_cmp spelling.cmp) (key_at r) (map key_at rs) apart))),
          all.0,
          order.same key (key_at r) (tie (spelling.cmp key (key_at r)) same),
        )
        | inr other ↦
            let it = go rs all.1 (IsDistinct-tail (eq_by_cmp spelling.cmp) (key_at r) (map key_at rs) apart) (rw other at found) in
            (it.0, rw (tests r all.0 ∙ other) it.1, it.2, it.3)
      ]

  -- The rows with one key are taken out.
  module _ (key : K) (test : Row → Bool) (rows : List Row) (spells : Spells spelling rows) (tests : (row : Row) → IsSpelled spelling row → test row ≡ eq_by_cmp spelling.cmp key (key_at row)) where
    abbrev left : List Row
    left = filter (λ row. not (test row)) rows

    kept : map look left ≡ where_key spelling.cmp (λ k. not (eq_by_cmp spelling.cmp key k)) (map look rows)
    kept = kept_entries spelling order (λ k. not (eq_by_cmp spelling.cmp key k)) (λ row. not (test row)) rows (all_weaker _ _ rows (λ row is. ap not (tests row is)) spells.spelled)

    pub map_left : map_of spelling left ≡ remove (map_of spelling rows) key
    map_left = same_map order.total order.same _ _ (λ q.
        get-from_entries order.total (map look left) q ∙ ap (find spelling.cmp q) kept
        ∙ find-where_key spelling.cmp (λ k. not (eq_by_cmp spelling.cmp key k)) q (λ k tied. ap (λ y. not (eq_by_cmp spelling.cmp key y)) (sym (order.same q k tied))) (map look rows)
        ∙ ap (λ o. cond (not (eq_by_cmp spelling.cmp key q)) o None) (sym (get-from_entries order.total (map look rows) q)) ∙ turned (eq_by_cmp spelling.cmp key q) (get (map_of spelling rows) q)
        ∙ ap (λ b. cond b None (get (map_of spelling rows) q)) ((eq_by_cmp_equiv order.total).symm key q) ∙ sym (get-remove order.total (map_of spelling rows) key q))
      where
        turned : {A : Type 0} (b : Bool) (o : Option A) → cond (not b) o None ≡ cond b None o
        turned true o = refl
        turned false o = refl

    pub spells_left : Spells spelling left
    spells_left = record {
      spelled = all_filtered (IsSpelled spelling) (λ row. not (test row)) rows spells.spelled;
      apart = subst (IsDistinct (eq_by_cmp spelling.cmp)) (map_map (λ (e : K × X). e.0) look left)
          (subst (λ l. IsDistinct (eq_by_cmp spelling.cmp) (map (λ (e : K × X). e.0) l)) (sym kept) (IsDistinct-keys_filter (eq_by_cmp spelling.cmp) (λ e. not (eq_by_cmp spelling.cmp key e.0)) (map look rows) (keys_apart spelling order rows spells)));
    }

    -- no row is left that has it
    pub none_left : AllByRecursion (IsOtherThan key) left
    none_left = go rows spells.spelled
      where
        go : (rs : List Row) → AllByRecursion (IsSpelled spelling) rs → AllByRecursion (IsOtherThan key) (filter (λ row. not (test row)) rs)
        go [] all = tt
        go (r ∷ rs) all =
            elim (test r) as (λ b. test r ≡ b → AllByRecursion (IsOtherThan key) (cond (not b) (r ∷ filter (λ row. not (test row)) rs) (filter (λ row. not (test row)) rs))) [
              | true ↦ λ e. go rs all.1
              | false ↦ λ e. (sym (tests r all.0) ∙ e, go rs all.1)
            ] refl
