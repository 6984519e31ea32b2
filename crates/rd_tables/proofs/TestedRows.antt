-- What the rows of a table are where all of them were shown and tested.
use Rattle.rd_tables.proofs.Common.{◌≡◌, inl, inr, ℕ, ◌+◌, ◌<◌, List, [], ◌∷◌, map, filter, length, get_or, All, Bool, true, false, Some, refl, sym, ap, subst, ◌∙◌, arith, true≢false, int_lt, Less, Ordering, is_eq, AllByRecursion, IsPermutation, eq_by_cmp, get, get-from_entries, find, cases_Bool, eq_by_cmp_equiv, length-map, get_or-map, IsPermutation-map, IsPermutation-sym, All-permutation, recursion_from_All, All-from_recursion, IsDistinct-IsPermutation, IsDistinct-from_sorted, IsDistinct-head, IsDistinct-tail, sorted_from_all_adjacent, Value, Null, Int, Real, Text, Blob, Row, value_cmp, rowid, Query, Output, output, col, Key, value_cmp_total, value_cmp-Int, id_in, nat_tests, is_int, Has, all_has, asks_of, picked, IsPicked, AreRising, IsListed, Spelling, entry_of, IsSpelled, Spells, SpellLawful, HaveRowids, map_of}
use Rattle.std.specs.List.{IsDistinct}
use Rattle.sqlite.specs.Order.{column}
use Rattle.sqlite_sql.specs.Term.{Term}
use Rattle.rd_tables.proofs.ListLemmas.{map_map, filter_true, in_map, from_map, one_row}
use Rattle.rd_tables.proofs.Entries.{IsKeyOrder, found_has}

-- ---- what is true of all that is in a list

pub all_in : {A : Type 0} (P : A → Type 0) (xs : List A) → ((x : A) → Has xs x → P x) → AllByRecursion P xs
all_in P [] each = tt
all_in P (x ∷ xs) each = (each x (inl refl), all_in P xs (λ y there. each y (inr there)))

pub to_permuted : {A : Type 0} (xs ys : List A) (x : A) → IsPermutation xs ys → Has xs x → Has ys x
to_permuted xs ys x moved here =
    all_has (Has ys) xs x (recursion_from_All (Has ys) xs (All-permutation (Has ys) ys xs (IsPermutation-sym _ _ moved) (All-from_recursion (Has ys) ys (all_in (Has ys) ys (λ y there. there))))) here

module _ (tree : ℕ) (first : Term) (shown : List Term) (order : List (Term × Key)) (table rows : List Row) where
  abbrev query : Query
  query = asks_of tree [] (first ∷ shown) order

  abbrev pub show : Row → Row
  show row = (output query ([] ∷ row ∷ [])).1

  -- all rows, in some order
  pub all_shown : IsPicked query [] table rows → IsPermutation (map show table) rows
  all_shown picks =
      let moved = IsPermutation-map (λ (o : Output). o.1) _ _ picks.same in
      let all = map_map (λ (o : Output). o.1) (λ row. output query ([] ∷ row ∷ [])) (filter (λ _. true) table) ∙ ap (map show) (filter_true table) in
      subst (λ l. IsPermutation l rows) all (subst (IsPermutation (map (λ (o : Output). o.1) (picked query [] table))) (sym picks.shown) moved)

  -- a test of the rows shown is one of the rows of the table
  pub each_shown : (Q : Row → Type 0) → IsPicked query [] table rows → All Q rows → (row : Row) → Has table row → Q (show row)
  each_shown Q picks all row here =
      all_has Q (map show table) (show row) (recursion_from_All Q (map show table) (All-permutation Q rows (map show table) (IsPermutation-sym _ _ (all_shown picks)) all)) (in_map show table row here)

  pub shown_each : (Q : Row → Type 0) → IsPicked query [] table rows → ((row : Row) → Has table row → Q (show row)) → All Q rows
  shown_each Q picks each =
      All-permutation Q (map show table) rows (all_shown picks) (All-from_recursion Q (map show table) (all_in Q (map show table) (λ shown here.
      let it = from_map show table shown here in subst Q (sym it.2) (each it.0 it.1))))

below : (a b : Value) → is_int a ≡ true → is_int b ≡ true → int_lt (id_in a) (id_in b) ≡ true → value_cmp a b ≡ Less
below (Int a) (Int b) x y up = value_cmp-Int a b ∙ grind (arith, nat_tests, up)
below (Int a) Null x y up = absurd cc
below (Int a) (Real b) x y up = absurd cc
below (Int a) (Text b) x y up = absurd cc
below (Int a) (Blob b) x y up = absurd cc
below Null b x y up = absurd cc
below (Real a) b x y up = absurd cc
below (Text a) b x y up = absurd cc
below (Blob a) b x y up = absurd cc

module _ (rows : List Row) (rising : AreRising rows) where
  abbrev firsts : List Value
  firsts = map (λ row. column row 0) rows

  first_at : (k : ℕ) → get_or firsts k (column [] 0) ≡ column (get_or rows k []) 0
  first_at k = get_or-map (λ row. column row 0) rows k []

  pub firsts_apart : IsDistinct (eq_by_cmp value_cmp) firsts
  firsts_apart = IsDistinct-from_sorted value_cmp firsts (sorted_from_all_adjacent value_cmp_total firsts (column [] 0) (λ k low.
      let within : k + 1 < length rows = omega (arith, low, length-map rows (λ row. column row 0)) in
      ap (λ v. value_cmp v (get_or firsts (k + 1) (column [] 0))) (first_at k) ∙ ap (value_cmp (column (get_or rows k []) 0)) (first_at (k + 1))
      ∙ below (column (get_or rows k []) 0) (column (get_or rows (k + 1) []) 0) (rising.numbers k [] (omega (arith, within))) (rising.numbers (k + 1) [] within) (rising.rise k within)))

-- the rowids of the table are numbers, and none comes twice
module _ (tree : ℕ) (shown : List Term) (order : List (Term × Key)) (table rows : List Row) (listed : IsListed (asks_of tree [] (col 1 0 ∷ shown) order) table rows) where
  abbrev at : Row → Row
  at row = show tree (col 1 0) shown order table rows row

  pub rowids_apart : IsDistinct (eq_by_cmp value_cmp) (map rowid table)
  rowids_apart =
      let moved = IsPermutation-map (λ row. column row 0) _ _ (all_shown tree (col 1 0) shown order table rows listed.picks) in
      subst (IsDistinct (eq_by_cmp value_cmp)) (map_map (λ row. column row 0) at table)
      (IsDistinct-IsPermutation (eq_by_cmp value_cmp) (eq_by_cmp_equiv value_cmp_total).symm _ _ (IsPermutation-sym _ _ moved) (firsts_apart rows listed.rising))

  pub have_rowids : HaveRowids table
  have_rowids = record {
    keyed = λ row here. each_shown tree (col 1 0) shown order table rows (λ row. is_int (column row 0) ≡ true) listed.picks listed.rising.numbers row here;
    apart = λ row other here there tied. one_row (eq_by_cmp value_cmp) (eq_by_cmp_equiv value_cmp_total).symm rowid table rowids_apart row other here there (ap is_eq tied);
  }

-- rows whose keys would be tied only where their rowids are have keys that are apart
pub apart_by_rowids : {K : Type 0} (cmp : K → K → Ordering) (key : Row → K) (rows : List Row) → IsDistinct (eq_by_cmp value_cmp) (map rowid rows)
    → ((row other : Row) → Has rows row → Has rows other → eq_by_cmp cmp (key row) (key other) ≡ true → eq_by_cmp value_cmp (rowid row) (rowid other) ≡ true) → IsDistinct (eq_by_cmp cmp) (map key rows)
unfolding IsDistinct
apart_by_rowids cmp key [] apart ties = tt
apart_by_rowids cmp key (row ∷ rows) apart ties = (
  all_mapped rows (λ other there. elim (cases_Bool (eq_by_cmp cmp (key row) (key other))) [
    | inl tied ↦ absurd (true≢false (sym (ties row other (inl refl) (inr there) tied) ∙ all_has (λ v. eq_by_cmp value_cmp (rowid row) v ≡ false) (map rowid rows) (rowid other) apart.0 (in_map rowid rows other there)))
    | inr other ↦ other
  ]),
  apart_by_rowids cmp key rows apart.1 (λ r o here there. ties r o (inr here) (inr there)),
)
  where
    all_mapped : (rs : List Row) → ((other : Row) → Has rs other → eq_by_cmp cmp (key row) (key other) ≡ false) → AllByRecursion (λ k. eq_by_cmp cmp (key row) k ≡ false) (map key rs)
    all_mapped [] each = tt
    all_mapped (r ∷ rs) each = (each r (inl refl), all_mapped rs (λ o there. each o (inr there)))

-- ---- rows and the entries of the map that they spell

module _ {K X : Type 0} (spelling : Spelling K X) (order : IsKeyOrder spelling.cmp) where
  abbrev same : K → K → Bool
  same = eq_by_cmp spelling.cmp

  key_apart : (k : K) (es : List (K × X)) (q : K) (v : X) → AllByRecursion (λ y. same k y ≡ false) (map (λ (e : K × X). e.0) es) → Has es (q, v) → same k q ≡ false
  key_apart k es q v apart here = all_has (λ y. same k y ≡ false) (map (λ (e : K × X). e.0) es) q apart (in_map (λ (e : K × X). e.0) es (q, v) here)

  has_found : (q : K) (v : X) (es : List (K × X)) → IsDistinct same (map (λ e. e.0) es) → Has es (q, v) → find spelling.cmp q es ≡ Some v
  has_found q v [] apart here = absurd here
  has_found q v (e ∷ es) apart (inl is) = subst (λ (f : K × X). find spelling.cmp q (f ∷ es) ≡ Some v) is (rw ((eq_by_cmp_equiv order.total).refl q) refl)
  has_found q v (e ∷ es) apart (inr there) =
      let other : same q e.0 ≡ false = (eq_by_cmp_equiv order.total).symm q e.0 ∙ key_apart e.0 es q v (IsDistinct-head _ _ _ apart) there in
      rw other (has_found q v es (IsDistinct-tail _ _ _ apart) there)

  -- a row of a table that spells a map is one of its entries
  pub row_got : (table : List Row) → Spells spelling table → (row : Row) → Has table row → get (map_of spelling table) (entry_of spelling row).0 ≡ Some (entry_of spelling row).1
  row_got table spells row here =
      let es = map (entry_of spelling) table in
      get-from_entries order.total es (entry_of spelling row).0
      ∙ has_found (entry_of spelling row).0 (entry_of spelling row).1 es (subst (IsDistinct same) (sym (map_map (λ (e : K × X). e.0) (entry_of spelling) table)) spells.apart) (in_map (entry_of spelling) table row here)

  -- and each entry is that of a row
  pub got_row : (table : List Row) (key : K) (value : X) → get (map_of spelling table) key ≡ Some value → (row : Row) × Has table row × ((key, value) ≡ entry_of spelling row)
  got_row table key value is = from_map (entry_of spelling) table (key, value) (found_has spelling.cmp order key value (map (entry_of spelling) table) (sym (get-from_entries order.total (map (entry_of spelling) table) key) ∙ is))

  module _ (P : K × X → Type 0) (table : List Row) where
    pub rows_lawful : SpellLawful spelling P table → (row : Row) → Has table row → IsSpelled spelling row × P (entry_of spelling row)
    rows_lawful all row here = (all_has (IsSpelled spelling) table row all.spells.spelled here, all.lawful (entry_of spelling row).0 (entry_of spelling row).1 (row_got table all.spells row here))

    pub lawful_rows : IsDistinct same (map (λ row. (entry_of spelling row).0) table) → ((row : Row) → Has table row → IsSpelled spelling row × P (entry_of spelling row)) → SpellLawful spelling P table
    lawful_rows apart each = record {
      spells = record { spelled = all_in (IsSpelled spelling) table (λ row here. (each row here).0); apart = apart };
      lawful = λ key value is. let it = got_row table key value is in subst P (sym it.2) (each it.0 it.1).1;
    }
