-- What one query shows of the files of accessions that follow each other.
use Rattle.rd_store.proofs.Common.{◌≡◌, inl, inr, ℕ, zero, suc, ◌-◌, ◌<◌, ◌≤◌, pos, List, [], ◌∷◌, ◌++◌, map, take, drop, length, slice_index_or, Bool, true, false, not, T, ◌&&◌, ◌==◌, Some, refl, sym, ap, ap₂, subst, ◌∙◌, arith, nat_cmp, int_cmp, int_le, int_lt, is_lt, is_eq, Less, FinMap, entries, entries_sorted, get, retain_keys, is_sorted, AllZip, IsPartitionedBy, ordering_then, cases_eq, nat_tests, drop-map, get_or-map, length-map, take-map, Int, Row, column, key_cmp, Binary, Has, contains_had, is_true, Compare, Ge, Le, filter-map, value_cmp-Int, then-Equal, AreFounds, Found, IsPicked, rising, batch_query, Spells, entry_of, map_of, entries_retained, entry_got, in_order, and_true, filter_filter, filter_same, between, pairs_rise, parted, parted_map, sorted_after, sorted_before, least_numbers, most_numbers, Heading, ImageRow, IsIndexed, IsIndexedBy, filed_shown, files_at, is_from_to, is_number_below, is_number_up_to, AreFilesIn, FileAt, IsIndexOf, file_cmp, entry_for, register_of, file_in, file_spelling, later}
use Rattle.sqlite_sql.specs.Ops.{binary}
use Rattle.rd_tables.proofs.TestPlaces.{Turns}
use Rattle.rd_holdings.specs.declared.rows.Indexed.{Indexed}
use Rattle.rd_store.proofs.IndexQueries.{files_in}
use Rattle.rd_store.proofs.Orders.{file_back, file_order, number_order}

abbrev Files : Type 0
Files = List (FileAt × Found)

abbrev Images : Type 0
Images = FinMap nat_cmp ImageRow

abbrev Index : Type 0
Index = FinMap file_cmp Found

-- ---- the query

-- ORDER BY the accession and the slot, as the places of files rise
two_keys : (a b m n : ℕ) → key_cmp 0 (rising ∷ rising ∷ []) (Int (pos a) ∷ Int (pos m) ∷ []) (Int (pos b) ∷ Int (pos n) ∷ []) ≡ ordering_then (int_cmp (pos a) (pos b)) (int_cmp (pos m) (pos n))
two_keys a b m n = ap₂ ordering_then (value_cmp-Int (pos a) (pos b)) (then-Equal _ ∙ value_cmp-Int (pos m) (pos n))

files_rise : (a b m n : ℕ) → is_lt (ordering_then (int_cmp (pos b) (pos a)) (int_cmp (pos n) (pos m))) ≡ false → is_eq (ordering_then (nat_cmp a b) (nat_cmp m n)) ≡ false → ordering_then (nat_cmp a b) (nat_cmp m n) ≡ Less
files_rise a b m n up apart = grind (arith, nat_tests)

module _ (first last : ℕ) where
  abbrev pub is_inside : FileAt → Bool
  is_inside at = is_from_to first last at.acc

  pub batch_found : (table rows : List Row) → Spells file_spelling table → IsPicked batch_query (Int (pos first) ∷ Int (pos last) ∷ []) table rows → rows ≡ map filed_shown (entries (retain_keys (map_of file_spelling table) is_inside))
  batch_found table rows spells picks =
      in_order file_spelling file_order batch_query (Int (pos first) ∷ Int (pos last) ∷ []) table rows spells picks is_inside filed_shown (λ at. Int (pos at.acc) ∷ Int (pos at.slot) ∷ [])
      (λ row is. ap (λ s. is_true (binary (Compare Ge Binary) (column s 0) (Int (pos first))) && (is_true (binary (Compare Le Binary) (column s 0) (Int (pos last))) && true)) is
      ∙ rw (least_numbers (entry_of file_spelling row).0.acc first, most_numbers (entry_of file_spelling row).0.acc last, and_true) refl)
      (λ row is. ap (λ s. (column s 0 ∷ column s 1 ∷ [], later s ++ column s 0 ∷ [])) is)
      (λ a b at bt up apart. files_rise a.acc b.acc a.slot b.slot (sym (ap is_lt (two_keys b.acc a.acc b.slot a.slot)) ∙ up) apart)

  -- ---- of its files those of one accession

  of_those : (acc n : ℕ) → first ≤ acc → acc ≤ last → (is_from_to first last n && (n == acc)) ≡ (n == acc)
  of_those acc n low high = grind (arith, nat_tests)

  pub files_of_one : (index : Index) (acc : ℕ) → first ≤ acc → acc ≤ last → files_at acc (entries (retain_keys index is_inside)) ≡ entries (retain_keys index (λ at. at.acc == acc))
  files_of_one index acc low high =
      ap (files_at acc) (entries_retained file_cmp file_order index is_inside)
      ∙ filter_filter (λ (e : FileAt × Found). e.0.acc == acc) (λ e. is_inside e.0) (entries index)
      ∙ filter_same _ _ (entries index) (λ e here. of_those acc e.0.acc low high)
      ∙ sym (entries_retained file_cmp file_order index (λ at. at.acc == acc))

-- the rows show these files
pub files_read : (es : Files) → map file_in (map filed_shown es) ≡ map (λ (e : FileAt × Found). e.1) es
files_read [] = refl
files_read (e ∷ es) = ap₂ (λ f fs. f ∷ fs) (file_back e.1) (files_read es)

-- ---- the rows of one accession lie together

module _ (acc : ℕ) where
  abbrev below : Row → Bool
  below row = is_number_below acc (column row 9)

  abbrev up_to : Row → Bool
  up_to row = is_number_up_to acc (column row 9)

  lower_below : (a b m n : ℕ) → is_lt (ordering_then (nat_cmp a b) (nat_cmp m n)) ≡ true → int_lt (pos b) (pos acc) ≡ true → int_lt (pos a) (pos acc) ≡ true
  lower_below a b m n low holds = grind (arith, nat_tests)

  lower_up_to : (a b m n : ℕ) → is_lt (ordering_then (nat_cmp a b) (nat_cmp m n)) ≡ true → int_le (pos b) (pos acc) ≡ true → int_le (pos a) (pos acc) ≡ true
  lower_up_to a b m n low holds = grind (arith, nat_tests)

  pub parted_below : (es : Files) → T (is_sorted file_cmp es) → IsPartitionedBy below (map filed_shown es)
  parted_below es sorted = parted_map below filed_shown es (parted file_cmp (λ (at : FileAt). int_lt (pos at.acc) (pos acc)) (λ a b low holds. lower_below a.acc b.acc a.slot b.slot low holds) es sorted)

  pub parted_up_to : (from : ℕ) (es : Files) → T (is_sorted file_cmp es) → IsPartitionedBy up_to (drop from (map filed_shown es))
  parted_up_to from es sorted = subst (IsPartitionedBy up_to) (sym (drop-map filed_shown from es))
      (parted_map up_to filed_shown (drop from es) (parted file_cmp (λ (at : FileAt). int_le (pos at.acc) (pos acc)) (λ a b low holds. lower_up_to a.acc b.acc a.slot b.slot low holds) (drop from es) (sorted_after file_cmp from es sorted)))

  there : (n : ℕ) → (not (int_lt (pos n) (pos acc)) && int_le (pos n) (pos acc)) ≡ (n == acc)
  there n = grind (arith, nat_tests)

  pub rows_picked : (es : Files) (from to : ℕ) → from ≤ length (map filed_shown es) → to ≤ length (drop from (map filed_shown es))
      → Turns below (map filed_shown es) from → Turns up_to (drop from (map filed_shown es)) to → take to (drop from (map filed_shown es)) ≡ map filed_shown (files_at acc es)
  rows_picked es from to low high first second =
      between below up_to (map filed_shown es) from to first second low high
      ∙ filter-map (λ row. not (below row) && up_to row) filed_shown es
      ∙ ap (map filed_shown) (filter_same _ (λ (e : FileAt × Found). e.0.acc == acc) es (λ e inside. there e.0.acc))

-- ---- the first and the last of ascending accessions

-- these two are the first and the last
abbrev pub AreEnds : ℕ → ℕ → List (ℕ × Heading) → Type 0
AreEnds first last heads = (d : ℕ × Heading) → 0 < length heads → (first ≡ (slice_index_or heads 0 d).0) × (last ≡ (slice_index_or heads (length heads - 1) d).0)

not_above : (a b : ℕ) → is_lt (nat_cmp a b) ≡ true → a ≤ b
not_above a b low = grind (arith, nat_tests)

module _ (es : List (ℕ × ImageRow)) (sorted : T (is_sorted nat_cmp es)) where
  no_later : (i j : ℕ) (d : ℕ × ImageRow) → i ≤ j → j < length es → (slice_index_or es i d).0 ≤ (slice_index_or es j d).0
  no_later i j d low within = elim (cases_eq i j) [
    | inl same ↦ let is : (slice_index_or es i d).0 ≡ (slice_index_or es j d).0 = ap (λ k. (slice_index_or es k d).0) same in omega (arith, is)
    | inr differ ↦ not_above _ _ (pairs_rise nat_cmp es sorted i j d (omega (arith, low, differ)) within)
  ]

  bounded : (e : ℕ × ImageRow) → Has es e → (first last : ℕ) → AreEnds first last (map entry_for es) → (first ≤ e.0) × (e.0 ≤ last)
  bounded e here first last ends =
      let at = contains_had es e here in
      let same : length (map entry_for es) ≡ length es = length-map es entry_for in
      let some : 0 < length (map entry_for es) = omega (arith, same, at.1) in
      let both = ends (entry_for e) some in
      let end : length (map entry_for es) - 1 ≡ length es - 1 = ap (λ n. n - 1) same in
      let low : first ≡ (slice_index_or es 0 e).0 = both.0 ∙ ap (λ (h : ℕ × Heading). h.0) (get_or-map entry_for es 0 e (entry_for e) (omega (arith, at.1))) in
      let high : last ≡ (slice_index_or es (length es - 1) e).0 =
      both.1 ∙ ap (λ n. (slice_index_or (map entry_for es) n (entry_for e)).0) end ∙ ap (λ (h : ℕ × Heading). h.0) (get_or-map entry_for es (length es - 1) e (entry_for e) (omega (arith, at.1))) in
      let is : (slice_index_or es at.0 e).0 ≡ e.0 = ap (λ (f : ℕ × ImageRow). f.0) at.2 in
      let after = no_later 0 at.0 e (omega arith) at.1 in
      let before = no_later at.0 (length es - 1) e (omega (arith, at.1)) (omega (arith, at.1)) in
      (omega (arith, low, is, after), omega (arith, high, is, before))

-- ---- what is told of each

in_front : {A : Type 0} (n : ℕ) (xs : List A) (x : A) → Has (take n xs) x → Has xs x
in_front zero xs x here = absurd here
in_front (suc n) [] x here = absurd here
in_front (suc n) (y ∷ xs) x (inl is) = inl is
in_front (suc n) (y ∷ xs) x (inr later) = inr (in_front n xs x later)

in_rest : {A : Type 0} (n : ℕ) (xs : List A) (x : A) → Has (drop n xs) x → Has xs x
in_rest zero xs x here = here
in_rest (suc n) [] x here = absurd here
in_rest (suc n) (y ∷ xs) x here = inr (in_rest n xs x here)

module _ (images : Images) (index : Index) (is : IsIndexOf images index) (first last : ℕ) (rows : List Row) (shown : rows ≡ map filed_shown (entries (retain_keys index (is_inside first last)))) where
  one_told : (e : ℕ × ImageRow) (one : Indexed) → get images e.0 ≡ Some e.1 → first ≤ e.0 → e.0 ≤ last → IsIndexedBy rows (entry_for e) one → IsIndexed e one
  one_told e one given low high by =
      let these = map (λ (f : FileAt × Found). f.1) (entries (retain_keys index (λ at. at.acc == e.0))) in
      let told = by.files _ (entries_sorted (retain_keys index (is_inside first last))) shown ∙ ap (map (λ (f : FileAt × Found). f.1)) (files_of_one first last index e.0 low high) in
      record {
        acc = by.acc;
        kind = by.kind;
        deed = by.deed;
        files = subst (AreFounds e.1.kind e.1.bytes) (sym told) (subst (λ found. AreFilesIn found these) given (files_in (get images e.0) index e.0 (is e.0)));
      }

  all_told : (es : List (ℕ × ImageRow)) (batch : List Indexed) → ((e : ℕ × ImageRow) → Has es e → (get images e.0 ≡ Some e.1) × (first ≤ e.0) × (e.0 ≤ last)) → AllZip (IsIndexedBy rows) (map entry_for es) batch → AllZip IsIndexed es batch
  all_told [] [] each zip = tt
  all_told [] (one ∷ batch) each zip = absurd zip
  all_told (e ∷ es) [] each zip = absurd zip
  all_told (e ∷ es) (one ∷ batch) each zip = let it = each e (inl refl) in (one_told e one it.0 it.1 it.2 zip.0, all_told es batch (λ f there. each f (inr there)) zip.1)

  pub batch_told : (from most : ℕ) (heads : List (ℕ × Heading)) (batch : List Indexed) → heads ≡ take most (drop from (register_of images)) → AreEnds first last heads → AllZip (IsIndexedBy rows) heads batch
      → AllZip IsIndexed (take most (drop from (entries images))) batch
  batch_told from most heads batch are ends zip =
      let es = take most (drop from (entries images)) in
      let same : heads ≡ map entry_for es = are ∙ ap (take most) (drop-map entry_for from (entries images)) ∙ take-map entry_for most (drop from (entries images)) in
      let sorted : T (is_sorted nat_cmp es) = sorted_before nat_cmp most (drop from (entries images)) (sorted_after nat_cmp from (entries images) (entries_sorted images)) in
      let given : (e : ℕ × ImageRow) → Has es e → get images e.0 ≡ Some e.1 = λ e here. entry_got nat_cmp number_order images e.0 e.1 (in_rest from (entries images) e (in_front most (drop from (entries images)) e here)) in
      let inside : (e : ℕ × ImageRow) → Has es e → (first ≤ e.0) × (e.0 ≤ last) = λ e here. bounded es sorted e here first last (subst (AreEnds first last) same ends) in
      all_told es batch (λ e here. (given e here, (inside e here).0, (inside e here).1)) (subst (λ l. AllZip (IsIndexedBy rows) l batch) same zip)
