-- What the queries show of the index.
use Rattle.rd_store.proofs.Common.{equals_itself, halves, map_map, and_true, in_map, from_map, ◌≡◌, inl, inr, ℕ, ◌<◌, pos, List, [], ◌∷◌, map, AllPairs, Bool, true, false, cond, T, ◌&&◌, ◌==◌, Option, Some, None, refl, sym, ap, subst, ◌∙◌, arith, nat_cmp, int_cmp, is_lt, is_eq, Less, Equal, option_to_list, eq_by_cmp, ordering_then, FinMap, get, entries, entries_sorted, retain_keys, get-retain_keys, is_sorted, below_all, nat_tests, All-from_recursion, Int, Row, column, Binary, is_true, Compare, Eq, value_cmp-Int, then-Equal, Has, contains_had, AreFounds, IsFound, IsFoundAt, IsSlotOfFile, Found, IsPicked, file_query, files_query, Spells, map_of, entry_of, equal_numbers, entry_got, got_entry, below_has, looked_up, in_order, all_in, ImageRow, FileAt, file_cmp, AreFilesIn, IsFileIn, file_spelling, file_shown, later}
use Rattle.std.proofs.lemmas.List.Kept.{AllPairs-cons}
use Rattle.sqlite_sql.specs.Ops.{binary}
use Rattle.rd_store.proofs.Orders.{file_order}

-- ---- the file at one slot

module _ (at : FileAt) (table rows : List Row) where
  pub file_found : Spells file_spelling table → IsPicked file_query (Int (pos at.acc) ∷ Int (pos at.slot) ∷ []) table rows → rows ≡ map file_shown (option_to_list (get (map_of file_spelling table) at))
  file_found spells picks = looked_up file_spelling file_order file_query (Int (pos at.acc) ∷ Int (pos at.slot) ∷ []) table rows spells picks at file_shown
      (λ row is.
      let key = (entry_of file_spelling row).0 in
      ap (λ s. is_true (binary (Compare Eq Binary) (column s 0) (Int (pos at.acc))) && (is_true (binary (Compare Eq Binary) (column s 1) (Int (pos at.slot))) && true)) is
      ∙ rw (equal_numbers key.acc at.acc, equal_numbers key.slot at.slot, and_true) (grind (arith, nat_tests)))
      (λ row is. ap (λ s. ([], later s)) is)

-- ---- the files of one accession

-- of one accession the slots decide
slots_rise : (a b m n acc : ℕ) → (a == acc) ≡ true → (b == acc) ≡ true → is_lt (int_cmp (pos n) (pos m)) ≡ false
    → is_eq (ordering_then (nat_cmp a b) (nat_cmp m n)) ≡ false → ordering_then (nat_cmp a b) (nat_cmp m n) ≡ Less
slots_rise a b m n acc here there up apart = grind (arith, nat_tests)

module _ (acc : ℕ) (table rows : List Row) where
  abbrev pub is_of : FileAt → Bool
  is_of at = at.acc == acc

  pub files_shown : Spells file_spelling table → IsPicked files_query (Int (pos acc) ∷ []) table rows
      → rows ≡ map file_shown (map (λ (e : FileAt × Found). e.1) (entries (retain_keys (map_of file_spelling table) is_of)))
  files_shown spells picks =
      in_order file_spelling file_order files_query (Int (pos acc) ∷ []) table rows spells picks is_of (λ e. file_shown e.1) (λ at. Int (pos at.slot) ∷ [])
      (λ row is. ap (λ s. is_true (binary (Compare Eq Binary) (column s 0) (Int (pos acc))) && true) is ∙ and_true _ ∙ equal_numbers (entry_of file_spelling row).0.acc acc ∙ turned (entry_of file_spelling row).0.acc)
      (λ row is. ap (λ s. (column s 1 ∷ [], later s)) is)
      (λ a b at bt up apart. slots_rise a.acc b.acc a.slot b.slot acc at bt (sym (ap is_lt (then-Equal _ ∙ value_cmp-Int (pos b.slot) (pos a.slot))) ∙ up) apart)
      ∙ sym (map_map file_shown (λ (e : FileAt × Found). e.1) (entries (retain_keys (map_of file_spelling table) is_of)))
    where
      turned : (n : ℕ) → eq_by_cmp nat_cmp acc n ≡ (n == acc)
      turned n = grind (arith, nat_tests)

-- ---- what the index of images has of one accession

less_slot : (a b m n acc : ℕ) → a ≡ acc → b ≡ acc → T (is_lt (ordering_then (nat_cmp a b) (nat_cmp m n))) → m < n
less_slot a b m n acc one other less = grind (arith, nat_tests)

module _ (image : Option ImageRow) (index : FinMap file_cmp Found) (acc : ℕ) (is : (slot : ℕ) → IsFileIn image slot (get index (record { acc = acc; slot = slot }))) where
  abbrev of_acc : FileAt → Bool
  of_acc at = at.acc == acc

  abbrev kept : List (FileAt × Found)
  kept = entries (retain_keys index of_acc)

  abbrev pub files_of : List Found
  files_of = map (λ (e : FileAt × Found). e.1) kept

  alike : (q x : FileAt) → file_cmp q x ≡ Equal → of_acc x ≡ of_acc q
  alike q x tied = ap of_acc (sym (file_order.same q x tied))

  -- an entry that is kept is one of the index, of this accession
  in_index : (e : FileAt × Found) → Has kept e → (e.0.acc ≡ acc) × (get index e.0 ≡ Some e.1)
  in_index e here = go (of_acc e.0) refl (sym (get-retain_keys index of_acc e.0 (alike e.0)) ∙ entry_got file_cmp file_order (retain_keys index of_acc) e.0 e.1 here)
    where
      go : (b : Bool) → of_acc e.0 ≡ b → cond b (get index e.0) None ≡ Some e.1 → (e.0.acc ≡ acc) × (get index e.0 ≡ Some e.1)
      go true passes found = (grind (arith, nat_tests, passes), found)
      go false passes found = absurd cc

  -- and the other way
  index_in : (slot : ℕ) (file : Found) → get index (record { acc = acc; slot = slot }) ≡ Some file → Has kept (record { acc = acc; slot = slot }, file)
  index_in slot file found =
      let at : FileAt = record { acc = acc; slot = slot } in
      let passes : of_acc at ≡ true = equals_itself acc in
      got_entry file_cmp file_order (retain_keys index of_acc) at file (get-retain_keys index of_acc at (alike at) ∙ rw passes found)

  -- each file stands at its slot
  at_slot : (image : ImageRow) → ((slot : ℕ) → IsFoundAt image.kind image.bytes slot (get index (record { acc = acc; slot = slot }))) → (e : FileAt × Found) → Has kept e → IsFoundAt image.kind image.bytes e.0.slot (Some e.1)
  at_slot image described e here =
      let it = in_index e here in
      let key : ◌≡◌ {A = FileAt} (record { acc = acc; slot = e.0.slot }) e.0 = λ i. record { acc = sym it.0 i; slot = e.0.slot } in
      subst (IsFoundAt image.kind image.bytes e.0.slot) (ap (get index) key ∙ it.1) (described e.0.slot)

  ascends : (es : List (FileAt × Found)) → T (is_sorted file_cmp es) → ((e : FileAt × Found) → Has es e → (e.0.acc ≡ acc) × (e.1.slot ≡ e.0.slot)) → AllPairs (λ f g. f.slot < g.slot) (map (λ (e : FileAt × Found). e.1) es)
  ascends [] sorted own = λ i j d before inside. absurd (omega (arith, inside))
  ascends (e ∷ es) sorted own =
      let sides = halves (below_all file_cmp e.0 es) (is_sorted file_cmp es) sorted in
      let first = own e (inl refl) in
      AllPairs-cons (λ f g. f.slot < g.slot) e.1 (map (λ (e : FileAt × Found). e.1) es)
      (All-from_recursion (λ (g : Found). e.1.slot < g.slot) _ (all_in (λ (g : Found). e.1.slot < g.slot) _ (λ g there.
      let f = from_map (λ (e : FileAt × Found). e.1) es g there in
      let second = own f.0 (inr f.1) in
      let less = below_has file_cmp file_order e.0 f.0.0 f.0.1 es sides.0 f.1 in
      let low : e.0.slot < f.0.0.slot = less_slot e.0.acc f.0.0.acc e.0.slot f.0.0.slot acc first.0 second.0 less in
      let one : e.1.slot ≡ e.0.slot = first.1 in
      let other : f.0.1.slot ≡ f.0.0.slot = second.1 in
      let file : g.slot ≡ f.0.1.slot = ap (λ (h : Found). h.slot) f.2 in
      omega (arith, low, one, other, file))))
      (ascends es sides.1 (λ f there. own f (inr there)))

  are_founds : (image : ImageRow) → ((slot : ℕ) → IsFoundAt image.kind image.bytes slot (get index (record { acc = acc; slot = slot }))) → AreFounds image.kind image.bytes files_of
  are_founds image described = record {
    each = All-from_recursion (IsFound image.kind image.bytes) files_of (all_in (IsFound image.kind image.bytes) files_of (λ file there.
        let e = from_map (λ (e : FileAt × Found). e.1) kept file there in
        subst (IsFound image.kind image.bytes) (sym e.2) (at_slot image described e.0 e.1).described));
    ascending = ascends kept (entries_sorted (retain_keys index of_acc)) (λ e here. ((in_index e here).0, (at_slot image described e here).same_slot));
    complete = λ slot stands. contains_had _ slot (named slot stands (get index (record { acc = acc; slot = slot })) refl);
  }
    where
      named : (slot : ℕ) → IsSlotOfFile image.kind image.bytes slot → (found : Option Found) → get index (record { acc = acc; slot = slot }) ≡ found → Has (map (λ f. f.slot) files_of) slot
      named slot stands None none = let at : IsFoundAt image.kind image.bytes slot None = subst (IsFoundAt image.kind image.bytes slot) none (described slot) in absurd (at.none stands)
      named slot stands (Some file) some =
          let at : IsFoundAt image.kind image.bytes slot (Some file) = subst (IsFoundAt image.kind image.bytes slot) some (described slot) in
          subst (Has (map (λ f. f.slot) files_of)) at.same_slot (in_map (λ (f : Found). f.slot) files_of file (in_map (λ (e : FileAt × Found). e.1) kept (record { acc = acc; slot = slot }, file) (index_in slot file some)))

  no_files : ((slot : ℕ) → get index (record { acc = acc; slot = slot }) ≡ None) → files_of ≡ []
  no_files nothing = go kept (λ e here.
      let it = in_index e here in
      let key : ◌≡◌ {A = FileAt} (record { acc = acc; slot = e.0.slot }) e.0 = λ i. record { acc = sym it.0 i; slot = e.0.slot } in
      let wrong : None ≡ Some e.1 = sym (nothing e.0.slot) ∙ ap (get index) key ∙ it.1 in
      cc)
    where
      go : (es : List (FileAt × Found)) → ((e : FileAt × Found) → Has es e → ⊥) → map (λ (e : FileAt × Found). e.1) es ≡ []
      go [] none = refl
      go (e ∷ es) none = absurd (none e (inl refl))

  pub files_in : AreFilesIn image files_of
  files_in = go image is
    where
      go : (image : Option ImageRow) → ((slot : ℕ) → IsFileIn image slot (get index (record { acc = acc; slot = slot }))) → AreFilesIn image files_of
      go None described = no_files described
      go (Some image) described = are_founds image described

-- the index shows the files of an accession
pub files_found : (image : Option ImageRow) (table rows : List Row) (acc : ℕ) → Spells file_spelling table → ((slot : ℕ) → IsFileIn image slot (get (map_of file_spelling table) (record { acc = acc; slot = slot }))) → IsPicked files_query (Int (pos acc) ∷ []) table rows
    → (files : List Found) × AreFilesIn image files × (rows ≡ map file_shown files)
files_found image table rows acc spells is picks = (files_of image (map_of file_spelling table) acc is, files_in image (map_of file_spelling table) acc is, files_shown acc table rows spells picks)
