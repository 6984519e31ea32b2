-- What the tests of the rows that are shown say of the tables.
use Rattle.rd_store.proofs.Common.{some_got, map_map, in_map, from_map, ◌≡◌, inl, inr, ℕ, suc, pos, List, [], ◌∷◌, map, All, Bool, true, false, Some, IsSome, refl, sym, ap, subst, ◌∙◌, arith, MatchBool, Any, IsPermutation, eq_by_cmp, get, eq_by_cmp_equiv, IsPermutation-map, IsPermutation-sym, Value, Int, Blob, Row, column, value_cmp, rowid, Database, IsDatabase, Table, one_permutation, Term, value_cmp_total, Has, Audience, Staff, asks_of, IsPicked, IsListed, all_deeds_query, all_images_query, all_rules_query, all_keys_query, all_checks_query, all_marks_query, version_query, desk_with, Spelling, entry_of, IsSpelled, SpellLawful, map_of, natural, IsKeyOrder, tie, to_permuted, show, all_shown, each_shown, shown_each, rowids_apart, have_rowids, apart_by_rowids, row_got, got_row, rows_lawful, lawful_rows, same_int, same_blob, agree_one, agree_two, agree_three, one_rule, one_key, one_check, is_number, IsDeedRow, IsImageRow, IsRuleRow, IsKeyRow, IsCheckRow, IsMarksRow, IsStaffRow, audience_code, audience_in, IsDeed, IsKey, AreKeys, AreMarksOf, IsImageOf, IsRuleOf, IsCheckOf, HasVersion, deed_spelling, image_spelling, marks_spelling, rule_spelling, key_spelling, check_spelling, Place, Checkup, band_code, Key}
use Rattle.sqlite_sql.specs.Term.{col}
use Rattle.rd_store.proofs.QueryResults.{any_has}
use Rattle.rd_store.proofs.ColumnValues.{number_spelled}
use Rattle.rd_store.proofs.Orders.{number_order, place_order, digest_order, checkup_order}
use Rattle.rd_store.proofs.RowShapes.{deed_to, deed_from, image_to, image_from, marks_to, marks_from, rule_to, rule_from, key_to, key_from, check_to, check_from}

-- ---- the version

-- the id and the version that a row shows
abbrev said : ℕ → Row
said number = Int (pos 1) ∷ Int (pos number) ∷ []

versions_listed : (tree : ℕ) (table rows : List Row) → IsPicked (version_query tree) [] table rows → IsPermutation (map (λ row. column row 0 ∷ column row 2 ∷ []) table) (map (λ row. column row 0 ∷ column row 1 ∷ []) rows)
versions_listed tree table rows picks =
    subst (λ l. IsPermutation l (map (λ row. column row 0 ∷ column row 1 ∷ []) rows)) (map_map (λ row. column row 0 ∷ column row 1 ∷ []) (show tree (col 1 0) (col 1 2 ∷ []) [] table rows) table)
    (IsPermutation-map (λ row. column row 0 ∷ column row 1 ∷ []) _ _ (all_shown tree (col 1 0) (col 1 2 ∷ []) [] table rows picks))

pub version_told : (tree number : ℕ) (b : Bool) (table rows : List Row) → IsPicked (version_query tree) [] table rows
    → MatchBool b (map (λ row. column row 0 ∷ column row 1 ∷ []) rows ≡ said number ∷ []) (¬ (map (λ row. column row 0 ∷ column row 1 ∷ []) rows ≡ said number ∷ [])) → MatchBool b (HasVersion number table) (¬ HasVersion number table)
version_told tree number true table rows picks is =
    one_permutation (said number) _ (IsPermutation-sym _ _ (subst (IsPermutation (map (λ row. column row 0 ∷ column row 2 ∷ []) table)) is (versions_listed tree table rows picks)))
version_told tree number false table rows picks isnt = λ is. isnt (one_permutation (said number) _ (subst (λ l. IsPermutation l (map (λ row. column row 0 ∷ column row 1 ∷ []) rows)) is (versions_listed tree table rows picks)))

-- ---- a table

rowid_tied : (a b : Value) → a ≡ b → eq_by_cmp value_cmp a b ≡ true
rowid_tied a b is = subst (λ v. eq_by_cmp value_cmp a v ≡ true) is ((eq_by_cmp_equiv value_cmp_total).refl a)

-- rows that are shown pass a test exactly where they spell lawful entries
module _ {K X : Type 0} (spelling : Spelling K X) (order : IsKeyOrder spelling.cmp) (P : K × X → Type 0) (Q : Row → Type 0) (tree : ℕ) (shown : List Term) (by : List (Term × Key)) (table rows : List Row)
    (to : (row : Row) → Q (show tree (col 1 0) shown by table rows row) → IsSpelled spelling row × P (entry_of spelling row))
    (from : (row : Row) → IsSpelled spelling row → P (entry_of spelling row) → Q (show tree (col 1 0) shown by table rows row))
    (listed : IsListed (asks_of tree [] (col 1 0 ∷ shown) by) table rows)
    (ties : (row other : Row) → Has table row → Has table other → IsSpelled spelling row → IsSpelled spelling other → (entry_of spelling row).0 ≡ (entry_of spelling other).0 → eq_by_cmp value_cmp (rowid row) (rowid other) ≡ true) where
  pub told_lawful : All Q rows → SpellLawful spelling P table
  told_lawful all =
      let each = λ (row : Row) (here : Has table row). to row (each_shown tree (col 1 0) shown by table rows Q listed.picks all row here) in
      let apart = apart_by_rowids spelling.cmp (λ row. (entry_of spelling row).0) table (rowids_apart tree shown by table rows listed)
      (λ row other here there tied. ties row other here there (each row here).0 (each other there).0 (order.same _ _ (tie _ tied))) in
      lawful_rows spelling order P table apart each

  pub lawful_told : SpellLawful spelling P table → All Q rows
  lawful_told lawful = shown_each tree (col 1 0) shown by table rows Q listed.picks (λ row here. let it = rows_lawful spelling order P table lawful row here in from row it.0 it.1)

  pub tests_spell : (b : Bool) → MatchBool b (All Q rows) (¬ All Q rows) → MatchBool b (SpellLawful spelling P table) (¬ SpellLawful spelling P table)
  tests_spell true all = told_lawful all
  tests_spell false some = λ lawful. some (lawful_told lawful)

  -- the first column of the rows shown, where it is the key
  pub keys_told : (key : K → ℕ) (first : (row : Row) → natural (column row 0) ≡ key (entry_of spelling row).0) → SpellLawful spelling P table → (n : ℕ)
      → (Has (map (λ row. natural (column row 0)) rows) n → (e : K × X) × (get (map_of spelling table) e.0 ≡ Some e.1) × (key e.0 ≡ n)) × ((k : K) → IsSome (get (map_of spelling table) k) → Has (map (λ row. natural (column row 0)) rows) (key k))
  keys_told key first lawful n = (
    λ here.
        let s = from_map (λ (row : Row). natural (column row 0)) rows n here in
        let moved = to_permuted rows (map (show tree (col 1 0) shown by table rows) table) s.0 (IsPermutation-sym _ _ (all_shown tree (col 1 0) shown by table rows listed.picks)) s.1 in
        let r = from_map (show tree (col 1 0) shown by table rows) table s.0 moved in
        (entry_of spelling r.0, row_got spelling order table lawful.spells r.0 r.1, sym (first r.0) ∙ sym (ap (λ (row : Row). natural (column row 0)) r.2) ∙ sym s.2),
    λ k some.
        let x = some_got (get (map_of spelling table) k) some in
        let r = got_row spelling order table k x.0 x.1 in
        let there = to_permuted (map (show tree (col 1 0) shown by table rows) table) rows (show tree (col 1 0) shown by table rows r.0) (all_shown tree (col 1 0) shown by table rows listed.picks) (in_map (show tree (col 1 0) shown by table rows) table r.0 r.1) in
        subst (Has (map (λ row. natural (column row 0)) rows)) (first r.0 ∙ ap (λ (e : K × X). key e.0) (sym r.2)) (in_map (λ (row : Row). natural (column row 0)) rows (show tree (col 1 0) shown by table rows r.0) there),
  )

are_keys : {X : Type 0} (spelling : Spelling ℕ X) (rows : List Row) (numbers : List ℕ) → ((n : ℕ) → (Has numbers n → (e : ℕ × X) × (get (map_of spelling rows) e.0 ≡ Some e.1) × (e.0 ≡ n)) × ((k : ℕ) → IsSome (get (map_of spelling rows) k) → Has numbers k))
    → (n : ℕ) → (Has numbers n → IsSome (get (map_of spelling rows) n)) × (IsSome (get (map_of spelling rows) n) → Has numbers n)
are_keys spelling rows numbers tests_spell n = (
  λ here. let it = (tests_spell n).0 here in subst IsSome (sym it.1 ∙ ap (get (map_of spelling rows)) it.2) refl,
  (tests_spell n).1 n,
)

-- ---- deeds

module _ (table rows : List Row) (listed : IsListed all_deeds_query table rows) where
  deed_ties : (row other : Row) → Has table row → Has table other → IsSpelled deed_spelling row → IsSpelled deed_spelling other → (entry_of deed_spelling row).0 ≡ (entry_of deed_spelling other).0 → eq_by_cmp value_cmp (rowid row) (rowid other) ≡ true
  deed_ties row other here there first second same = rowid_tied (rowid row) (rowid other) (ap (λ s. column s 0) first ∙ ap (λ n. Int (pos n)) same ∙ sym (ap (λ s. column s 0) second))

  pub deeds_told : (b : Bool) → MatchBool b (All IsDeedRow rows) (¬ All IsDeedRow rows) → MatchBool b (SpellLawful deed_spelling (λ e. IsDeed e.0 e.1) table) (¬ SpellLawful deed_spelling (λ e. IsDeed e.0 e.1) table)
  deeds_told = tests_spell deed_spelling number_order (λ e. IsDeed e.0 e.1) IsDeedRow 1 _ _ table rows deed_to deed_from listed deed_ties

  pub deed_numbers : SpellLawful deed_spelling (λ e. IsDeed e.0 e.1) table → AreKeys (map_of deed_spelling table) (map (λ row. natural (column row 0)) rows)
  deed_numbers lawful = are_keys deed_spelling table _ (keys_told deed_spelling number_order (λ e. IsDeed e.0 e.1) IsDeedRow 1 _ _ table rows deed_to deed_from listed deed_ties (λ n. n) (λ row. refl) lawful)

-- ---- images

module _ (deeds : List ℕ) (table rows : List Row) (listed : IsListed all_images_query table rows) where
  image_ties : (row other : Row) → Has table row → Has table other → IsSpelled image_spelling row → IsSpelled image_spelling other → (entry_of image_spelling row).0 ≡ (entry_of image_spelling other).0 → eq_by_cmp value_cmp (rowid row) (rowid other) ≡ true
  image_ties row other here there first second same = rowid_tied (rowid row) (rowid other) (ap (λ s. column s 0) first ∙ ap (λ n. Int (pos n)) same ∙ sym (ap (λ s. column s 0) second))

  pub images_told : (b : Bool) → MatchBool b (All (IsImageRow deeds) rows) (¬ All (IsImageRow deeds) rows) → MatchBool b (SpellLawful image_spelling (IsImageOf deeds) table) (¬ SpellLawful image_spelling (IsImageOf deeds) table)
  images_told = tests_spell image_spelling number_order (IsImageOf deeds) (IsImageRow deeds) 2 _ _ table rows (image_to deeds) (image_from deeds) listed image_ties

  pub accession_numbers : SpellLawful image_spelling (IsImageOf deeds) table → AreKeys (map_of image_spelling table) (map (λ row. natural (column row 0)) rows)
  accession_numbers lawful = are_keys image_spelling table _ (keys_told image_spelling number_order (IsImageOf deeds) (IsImageRow deeds) 2 _ _ table rows (image_to deeds) (image_from deeds) listed image_ties (λ n. n) (λ row. refl) lawful)

-- ---- error bytes

module _ (accessions : List ℕ) (table rows : List Row) (listed : IsListed all_marks_query table rows) where
  marks_ties : (row other : Row) → Has table row → Has table other → IsSpelled marks_spelling row → IsSpelled marks_spelling other → (entry_of marks_spelling row).0 ≡ (entry_of marks_spelling other).0 → eq_by_cmp value_cmp (rowid row) (rowid other) ≡ true
  marks_ties row other here there first second same = rowid_tied (rowid row) (rowid other) (ap (λ s. column s 0) first ∙ ap (λ n. Int (pos n)) same ∙ sym (ap (λ s. column s 0) second))

  pub marks_told : (b : Bool) → MatchBool b (All (IsMarksRow accessions) rows) (¬ All (IsMarksRow accessions) rows) → MatchBool b (SpellLawful marks_spelling (AreMarksOf accessions) table) (¬ SpellLawful marks_spelling (AreMarksOf accessions) table)
  marks_told = tests_spell marks_spelling number_order (AreMarksOf accessions) (IsMarksRow accessions) 11 _ _ table rows (marks_to accessions) (marks_from accessions) listed marks_ties

  pub marks_shown_lawful : SpellLawful marks_spelling (AreMarksOf accessions) table → All (IsMarksRow accessions) rows
  marks_shown_lawful = lawful_told marks_spelling number_order (AreMarksOf accessions) (IsMarksRow accessions) 11 _ _ table rows (marks_to accessions) (marks_from accessions) listed marks_ties

  pub marked_numbers : SpellLawful marks_spelling (AreMarksOf accessions) table → AreKeys (map_of marks_spelling table) (map (λ row. natural (column row 0)) rows)
  marked_numbers lawful =
      are_keys marks_spelling table _ (keys_told marks_spelling number_order (AreMarksOf accessions) (IsMarksRow accessions) 11 _ _ table rows (marks_to accessions) (marks_from accessions) listed marks_ties (λ n. n) (λ row. refl) lawful)

-- ---- rules, desk keys and checks, whose keys are unique

module _ (more : List Table) (db : Database) (schema : db.schema ≡ desk_with more) (sound : IsDatabase db) (rows : List Row) where
  module _ (accessions deeds : List ℕ) (listed : IsListed all_rules_query (db.trees 3) rows) where
    rule_ties : (row other : Row) → Has (db.trees 3) row → Has (db.trees 3) other → IsSpelled rule_spelling row → IsSpelled rule_spelling other → (entry_of rule_spelling row).0 ≡ (entry_of rule_spelling other).0 → eq_by_cmp value_cmp (rowid row) (rowid other) ≡ true
    rule_ties row other here there first second same =
        let ids = have_rowids 3 _ _ (db.trees 3) rows listed in
        let alike = λ (at : ℕ) (number : Place → ℕ) (f : column (map (λ p. column row p) rule_spelling.places) at ≡ Int (pos (number (entry_of rule_spelling row).0))) (s : column (map (λ p. column other p) rule_spelling.places) at ≡ Int (pos (number (entry_of rule_spelling other).0))).
        same_int _ _ _ (s ∙ ap (λ (p : Place). Int (pos (number p))) (sym same) ∙ sym f) f in
        one_rule more db schema sound row other here there (ids.keyed row here) (ids.keyed other there) (agree_three 1 2 3 other row
        (alike 0 (λ p. band_code p.band) (ap (λ s. column s 0) first) (ap (λ s. column s 0) second))
        (alike 1 (λ p. p.scope) (ap (λ s. column s 1) first) (ap (λ s. column s 1) second))
        (alike 2 (λ p. p.rank) (ap (λ s. column s 2) first) (ap (λ s. column s 2) second)))

    pub rules_told : (b : Bool) → MatchBool b (All (IsRuleRow accessions deeds) rows) (¬ All (IsRuleRow accessions deeds) rows) → MatchBool b (SpellLawful rule_spelling (IsRuleOf accessions deeds) (db.trees 3)) (¬ SpellLawful rule_spelling (IsRuleOf accessions deeds) (db.trees 3))
    rules_told = tests_spell rule_spelling place_order (IsRuleOf accessions deeds) (IsRuleRow accessions deeds) 3 _ _ (db.trees 3) rows (rule_to accessions deeds) (rule_from accessions deeds) listed rule_ties

  module _ (accessions : List ℕ) (listed : IsListed all_checks_query (db.trees 7) rows) where
    check_ties : (row other : Row) → Has (db.trees 7) row → Has (db.trees 7) other → IsSpelled check_spelling row → IsSpelled check_spelling other → (entry_of check_spelling row).0 ≡ (entry_of check_spelling other).0 → eq_by_cmp value_cmp (rowid row) (rowid other) ≡ true
    check_ties row other here there first second same =
        let ids = have_rowids 7 _ _ (db.trees 7) rows listed in
        one_check more db schema sound row other here there (ids.keyed row here) (ids.keyed other there) (agree_two 1 2 other row
        (same_int _ _ _ (ap (λ s. column s 0) second ∙ ap (λ (k : Checkup). Int (pos k.acc)) (sym same) ∙ sym (ap (λ s. column s 0) first)) (ap (λ s. column s 0) first))
        (same_int _ _ _ (ap (λ s. column s 1) second ∙ ap (λ (k : Checkup). Int k.day) (sym same) ∙ sym (ap (λ s. column s 1) first)) (ap (λ s. column s 1) first)))

    pub checks_told : (b : Bool) → MatchBool b (All (IsCheckRow accessions) rows) (¬ All (IsCheckRow accessions) rows) → MatchBool b (SpellLawful check_spelling (IsCheckOf accessions) (db.trees 7)) (¬ SpellLawful check_spelling (IsCheckOf accessions) (db.trees 7))
    checks_told = tests_spell check_spelling checkup_order (IsCheckOf accessions) (IsCheckRow accessions) 7 _ _ (db.trees 7) rows (check_to accessions) (check_from accessions) listed check_ties

  module _ (listed : IsListed all_keys_query (db.trees 5) rows) where
    key_ties : (row other : Row) → Has (db.trees 5) row → Has (db.trees 5) other → IsSpelled key_spelling row → IsSpelled key_spelling other → (entry_of key_spelling row).0 ≡ (entry_of key_spelling other).0 → eq_by_cmp value_cmp (rowid row) (rowid other) ≡ true
    key_ties row other here there first second same =
        let ids = have_rowids 5 _ _ (db.trees 5) rows listed in
        one_key more db schema sound row other here there (ids.keyed row here) (ids.keyed other there) (agree_one 1 other row
        (same_blob _ _ _ (ap (λ s. column s 0) second ∙ ap (λ (k : List ℕ). Blob k) (sym same) ∙ sym (ap (λ s. column s 0) first)) (ap (λ s. column s 0) first)))

    abbrev AreLawfulKeys : Type 0
    AreLawfulKeys = SpellLawful key_spelling (λ e. IsKey e.0 e.1) (db.trees 5)

    abbrev HasStaff : Type 0
    HasStaff = (digest : List ℕ) × (get (map_of key_spelling (db.trees 5)) digest ≡ Some Staff)

    abbrev at : Row → Row
    at row = column row 0 ∷ column row 1 ∷ column row 2 ∷ []

    moved : IsPermutation (map at (db.trees 5)) rows
    moved = all_shown 5 (col 1 0) _ _ (db.trees 5) rows listed.picks

    is_staff : (v : Value) → is_number 2 2 v ≡ true → audience_in (natural v) ≡ Staff
    is_staff v is = let it = number_spelled 2 2 v is in subst (λ n. audience_in n ≡ Staff) (let two : 2 ≡ natural v = omega (arith, it.1, it.2) in two) refl

    has_staff : AreLawfulKeys → Any IsStaffRow rows → HasStaff
    has_staff lawful any =
        let s = any_has IsStaffRow rows any in
        let r = from_map at (db.trees 5) s.0 (to_permuted rows (map at (db.trees 5)) s.0 (IsPermutation-sym _ _ moved) s.1) in
        ((entry_of key_spelling r.0).0, row_got key_spelling digest_order (db.trees 5) lawful.spells r.0 r.1 ∙ ap Some (is_staff (column r.0 2) (subst IsStaffRow r.2 s.2)))

    staff_has : AreLawfulKeys → HasStaff → Any IsStaffRow rows
    staff_has lawful staff =
        let r = got_row key_spelling digest_order (db.trees 5) staff.0 Staff staff.1 in
        let spelled = (rows_lawful key_spelling digest_order (λ e. IsKey e.0 e.1) (db.trees 5) lawful r.0 r.1).0 in
        let code : column r.0 2 ≡ Int (pos 2) = ap (λ s. column s 1) spelled ∙ ap (λ (e : List ℕ × Audience). Int (pos (audience_code e.1))) (sym r.2) in
        has_any IsStaffRow rows (at r.0) (to_permuted (map at (db.trees 5)) rows (at r.0) moved (in_map at (db.trees 5) r.0 r.1)) (subst (λ v. is_number 2 2 v ≡ true) (sym code) refl)
      where
        has_any : (P : Row → Type 0) (rs : List Row) (row : Row) → Has rs row → P row → Any P rs
        has_any P [] row here holds = absurd here
        has_any P (r ∷ rs) row (inl is) holds = (0, r, omega arith, refl, subst P is holds)
        has_any P (r ∷ rs) row (inr there) holds = let it = has_any P rs row there holds in (suc it.0, it.1, omega (arith, it.2), it.3, it.4)

    pub staff_told : (b : Bool) → MatchBool b (All IsKeyRow rows × Any IsStaffRow rows) (¬ (All IsKeyRow rows × Any IsStaffRow rows)) → MatchBool b (AreLawfulKeys × HasStaff) (¬ (AreLawfulKeys × HasStaff))
    staff_told true all =
        let lawful = told_lawful key_spelling digest_order (λ e. IsKey e.0 e.1) IsKeyRow 5 _ _ (db.trees 5) rows key_to key_from listed key_ties all.0 in
        (lawful, has_staff lawful all.1)
    staff_told false some = λ lawful. some (lawful_told key_spelling digest_order (λ e. IsKey e.0 e.1) IsKeyRow 5 _ _ (db.trees 5) rows key_to key_from listed key_ties lawful.0, staff_has lawful.0 lawful.1)
