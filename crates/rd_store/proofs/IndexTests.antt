-- What the tests of the index say of it.
use Rattle.rd_store.proofs.Common.{◌≡◌, ◌≢◌, inl, inr, ℕ, suc, pos, List, [], ◌∷◌, filter, map, All, length, get_or, Bool, true, false, Option, Some, None, IsSome, option_map, refl, sym, ap, subst, ◌∙◌, arith, nat_cmp, MatchBool, unwrap_or, list_all, eq_by_cmp, get, nat_tests, get_or-map, length-map, IsPermutation-sym, recursion_from_All, Int, Row, column, value_cmp, Trees, rowid, Database, IsDatabase, Table, Output, output, holds, Has, all_has, has_contained, has_filtered, has_kept, AreFounds, IsFound, Found, picked, IsPicked, IsListed, files_query, all_files_query, desk_with, Spells, IsSpelled, entry_of, map_of, seen, and_true, in_map, from_map, equal_numbers, tie, to_permuted, all_in, each_shown, shown_each, rowids_apart, have_rowids, apart_by_rowids, row_got, got_row, same_int, agree_two, one_file, D64, ImageRow, is_one_of, IsFiledRow, IsFileRow, ShowFiles, FileAt, file_cmp, AreFilesIn, IsFileIn, AreFiledUnder, AreKeys, HasDiskIf, HasFiles, HaveAccessions, HasDisk, HaveFiles, IsFiledAt, IsIndexAt, LawfulFiles, image_among, image_if, is_among, with_marks, file_spelling, file_shown, image_spelling, index_of, later, marks_spelling}
use Rattle.rd_volume.proofs.OneSurvey.{one_survey}
use Rattle.rd_store.proofs.ColumnValues.{one_of_spelled, one_of_shown}
use Rattle.rd_store.proofs.IndexQueries.{files_found}
use Rattle.rd_store.proofs.Orders.{file_order, entry_back}

-- an image has one list of files
pub one_files : (image : Option ImageRow) (files others : List Found) → AreFilesIn image files → AreFilesIn image others → files ≡ others
one_files None files others one other = one ∙ sym other
one_files (Some image) files others one other = one_survey image.kind image.bytes files others one other

-- ---- rows of the table, and what is shown of them

abbrev pub shown_columns : Row → Row
shown_columns row = later (seen file_spelling.places row)

module _ (acc : ℕ) (table rows : List Row) (picks : IsPicked files_query (Int (pos acc) ∷ []) table rows) where
  abbrev test : Row → Bool
  test row = list_all (holds ((Int (pos acc) ∷ []) ∷ row ∷ [])) files_query.filter

  abbrev out : Row → Output
  out row = output files_query ((Int (pos acc) ∷ []) ∷ row ∷ [])

  pub shown_from : (shown : Row) → Has rows shown → (row : Row) × Has table row × (test row ≡ true) × (shown ≡ shown_columns row)
  shown_from shown here =
      let o = from_map (λ (it : Output). it.1) picks.ordered shown (subst (λ l. Has l shown) picks.shown here) in
      let was = to_permuted picks.ordered (picked files_query (Int (pos acc) ∷ []) table) o.0 (IsPermutation-sym _ _ picks.same) o.1 in
      let row = from_map out (filter test table) o.0 was in
      let stood = has_filtered test table row.0 row.1 in
      (row.0, stood.0, stood.1, o.2 ∙ ap (λ (it : Output). it.1) row.2)

  pub shown_to : (row : Row) → Has table row → test row ≡ true → Has rows (shown_columns row)
  shown_to row here passes =
      let was = in_map out (filter test table) row (has_kept test table row here passes) in
      let now = to_permuted (picked files_query (Int (pos acc) ∷ []) table) picks.ordered (out row) picks.same was in
      subst (λ l. Has l (shown_columns row)) (sym picks.shown) (in_map (λ (it : Output). it.1) picks.ordered (out row) now)

  of_number : (row : Row) (n : ℕ) → column row 1 ≡ Int (pos n) → test row ≡ eq_by_cmp nat_cmp acc n
  of_number row n is = and_true _ ∙ rw is (equal_numbers n acc)

-- ---- rows that show files

row_is : (file : Found) (row : Row) → IsFileRow file (shown_columns row) → shown_columns row ≡ file_shown file
row_is file row h = λ i. h.0.slot i ∷ h.0.name i ∷ h.0.type i ∷ h.0.user i ∷ h.1.class i ∷ h.1.size i ∷ h.1.faults i ∷ h.1.units i ∷ h.1.last i ∷ []

is_row : (file : Found) (row : Row) → row ≡ file_shown file → IsFileRow file row
is_row file row is = subst (IsFileRow file) (sym is) (record { slot = refl; name = refl; type = refl; user = refl }, record { class = refl; size = refl; faults = refl; units = refl; last = refl })

shown_same : (files : List Found) (rows : List Row) → ShowFiles files rows → ((shown : Row) → Has rows shown → (row : Row) × (shown ≡ shown_columns row)) → rows ≡ map file_shown files
shown_same [] [] show whole = refl
shown_same [] (row ∷ rows) show whole = absurd (let e : length (row ∷ rows) ≡ 0 = show.0 in omega (arith, e))
shown_same (file ∷ files) [] show whole = absurd (let e : 0 ≡ length (file ∷ files) = show.0 in omega (arith, e))
shown_same (file ∷ files) (row ∷ rows) show whole =
    let t = whole row (inl refl) in
    let first : row ≡ file_shown file = t.1 ∙ row_is file t.0 (subst (IsFileRow file) t.1 (show.1 0 file row (omega arith))) in
    let lengths : length rows ≡ length files = (let e : length (row ∷ rows) ≡ length (file ∷ files) = show.0 in omega (arith, e)) in
    let rest = shown_same files rows (lengths, λ k f r low. show.1 (suc k) f r (omega (arith, low))) (λ shown there. whole shown (inr there)) in
    λ i. first i ∷ rest i

same_shown : (files : List Found) (rows : List Row) → rows ≡ map file_shown files → ShowFiles files rows
same_shown files rows is = (
  ap length is ∙ length-map files file_shown,
  λ k file row low. is_row (get_or files k file) (get_or rows k row) (ap (λ l. get_or l k row) is ∙ get_or-map file_shown files k file row low),
)

-- ---- one accession

module _ (is_marked : Bool) (acc : ℕ) (trees : Trees) (rows : List Row) (files : List Found) (are : AreFilesIn (image_if is_marked trees acc) files) (picks : IsPicked files_query (Int (pos acc) ∷ []) (trees 9) rows) where
  pub has_files : HasDiskIf is_marked acc trees → HaveAccessions trees → ShowFiles files rows → HasFiles is_marked acc trees
  has_files disk numbered show =
      let same : rows ≡ map file_shown files = shown_same files rows show (λ shown here. let it = shown_from acc (trees 9) rows picks shown here in (it.0, it.3)) in
      record {
        files = files;
        disk = disk;
        are = are;
        each = λ row here is.
            let passes = of_number acc (trees 9) rows picks row acc is ∙ itself acc in
            let f = from_map file_shown files (shown_columns row) (subst (λ l. Has l (shown_columns row)) same (shown_to acc (trees 9) rows picks row here passes)) in
            (f.0, f.1, λ i. is i ∷ f.2 i);
        all = λ file here.
            let t = shown_from acc (trees 9) rows picks (file_shown file) (subst (λ l. Has l (file_shown file)) (sym same) (in_map file_shown files file here)) in
            let n = numbered t.0 t.1 in
            let number : n.0 ≡ acc = tied n.0 (sym (of_number acc (trees 9) rows picks t.0 n.0 n.1) ∙ t.2) in
            let is : column t.0 1 ≡ Int (pos acc) = n.1 ∙ ap (λ m. Int (pos m)) number in
            (t.0, t.1, λ i. is i ∷ sym t.3 i);
      }
    where
      itself : (n : ℕ) → eq_by_cmp nat_cmp n n ≡ true
      itself n = grind (arith, nat_tests)

      tied : (n : ℕ) → eq_by_cmp nat_cmp acc n ≡ true → n ≡ acc
      tied n e = grind (arith, nat_tests)

  -- the index of the images shows them
  pub shows_files : IsFiledAt is_marked acc trees → ShowFiles files rows
  shows_files lawful =
      let it = files_found (image_if is_marked trees acc) (trees 9) rows acc lawful.spells lawful.index picks in
      same_shown files rows (it.2 ∙ ap (map file_shown) (one_files (image_if is_marked trees acc) it.0 files it.1 are))

-- ---- the image of one accession

module _ (trees : Trees) (acc : ℕ) (row : ImageRow) (stands : get (map_of image_spelling (trees 2)) acc ≡ Some row) where
  pub unmarked_image : (is_marked : Bool) → is_marked ≡ false → image_if is_marked trees acc ≡ Some row
  unmarked_image is_marked apart = rw (apart, stands) refl

  pub marked_image : (is_marked : Bool) → is_marked ≡ true → (marks : Option (List ℕ)) → marks ≡ get (map_of marks_spelling (trees 11)) acc → (image : ImageRow) → image ≡ with_marks marks row → image_if is_marked trees acc ≡ Some image
  marked_image is_marked here marks asked image joined = rw (here, stands) (ap (λ m. Some (with_marks m row)) (sym asked) ∙ ap Some (sym joined))

  pub has_disk : row.kind ≡ D64 → HasDisk acc trees
  has_disk kind = record { image = row; stands = stands; kind = kind }

  pub no_disk : row.kind ≢ D64 → ¬ HasDisk acc trees
  no_disk other disk = other (ap (λ (o : Option ImageRow). (unwrap_or o row).kind) (sym stands ∙ disk.stands) ∙ disk.kind)

-- what is lawful of all accessions, is lawful of one
pub filed_at : (marked accessions : List ℕ) (trees : Trees) (acc : ℕ) → Has accessions acc → LawfulFiles marked accessions trees → IsFiledAt (is_among marked acc) acc trees
filed_at marked accessions trees acc here lawful = record { spells = lawful.spells; disk = lawful.disks acc here; index = lawful.index acc }

-- ---- all rows

module _ (accessions : List ℕ) (trees : Trees) (rows : List Row) (listed : IsListed all_files_query (trees 9) rows) where
  all_filed : All (IsFiledRow accessions) rows → AreFiledUnder accessions trees
  all_filed all row here = each_shown 9 _ _ _ (trees 9) rows (IsFiledRow accessions) listed.picks all row here

  filed_all : AreFiledUnder accessions trees → All (IsFiledRow accessions) rows
  filed_all filed = shown_each 9 _ _ _ (trees 9) rows (IsFiledRow accessions) listed.picks filed

  pub filed_told : (b : Bool) → MatchBool b (All (IsFiledRow accessions) rows) (¬ All (IsFiledRow accessions) rows) → MatchBool b (AreFiledUnder accessions trees) (¬ AreFiledUnder accessions trees)
  filed_told true all = all_filed all
  filed_told false some = λ filed. some (filed_all filed)

pub have_accessions : (accessions : List ℕ) (trees : Trees) → AreFiledUnder accessions trees → HaveAccessions trees
have_accessions accessions trees filed row here = let it = one_of_spelled accessions (column row 1) (filed row here) in (_, it.0)

-- an image stands, with error bytes or without them
pub joined_stands : (f : ImageRow → ImageRow) (found : Option ImageRow) → IsSome (option_map f found) → IsSome found
joined_stands f None some = absurd cc
joined_stands f (Some image) some = refl

pub stands_joined : (f : ImageRow → ImageRow) (found : Option ImageRow) → IsSome found → IsSome (option_map f found)
stands_joined f None some = absurd cc
stands_joined f (Some image) some = refl

module _ (marked accessions : List ℕ) (trees : Trees) (are : AreKeys (map_of image_spelling (trees 2)) accessions) where
  -- the index of the images has their accessions
  pub filed_in : LawfulFiles marked accessions trees → AreFiledUnder accessions trees
  filed_in lawful row here =
      let key = (entry_of file_spelling row).0 in
      let file = (entry_of file_spelling row).1 in
      let number : column row 1 ≡ Int (pos key.acc) = ap (λ s. column s 0) (all_has (IsSpelled file_spelling) (trees 9) row lawful.spells.spelled here) in
      let image = image_among marked trees key.acc in
      let there : IsFileIn image key.slot (Some file) = subst (IsFileIn image key.slot) (row_got file_spelling file_order (trees 9) lawful.spells row here) (lawful.index key.acc key.slot) in
      subst (λ v. is_one_of accessions v ≡ true) (sym number) (one_of_shown accessions key.acc ((are key.acc).1 (joined_stands _ (get (map_of image_spelling (trees 2)) key.acc) (some image key.slot file there))))
    where
      some : (image : Option ImageRow) (slot : ℕ) (file : Found) → IsFileIn image slot (Some file) → IsSome image
      some None slot file there = absurd cc
      some (Some image) slot file there = refl

-- ---- from what was tested, accession by accession

-- What a row of the index spells: a file of an accession that was tested.
record Spelt (accessions : List ℕ) (row : Row) : Type 0 where
  acc : ℕ
  listed : Has accessions acc
  number : column row 1 ≡ Int (pos acc)
  file : Found
  is : seen file_spelling.places row ≡ file_spelling.columns (record { acc = acc; slot = file.slot }, file)

module _ (marked accessions : List ℕ) (trees : Trees) (are : AreKeys (map_of image_spelling (trees 2)) accessions) (filed : AreFiledUnder accessions trees) (have : HaveFiles marked accessions trees) where
  spelt : (row : Row) → Has (trees 9) row → Spelt accessions row
  spelt row here =
      let number = one_of_spelled accessions (column row 1) (filed row here) in
      let file = (have _ number.1).each row here number.0 in
      record { acc = _; listed = number.1; number = number.0; file = file.0; is = file.2 }

  entry_is : (row : Row) (spells : Spelt accessions row) → entry_of file_spelling row ≡ (record { acc = spells.acc; slot = spells.file.slot }, spells.file)
  entry_is row spells = ap file_spelling.entry spells.is ∙ entry_back spells.acc spells.file

  spelled_at : (row : Row) → Has (trees 9) row → IsSpelled file_spelling row
  spelled_at row here = let spells = spelt row here in spells.is ∙ sym (ap file_spelling.columns (entry_is row spells))

  module _ (rows : List Row) (listed : IsListed all_files_query (trees 9) rows) (more : List Table) (db : Database) (within : db.trees ≡ trees) (schema : db.schema ≡ desk_with more) (sound : IsDatabase db) where
    ties : (row other : Row) → Has (trees 9) row → Has (trees 9) other → eq_by_cmp file_cmp (entry_of file_spelling row).0 (entry_of file_spelling other).0 ≡ true → eq_by_cmp value_cmp (rowid row) (rowid other) ≡ true
    ties row other here there tied =
        let ids = have_rowids 9 _ _ (trees 9) rows listed in
        let first = spelled_at row here in
        let second = spelled_at other there in
        let same : (entry_of file_spelling row).0 ≡ (entry_of file_spelling other).0 = file_order.same _ _ (tie (file_cmp (entry_of file_spelling row).0 (entry_of file_spelling other).0) tied) in
        one_file more db schema sound row other (subst (λ t. Has (t 9) row) (sym within) here) (subst (λ t. Has (t 9) other) (sym within) there) (ids.keyed row here) (ids.keyed other there) (agree_two 1 2 other row
        (same_int _ _ _ (ap (λ s. column s 0) second ∙ ap (λ (k : FileAt). Int (pos k.acc)) (sym same) ∙ sym (ap (λ s. column s 0) first)) (ap (λ s. column s 0) first))
        (same_int _ _ _ (ap (λ s. column s 1) second ∙ ap (λ (k : FileAt). Int (pos k.slot)) (sym same) ∙ sym (ap (λ s. column s 1) first)) (ap (λ s. column s 1) first)))

    files_spell : Spells file_spelling (trees 9)
    files_spell = record {
      spelled = all_in (IsSpelled file_spelling) (trees 9) spelled_at;
      apart = apart_by_rowids file_cmp (λ row. (entry_of file_spelling row).0) (trees 9) (rowids_apart 9 _ _ (trees 9) rows listed) ties;
    }

    -- the file that the index has at a place
    at_place : (acc slot : ℕ) (file : Found) → get (index_of trees) (record { acc = acc; slot = slot }) ≡ Some file → (here : Has accessions acc) × Has (have acc here).files file × (file.slot ≡ slot)
    at_place acc slot file found =
        let r = got_row file_spelling file_order (trees 9) (record { acc = acc; slot = slot }) file found in
        let spells = spelt r.0 r.1 in
        let entry : ◌≡◌ {A = FileAt × Found} (record { acc = acc; slot = slot }, file) (record { acc = spells.acc; slot = spells.file.slot }, spells.file) = r.2 ∙ entry_is r.0 spells in
        let number : spells.acc ≡ acc = sym (ap (λ (e : FileAt × Found). e.0.acc) entry) in
        let here : Has accessions acc = subst (Has accessions) number spells.listed in
        let at : column r.0 1 ≡ Int (pos acc) = spells.number ∙ ap (λ n. Int (pos n)) number in
        let one = (have acc here).each r.0 r.1 at in
        let again : ◌≡◌ {A = FileAt × Found} (record { acc = acc; slot = one.0.slot }, one.0) (record { acc = acc; slot = slot }, file) = sym (entry_back acc one.0) ∙ sym (ap file_spelling.entry one.2) ∙ sym r.2 in
        (here, subst (Has (have acc here).files) (ap (λ (e : FileAt × Found). e.1) again) one.1, ap (λ (g : Found). g.slot) (sym (ap (λ (e : FileAt × Found). e.1) again)) ∙ ap (λ (e : FileAt × Found). e.0.slot) again)

    -- and each file of an image is there
    placed : (acc : ℕ) (here : Has accessions acc) (file : Found) → Has (have acc here).files file → get (index_of trees) (record { acc = acc; slot = file.slot }) ≡ Some file
    placed acc here file there =
        let r = (have acc here).all file there in
        let entry : entry_of file_spelling r.0 ≡ (record { acc = acc; slot = file.slot }, file) = ap file_spelling.entry r.2 ∙ entry_back acc file in
        subst (λ (e : FileAt × Found). get (index_of trees) e.0 ≡ Some e.1) entry (row_got file_spelling file_order (trees 9) files_spell r.0 r.1)

    indexed : (acc : ℕ) → IsIndexAt (image_among marked trees acc) acc trees
    indexed acc slot = go (image_among marked trees acc) refl (get (index_of trees) (record { acc = acc; slot = slot })) refl
      where
        some : (image : ImageRow) → image_among marked trees acc ≡ Some image → Has accessions acc
        some image is = (are acc).1 (joined_stands _ (get (map_of image_spelling (trees 2)) acc) (subst IsSome (sym is) refl))

        founds : (image : ImageRow) → image_among marked trees acc ≡ Some image → (here : Has accessions acc) → AreFounds image.kind image.bytes (have acc here).files
        founds image is here = subst (λ o. AreFilesIn o (have acc here).files) is (have acc here).are

        go : (image : Option ImageRow) → image_among marked trees acc ≡ image → (found : Option Found) → get (index_of trees) (record { acc = acc; slot = slot }) ≡ found → IsFileIn image slot found
        go None none None nothing = refl
        go None none (Some file) found =
            let there : IsSome (image_among marked trees acc) = stands_joined _ (get (map_of image_spelling (trees 2)) acc) ((are acc).0 (at_place acc slot file found).0) in
            absurd (let wrong : IsSome {T = ImageRow} None = subst (λ (o : Option ImageRow). IsSome o) none there in cc)
        go (Some image) is (Some file) found =
            let at = at_place acc slot file found in
            record { same_slot = at.2; described = all_has (IsFound image.kind image.bytes) (have acc at.0).files file (recursion_from_All (IsFound image.kind image.bytes) _ (founds image is at.0).each) at.1; none = tt }
        go (Some image) is None nothing = record {
          same_slot = tt;
          described = tt;
          none = λ stands.
              let here = some image is in
              let named = has_contained _ slot ((founds image is here).complete slot stands) in
              let f = from_map (λ (g : Found). g.slot) (have acc here).files slot named in
              let there : get (index_of trees) (record { acc = acc; slot = slot }) ≡ Some f.0 = ap (λ s. get (index_of trees) (record { acc = acc; slot = s })) f.2 ∙ placed acc here f.0 f.1 in
              let wrong : Some f.0 ≡ None = sym there ∙ nothing in
              cc;
        }

    pub lawful_files : LawfulFiles marked accessions trees
    lawful_files = record { spells = files_spell; disks = λ acc here. (have acc here).disk; index = indexed }
