-- What the statements make of a database of a desk.
use Rattle.rd_store.proofs.Common.{◌≡◌, ◌==◌, ◌+◌, ◌<◌, [], ◌∷◌, inl, inr, AllPairs, get_or, length, option_map, ℕ, ℤ, pos, List, filter, Bool, true, false, not, ◌&&◌, Some, None, IsSome, refl, sym, ap, ap₂, subst, subst₂, ◌∙◌, nat_cmp, arith, AllByRecursion, eq_by_cmp, FinMap, get, insert, remove, nat_tests, Int, Blob, Binary, Row, column, put_row, rowid, has_rowid, Database, IsDatabase, statement_of, is_true, Compare, Eq, CBM_BLOCKS, Kind, Cpm8, D64, D64e, Audience, desk_schema, Spelling, Spells, SpellLawful, IsSpelled, HaveRowids, entry_of, map_of, put_deed_text, put_deed, set_deed_text, set_deed, put_image_text, put_image, put_marks_text, put_marks, put_rule_text, put_rule, drop_rule_text, drop_rule, put_key_text, put_key, drop_key_text, drop_key, put_check_text, put_check, drop_check_text, drop_check, put_file_text, put_file, and_true, same_numbers, equal_numbers, equal_integers, equal_blobs, insert_removed, Makes, put_deed_writes, set_deed_writes, put_image_writes, put_marks_writes, put_rule_writes, drop_rule_writes, put_key_writes, drop_key_writes, put_check_writes, drop_check_writes, put_file_writes, deed_params, deed_row, has_number, puts_deed, sets_deed, image_params, image_row, puts_image, marks_params, marks_row, puts_marks, place_params, has_place, drops_rule, rule_row, puts_rule, digest_params, has_digest, drops_key, key_params, key_row, puts_key, checkup_params, has_checkup, drops_check, check_params, check_row, puts_check, file_row, puts_file, DeedRow, ImageRow, Outcome, kind_code, kind_in, audiences_code, audience_code, effect_code, outcome_code, how, number, word, class_code, units_code, Desk, Place, Terms, Checkup, place_cmp, digest_cmp, checkup_cmp, with_deed, with_rule, without_rule, with_check, without_check, with_key, without_key, band_code, AreFounds, Found, FileAt, file_cmp, IsFiledTo, IsIndexOf, with_new_image, AreMarksIn, joined, with_marks, as_row, HaveOwnRowids, deed_spelling, image_spelling, images_of, marks_spelling, rule_spelling, key_spelling, check_spelling, file_spelling, file_shown, index_of, HasVersion, IsOf, IsDeskWith, LacksImage}
use Rattle.sqlite.specs.Listing.{understood}
use Rattle.sqlite_sql.specs.Ops.{binary}
use Rattle.rd_tables.proofs.MapChanges.{spells_put, map_put, none_at, one_at, map_left, spells_left, none_left}
use Rattle.rd_tables.proofs.RemovedRows.{rowids_left, rowids_put}
use Rattle.rd_tables.proofs.DatabaseSteps.{Sets, is_index_tree, not_taken}
use Rattle.rd_store.proofs.IndexInserts.{none_filed, next_free, one_filed, all_filed}
use Rattle.rd_store.proofs.MarkedImages.{joined_image, joined_marks, no_marks, none_apart, plain_there, still_marks}
use Rattle.rd_store.proofs.Orders.{number_order, place_order, digest_order, checkup_order, file_order, audience_back, outcome_back, rule_back, entry_back}
use Rattle.rd_store.proofs.Maps.{found_after}

-- ---- one table is set, and the others stay

-- The rows on one tree spell this map.
record Part {K X : Type 0} (spelling : Spelling K X) (tree : ℕ) (db : Database) (m : FinMap spelling.cmp X) : Type 0 where
  spells : Spells spelling (db.trees tree)
  is : map_of spelling (db.trees tree) ≡ m

set : {K X : Type 0} (spelling : Spelling K X) (tree : ℕ) (db after : Database) (rows : List Row) → Sets tree db after rows → Spells spelling rows → (m : FinMap spelling.cmp X) → map_of spelling rows ≡ m → Part spelling tree after m
set spelling tree db after rows h spells m are = record { spells = subst (Spells spelling) (sym h.now) spells; is = ap (map_of spelling) h.now ∙ are }

stays : {K X : Type 0} (spelling : Spelling K X) (tree : ℕ) (db after : Database) (m : FinMap spelling.cmp X) → after.trees tree ≡ db.trees tree → Part spelling tree db m → Part spelling tree after m
stays spelling tree db after m same part = record { spells = subst (Spells spelling) (sym same) part.spells; is = ap (map_of spelling) same ∙ part.is }

-- The rows on two trees spell these images, each with its error bytes.
record Pictured (db : Database) (images : FinMap nat_cmp ImageRow) : Type 0 where
  rows : Spells image_spelling (db.trees 2)
  marks : SpellLawful marks_spelling (AreMarksIn (map_of image_spelling (db.trees 2))) (db.trees 11)
  is : images_of db.trees ≡ images

-- the parts of a desk and of an index
whole : (desk : Desk) (Index : FinMap file_cmp Found → Type 0) (db : Database) → db.schema ≡ desk_schema → HasVersion 2 (db.trees 0) → Part deed_spelling 1 db desk.deeds → Pictured db desk.images → Part rule_spelling 3 db desk.rules
    → Part key_spelling 5 db desk.keys → Part check_spelling 7 db desk.checks → Spells file_spelling (db.trees 9) → Index (index_of db.trees) → HaveOwnRowids db.trees → IsDatabase db → IsDeskWith desk Index db
whole desk Index db schema version deeds images rules keys checks files index rowids sound = record {
  schema = schema;
  rows = record { version = version; deeds = deeds.spells; images = images.rows; rules = rules.spells; keys = keys.spells; checks = checks.spells; files = files; marks = images.marks };
  rowids = rowids;
  sound = sound;
  is = λ i. record { deeds = deeds.is i; images = images.is i; rules = rules.is i; keys = keys.is i; checks = checks.is i };
  index = index;
}

module _ (desk : Desk) (Index : FinMap file_cmp Found → Type 0) (db after : Database) (rows : List Row) (of : IsDeskWith desk Index db) (sound : IsDatabase after) where
  version_stays : after.trees 0 ≡ db.trees 0 → HasVersion 2 (after.trees 0)
  version_stays same = subst (HasVersion 2) (sym same) of.rows.version

  deeds_stay : after.trees 1 ≡ db.trees 1 → Part deed_spelling 1 after desk.deeds
  deeds_stay same = stays deed_spelling 1 db after desk.deeds same (record { spells = of.rows.deeds; is = ap (λ (d : Desk). d.deeds) of.is })

  images_stay : after.trees 2 ≡ db.trees 2 → after.trees 11 ≡ db.trees 11 → Pictured after desk.images
  images_stay rows marks = record {
    rows = subst (Spells image_spelling) (sym rows) of.rows.images;
    marks = subst₂ (λ i m. SpellLawful marks_spelling (AreMarksIn (map_of image_spelling i)) m) (sym rows) (sym marks) of.rows.marks;
    is = ap₂ (λ i m. joined (map_of image_spelling i) (map_of marks_spelling m)) rows marks ∙ ap (λ (d : Desk). d.images) of.is;
  }

  rules_stay : after.trees 3 ≡ db.trees 3 → Part rule_spelling 3 after desk.rules
  rules_stay same = stays rule_spelling 3 db after desk.rules same (record { spells = of.rows.rules; is = ap (λ (d : Desk). d.rules) of.is })

  keys_stay : after.trees 5 ≡ db.trees 5 → Part key_spelling 5 after desk.keys
  keys_stay same = stays key_spelling 5 db after desk.keys same (record { spells = of.rows.keys; is = ap (λ (d : Desk). d.keys) of.is })

  checks_stay : after.trees 7 ≡ db.trees 7 → Part check_spelling 7 after desk.checks
  checks_stay same = stays check_spelling 7 db after desk.checks same (record { spells = of.rows.checks; is = ap (λ (d : Desk). d.checks) of.is })

  files_stay : after.trees 9 ≡ db.trees 9 → Spells file_spelling (after.trees 9)
  files_stay same = subst (Spells file_spelling) (sym same) of.rows.files

  index_stays : after.trees 9 ≡ db.trees 9 → Index (index_of after.trees)
  index_stays same = subst Index (ap (map_of file_spelling) (sym same)) of.index

  -- rowids, where the tables have these rows
  rowids_of : (rules keys checks files : List Row) → after.trees 3 ≡ rules → after.trees 5 ≡ keys → after.trees 7 ≡ checks → after.trees 9 ≡ files → HaveRowids rules → HaveRowids keys → HaveRowids checks → HaveRowids files → HaveOwnRowids after.trees
  rowids_of rules keys checks files r k c f hr hk hc hf = record {
    rules = subst HaveRowids (sym r) hr;
    keys = subst HaveRowids (sym k) hk;
    checks = subst HaveRowids (sym c) hc;
    files = subst HaveRowids (sym f) hf;
  }

  of_deeds : Sets 1 db after rows → Spells deed_spelling rows → (m : FinMap nat_cmp DeedRow) → map_of deed_spelling rows ≡ m → IsDeskWith (record desk { deeds = m }) Index after
  of_deeds h spells m are =
      let at = λ (t : ℕ) (other : (t == 1) ≡ false) (table : is_index_tree t ≡ false). h.stays t other table in
      whole (record desk { deeds = m }) Index after h.schema (version_stays (at 0 refl refl)) (set deed_spelling 1 db after rows h spells m are) (images_stay (at 2 refl refl) (at 11 refl refl)) (rules_stay (at 3 refl refl)) (keys_stay (at 5 refl refl))
      (checks_stay (at 7 refl refl)) (files_stay (at 9 refl refl)) (index_stays (at 9 refl refl))
      (rowids_of _ _ _ _ (at 3 refl refl) (at 5 refl refl) (at 7 refl refl) (at 9 refl refl) of.rowids.rules of.rowids.keys of.rowids.checks of.rowids.files) sound

  of_images : Sets 2 db after rows → (m : FinMap nat_cmp ImageRow) → Pictured after m → IsDeskWith (record desk { images = m }) Index after
  of_images h m pictured =
      let at = λ (t : ℕ) (other : (t == 2) ≡ false) (table : is_index_tree t ≡ false). h.stays t other table in
      whole (record desk { images = m }) Index after h.schema (version_stays (at 0 refl refl)) (deeds_stay (at 1 refl refl)) pictured (rules_stay (at 3 refl refl)) (keys_stay (at 5 refl refl))
      (checks_stay (at 7 refl refl)) (files_stay (at 9 refl refl)) (index_stays (at 9 refl refl))
      (rowids_of _ _ _ _ (at 3 refl refl) (at 5 refl refl) (at 7 refl refl) (at 9 refl refl) of.rowids.rules of.rowids.keys of.rowids.checks of.rowids.files) sound

  of_marks : Sets 11 db after rows → (m : FinMap nat_cmp ImageRow) → Pictured after m → IsDeskWith (record desk { images = m }) Index after
  of_marks h m pictured =
      let at = λ (t : ℕ) (other : (t == 11) ≡ false) (table : is_index_tree t ≡ false). h.stays t other table in
      whole (record desk { images = m }) Index after h.schema (version_stays (at 0 refl refl)) (deeds_stay (at 1 refl refl)) pictured (rules_stay (at 3 refl refl)) (keys_stay (at 5 refl refl))
      (checks_stay (at 7 refl refl)) (files_stay (at 9 refl refl)) (index_stays (at 9 refl refl))
      (rowids_of _ _ _ _ (at 3 refl refl) (at 5 refl refl) (at 7 refl refl) (at 9 refl refl) of.rowids.rules of.rowids.keys of.rowids.checks of.rowids.files) sound

  of_rules : Sets 3 db after rows → Spells rule_spelling rows → HaveRowids rows → (m : FinMap place_cmp Terms) → map_of rule_spelling rows ≡ m → IsDeskWith (record desk { rules = m }) Index after
  of_rules h spells rowids m are =
      let at = λ (t : ℕ) (other : (t == 3) ≡ false) (table : is_index_tree t ≡ false). h.stays t other table in
      whole (record desk { rules = m }) Index after h.schema (version_stays (at 0 refl refl)) (deeds_stay (at 1 refl refl)) (images_stay (at 2 refl refl) (at 11 refl refl)) (set rule_spelling 3 db after rows h spells m are) (keys_stay (at 5 refl refl))
      (checks_stay (at 7 refl refl)) (files_stay (at 9 refl refl)) (index_stays (at 9 refl refl))
      (rowids_of _ _ _ _ h.now (at 5 refl refl) (at 7 refl refl) (at 9 refl refl) rowids of.rowids.keys of.rowids.checks of.rowids.files) sound

  of_keys : Sets 5 db after rows → Spells key_spelling rows → HaveRowids rows → (m : FinMap digest_cmp Audience) → map_of key_spelling rows ≡ m → IsDeskWith (record desk { keys = m }) Index after
  of_keys h spells rowids m are =
      let at = λ (t : ℕ) (other : (t == 5) ≡ false) (table : is_index_tree t ≡ false). h.stays t other table in
      whole (record desk { keys = m }) Index after h.schema (version_stays (at 0 refl refl)) (deeds_stay (at 1 refl refl)) (images_stay (at 2 refl refl) (at 11 refl refl)) (rules_stay (at 3 refl refl)) (set key_spelling 5 db after rows h spells m are)
      (checks_stay (at 7 refl refl)) (files_stay (at 9 refl refl)) (index_stays (at 9 refl refl))
      (rowids_of _ _ _ _ (at 3 refl refl) h.now (at 7 refl refl) (at 9 refl refl) of.rowids.rules rowids of.rowids.checks of.rowids.files) sound

  of_checks : Sets 7 db after rows → Spells check_spelling rows → HaveRowids rows → (m : FinMap checkup_cmp Outcome) → map_of check_spelling rows ≡ m → IsDeskWith (record desk { checks = m }) Index after
  of_checks h spells rowids m are =
      let at = λ (t : ℕ) (other : (t == 7) ≡ false) (table : is_index_tree t ≡ false). h.stays t other table in
      whole (record desk { checks = m }) Index after h.schema (version_stays (at 0 refl refl)) (deeds_stay (at 1 refl refl)) (images_stay (at 2 refl refl) (at 11 refl refl)) (rules_stay (at 3 refl refl)) (keys_stay (at 5 refl refl))
      (set check_spelling 7 db after rows h spells m are) (files_stay (at 9 refl refl)) (index_stays (at 9 refl refl))
      (rowids_of _ _ _ _ (at 3 refl refl) (at 5 refl refl) h.now (at 9 refl refl) of.rowids.rules of.rowids.keys rowids of.rowids.files) sound

  of_files : Sets 9 db after rows → Spells file_spelling rows → HaveRowids rows → (Next : FinMap file_cmp Found → Type 0) → Next (map_of file_spelling rows) → IsDeskWith desk Next after
  of_files h spells rowids Next next =
      let at = λ (t : ℕ) (other : (t == 9) ≡ false) (table : is_index_tree t ≡ false). h.stays t other table in
      whole desk Next after h.schema (version_stays (at 0 refl refl)) (deeds_stay (at 1 refl refl)) (images_stay (at 2 refl refl) (at 11 refl refl)) (rules_stay (at 3 refl refl)) (keys_stay (at 5 refl refl)) (checks_stay (at 7 refl refl))
      (subst (Spells file_spelling) (sym h.now) spells) (subst Next (ap (map_of file_spelling) (sym h.now)) next)
      (rowids_of _ _ _ _ (at 3 refl refl) (at 5 refl refl) (at 7 refl refl) h.now of.rowids.rules of.rowids.keys of.rowids.checks rowids) sound

pub of_schema : (desk : Desk) (db : Database) → IsOf desk db → db.schema ≡ desk_schema
of_schema desk db of = of.schema

pub with_schema : (desk : Desk) (Index : FinMap file_cmp Found → Type 0) (db : Database) → IsDeskWith desk Index db → db.schema ≡ desk_schema
with_schema desk Index db of = of.schema

-- ---- deeds

-- a deed's number is its rowid
number_at : (row : Row) → IsSpelled deed_spelling row → rowid row ≡ Int (pos (entry_of deed_spelling row).0)
number_at row is = ap (λ s. column s 0) is

module _ (num : ℕ) (deed : DeedRow) where
  abbrev new_deed : Row
  new_deed = deed_row num deed.donor deed.signed

  -- the row of the number, by the test of WHERE and by its rowid
  numbered : (row : Row) → IsSpelled deed_spelling row → has_number num deed.donor deed.signed row ≡ eq_by_cmp nat_cmp num (entry_of deed_spelling row).0
  numbered row is = and_true _ ∙ rw (number_at row is) (equal_numbers (entry_of deed_spelling row).0 num)

  has_id : (row : Row) → IsSpelled deed_spelling row → has_rowid (pos num) row ≡ eq_by_cmp nat_cmp num (entry_of deed_spelling row).0
  has_id row is = rw (number_at row is) (same_numbers (entry_of deed_spelling row).0 num)

  -- where one stands
  pub makes_deed : (desk : Desk) → IsSome (get desk.deeds num) → Makes desk_schema set_deed_text set_deed set_deed_writes (deed_params num deed.donor deed.signed) (IsOf desk) (IsOf (with_deed num deed desk))
  makes_deed desk stands limit db after tally of does sound =
      let rows = db.trees 1 in
      let spells = of.rows.deeds in
      let there : IsSome (get (map_of deed_spelling rows) num) = subst (λ (d : Desk). IsSome (get d.deeds num)) (sym of.is) stands in
      let one = one_at deed_spelling number_order num (has_number num deed.donor deed.signed) rows spells numbered there in
      let h = sets_deed num deed.donor deed.signed (statement_of set_deed_text (understood desk_schema set_deed_text)) limit db after tally of.schema one.0 one.1 (number_at one.0 one.2 ∙ ap (λ n. Int (pos n)) (sym one.3)) does in
      let test = has_rowid (pos num) in
      let left = spells_left deed_spelling number_order num test rows spells has_id in
      let none = none_left deed_spelling number_order num test rows spells has_id in
      let free = not_taken test new_deed (λ row. refl) rows in
      let kept = filter (λ row. not (test row)) rows in
      let put = spells_put deed_spelling number_order new_deed kept left refl none free in
      let are = map_put deed_spelling number_order new_deed kept left refl none free ∙ ap (λ m. insert m num deed) (map_left deed_spelling number_order num test rows spells has_id)
      ∙ insert_removed nat_cmp number_order (map_of deed_spelling rows) num deed ∙ ap (λ (d : Desk). insert d.deeds num deed) of.is in
      of_deeds desk (IsIndexOf desk.images) db after (put_row new_deed kept) of sound h put (insert desk.deeds num deed) are

  -- where none stands
  pub makes_new_deed : (desk : Desk) → get desk.deeds num ≡ None → Makes desk_schema put_deed_text put_deed put_deed_writes (deed_params num deed.donor deed.signed) (IsOf desk) (IsOf (with_deed num deed desk))
  makes_new_deed desk free limit db after tally of does sound =
      let rows = db.trees 1 in
      let spells = of.rows.deeds in
      let h = puts_deed num deed.donor deed.signed (statement_of put_deed_text (understood desk_schema put_deed_text)) limit db after tally of.schema does in
      let apart : get (map_of deed_spelling rows) num ≡ None = ap (λ (d : Desk). get d.deeds num) of.is ∙ free in
      let none = none_at deed_spelling number_order num rows apart in
      let put = spells_put deed_spelling number_order new_deed rows spells refl none h.0 in
      let are = map_put deed_spelling number_order new_deed rows spells refl none h.0 ∙ ap (λ (d : Desk). insert d.deeds num deed) of.is in
      of_deeds desk (IsIndexOf desk.images) db after (put_row new_deed rows) of sound h.1 put (insert desk.deeds num deed) are

-- ---- images

module _ (acc : ℕ) (image : ImageRow) where
  abbrev new_image : Row
  new_image = image_row acc (kind_code image.kind) image.deed image.digest image.bytes

  -- which has the number of the kind
  same_number : (kind : Kind) → kind_code (kind_in (kind_code kind)) ≡ kind_code kind
  same_number Cpm8 = refl
  same_number D64 = refl
  same_number D64e = refl

  image_spelled : IsSpelled image_spelling new_image
  image_spelled = λ i. Int (pos acc) ∷ Int (pos (sym (same_number image.kind) i)) ∷ Int (pos image.deed) ∷ Blob image.digest ∷ Blob image.bytes ∷ []

  -- a row of an image, which tells no error bytes, is put where no image stands
  pub makes_image : (desk : Desk) (files : List Found)
      → Makes desk_schema put_image_text put_image put_image_writes (image_params acc (kind_code image.kind) image.deed image.digest image.bytes) (LacksImage acc desk) (IsDeskWith (with_new_image acc (as_row image) desk) (IsFiledTo desk.images acc files 0))
  makes_image desk files limit db after tally (of, free) does sound =
      let rows = db.trees 2 in
      let table = map_of image_spelling rows in
      let marks = map_of marks_spelling (db.trees 11) in
      let h = puts_image acc (kind_code image.kind) image.deed image.digest image.bytes (statement_of put_image_text (understood desk_schema put_image_text)) limit db after tally of.schema does in
      let is = image_spelled in
      let apart : get table acc ≡ None = none_apart table marks acc (ap (λ (d : Desk). get d.images acc) of.is ∙ free) in
      let unmarked : get marks acc ≡ None = no_marks table marks of.rows.marks.lawful acc apart in
      let none = none_at image_spelling number_order acc rows apart in
      let put = spells_put image_spelling number_order new_image rows of.rows.images is none h.0 in
      let are : map_of image_spelling (after.trees 2) ≡ insert table acc (as_row image) = ap (map_of image_spelling) h.1.now ∙ map_put image_spelling number_order new_image rows of.rows.images is none h.0 in
      let kept : after.trees 11 ≡ db.trees 11 = h.1.stays 11 refl refl in
      let pictured : Pictured after (insert desk.images acc (as_row image)) = record {
        rows = subst (Spells image_spelling) (sym h.1.now) put;
        marks = subst₂ (λ i m. SpellLawful marks_spelling (AreMarksIn i) m) (sym are) (sym kept)
            (record { spells = of.rows.marks.spells; lawful = λ other bytes found. still_marks table marks acc (as_row image) unmarked other bytes found (of.rows.marks.lawful other bytes found) });
        is = ap₂ (λ i m. joined i (map_of marks_spelling m)) are kept ∙ joined_image table marks acc (as_row image) unmarked ∙ ap (λ (d : Desk). insert d.images acc (as_row image)) of.is;
      } in
      let filed : IsDeskWith desk (IsFiledTo desk.images acc files 0) db =
      record { schema = of.schema; rows = of.rows; rowids = of.rowids; sound = of.sound; is = of.is; index = none_filed desk.images acc files (index_of db.trees) free of.index } in
      of_images desk (IsFiledTo desk.images acc files 0) db after (put_row new_image rows) filed sound h.1 (insert desk.images acc (as_row image)) pictured

  -- error bytes are put where a D64 stands
  pub makes_marks : (bytes : List ℕ) (desk : Desk) (Index : FinMap file_cmp Found → Type 0) → get desk.images acc ≡ Some image → image.kind ≡ D64 → length bytes ≡ CBM_BLOCKS
      → Makes desk_schema put_marks_text put_marks put_marks_writes (marks_params acc bytes) (IsDeskWith desk Index) (IsDeskWith (with_new_image acc (with_marks (Some bytes) image) desk) Index)
  makes_marks bytes desk Index stands kind count limit db after tally of does sound =
      let rows = db.trees 11 in
      let table = map_of image_spelling (db.trees 2) in
      let marks = map_of marks_spelling rows in
      let new = marks_row acc bytes in
      let h = puts_marks acc bytes (statement_of put_marks_text (understood desk_schema put_marks_text)) limit db after tally of.schema does in
      let plain = plain_there table marks acc image (ap (λ (d : Desk). get d.images acc) of.is ∙ stands) kind in
      let none = none_at marks_spelling number_order acc rows plain.1 in
      let put = spells_put marks_spelling number_order new rows of.rows.marks.spells refl none h.0 in
      let are : map_of marks_spelling (after.trees 11) ≡ insert marks acc bytes = ap (map_of marks_spelling) h.1.now ∙ map_put marks_spelling number_order new rows of.rows.marks.spells refl none h.0 in
      let kept : after.trees 2 ≡ db.trees 2 = h.1.stays 2 refl refl in
      let image_now = with_marks (Some bytes) image in
      let mine : AreMarksIn table (acc, bytes) = record { count = count; image = image; stands = plain.0; kind = kind } in
      let pictured : Pictured after (insert desk.images acc image_now) = record {
        rows = subst (Spells image_spelling) (sym kept) of.rows.images;
        marks = record {
          spells = subst (Spells marks_spelling) (sym h.1.now) put;
          lawful = λ other found there. subst (λ i. AreMarksIn (map_of image_spelling i) (other, found)) (sym kept)
              (elim (found_after nat_cmp number_order marks acc bytes other found (subst (λ m. get m other ≡ Some found) are there)) [
                | inl this ↦ subst (AreMarksIn table) (λ i. (sym this.0 i, this.1 i)) mine
                | inr was ↦ of.rows.marks.lawful other found was
              ]);
        };
        is = ap₂ (λ i m. joined (map_of image_spelling i) m) kept are ∙ joined_marks table marks acc bytes image plain.0 ∙ ap (λ (d : Desk). insert d.images acc image_now) of.is;
      } in
      of_marks desk Index db after (put_row new rows) of sound h.1 (insert desk.images acc image_now) pictured

  pub lacks_schema : (desk : Desk) (db : Database) → LacksImage acc desk db → db.schema ≡ desk_schema
  lacks_schema desk db lacks = lacks.0.schema

  -- once all its files are filed, the index is that of the images
  pub filed_whole : (desk : Desk) (files : List Found) → AreFounds image.kind image.bytes files → (db : Database) → IsDeskWith (with_new_image acc image desk) (IsFiledTo desk.images acc files (length files)) db → IsOf (with_new_image acc image desk) db
  filed_whole desk files are db of =
      record { schema = of.schema; rows = of.rows; rowids = of.rowids; sound = of.sound; is = of.is; index = all_filed desk.images acc image files (index_of db.trees) are of.index }

-- ---- files

module _ (acc : ℕ) (file : Found) where
  abbrev pub new_file : List Row → Row
  new_file = file_row acc file.slot file.name file.ty (option_map pos file.user) (class_code file.served_class) (option_map pos file.size) file.faults (units_code file.units) file.last_len

  -- the next of its accession's files
  pub makes_file : (desk : Desk) (images : FinMap nat_cmp ImageRow) (files : List Found) (count : ℕ) → AllPairs (λ f g. f.slot < g.slot) files → count < length files → get_or files count file ≡ file
      → Makes desk_schema put_file_text put_file put_file_writes (Int (pos acc) ∷ file_shown file) (IsDeskWith desk (IsFiledTo images acc files count)) (IsDeskWith desk (IsFiledTo images acc files (count + 1)))
  makes_file desk images files count ascend low this limit db after tally of does sound =
      let rows = db.trees 9 in
      let new = new_file rows in
      let at : FileAt = record { acc = acc; slot = file.slot } in
      let h = puts_file acc file.slot file.name file.ty (option_map pos file.user) (class_code file.served_class) (option_map pos file.size) file.faults (units_code file.units) file.last_len (statement_of put_file_text (understood desk_schema put_file_text)) limit db after tally of.schema does in
      let read : entry_of file_spelling new ≡ (at, file) = entry_back acc file in
      let is : IsSpelled file_spelling new = sym (ap file_spelling.columns read) in
      let free = next_free images acc files (index_of db.trees) ascend count file low this of.index in
      let none = subst (λ (e : FileAt × Found). AllByRecursion (λ row. eq_by_cmp file_cmp e.0 (entry_of file_spelling row).0 ≡ false) rows) (sym read) (none_at file_spelling file_order at rows free) in
      let put = spells_put file_spelling file_order new rows of.rows.files is none h.0 in
      let are = map_put file_spelling file_order new rows of.rows.files is none h.0 ∙ ap (λ (e : FileAt × Found). insert (map_of file_spelling rows) e.0 e.1) read in
      of_files desk (IsFiledTo images acc files count) db after (put_row new rows) of sound h.1 put (rowids_put new rows refl h.0 of.rowids.files) (IsFiledTo images acc files (count + 1))
      (subst (IsFiledTo images acc files (count + 1)) (sym are) (one_filed images acc files (index_of db.trees) ascend count file low this of.index))

-- ---- rules

module _ (place : Place) where
  abbrev at_place : Row → Bool
  at_place = has_place (band_code place.band) place.scope place.rank

  placed : (row : Row) → IsSpelled rule_spelling row → at_place row ≡ eq_by_cmp place_cmp place (entry_of rule_spelling row).0
  placed row is =
      let key = (entry_of rule_spelling row).0 in
      ap (λ s. is_true (binary (Compare Eq Binary) (column s 0) (Int (pos (band_code place.band)))) && (is_true (binary (Compare Eq Binary) (column s 1) (Int (pos place.scope))) && (is_true (binary (Compare Eq Binary) (column s 2) (Int (pos place.rank))) && true))) is
      ∙ rw (equal_numbers (band_code key.band) (band_code place.band), equal_numbers key.scope place.scope, equal_numbers key.rank place.rank, and_true) (grind (arith, nat_tests))

  pub makes_no_rule : (desk : Desk) → Makes desk_schema drop_rule_text drop_rule drop_rule_writes (place_params (band_code place.band) place.scope place.rank) (IsOf desk) (IsOf (without_rule place desk))
  makes_no_rule desk limit db after tally of does sound =
      let rows = db.trees 3 in
      let h = drops_rule (band_code place.band) place.scope place.rank (statement_of drop_rule_text (understood desk_schema drop_rule_text)) limit db after tally of.schema of.rowids.rules does in
      let left = spells_left rule_spelling place_order place at_place rows of.rows.rules placed in
      let are = map_left rule_spelling place_order place at_place rows of.rows.rules placed ∙ ap (λ (d : Desk). remove d.rules place) of.is in
      of_rules desk (IsIndexOf desk.images) db after (filter (λ row. not (at_place row)) rows) of sound h left (rowids_left (λ row. not (at_place row)) rows of.rowids.rules) (remove desk.rules place) are

  module _ (terms : Terms) where
    abbrev new_rule : List Row → Row
    new_rule = rule_row (band_code place.band) place.scope place.rank (audiences_code terms.audiences) terms.from terms.until (how terms.select) (number terms.select) (word terms.select) (effect_code terms.effect)

    pub makes_rule : (desk : Desk) → get desk.rules place ≡ None
        → Makes desk_schema put_rule_text put_rule put_rule_writes (rule_spelling.columns (place, terms)) (IsOf desk) (IsOf (with_rule place terms desk))
    makes_rule desk free limit db after tally of does sound =
        let rows = db.trees 3 in
        let new = new_rule rows in
        let h = puts_rule (band_code place.band) place.scope place.rank (audiences_code terms.audiences) terms.from terms.until (how terms.select) (number terms.select) (word terms.select) (effect_code terms.effect) (statement_of put_rule_text (understood desk_schema put_rule_text)) limit db after tally of.schema does in
        let read : entry_of rule_spelling new ≡ (place, terms) = rule_back (place, terms) in
        let is : IsSpelled rule_spelling new = sym (ap rule_spelling.columns read) in
        let none = subst (λ (e : Place × Terms). AllByRecursion (λ row. eq_by_cmp place_cmp e.0 (entry_of rule_spelling row).0 ≡ false) rows) (sym read)
        (none_at rule_spelling place_order place rows (ap (λ (d : Desk). get d.rules place) of.is ∙ free)) in
        let put = spells_put rule_spelling place_order new rows of.rows.rules is none h.0 in
        let are = map_put rule_spelling place_order new rows of.rows.rules is none h.0 ∙ ap (λ (e : Place × Terms). insert (map_of rule_spelling rows) e.0 e.1) read
        ∙ ap (λ (d : Desk). insert d.rules place terms) of.is in
        of_rules desk (IsIndexOf desk.images) db after (put_row new rows) of sound h.1 put (rowids_put new rows refl h.0 of.rowids.rules) (insert desk.rules place terms) are

-- ---- desk keys

module _ (digest : List ℕ) where
  digested : (row : Row) → IsSpelled key_spelling row → has_digest digest row ≡ eq_by_cmp digest_cmp digest (entry_of key_spelling row).0
  digested row is = ap (λ s. is_true (binary (Compare Eq Binary) (column s 0) (Blob digest)) && true) is ∙ and_true _ ∙ equal_blobs (entry_of key_spelling row).0 digest

  pub makes_no_key : (desk : Desk) → Makes desk_schema drop_key_text drop_key drop_key_writes (digest_params digest) (IsOf desk) (IsOf (without_key digest desk))
  makes_no_key desk limit db after tally of does sound =
      let rows = db.trees 5 in
      let h = drops_key digest (statement_of drop_key_text (understood desk_schema drop_key_text)) limit db after tally of.schema of.rowids.keys does in
      let left = spells_left key_spelling digest_order digest (has_digest digest) rows of.rows.keys digested in
      let are = map_left key_spelling digest_order digest (has_digest digest) rows of.rows.keys digested ∙ ap (λ (d : Desk). remove d.keys digest) of.is in
      of_keys desk (IsIndexOf desk.images) db after (filter (λ row. not (has_digest digest row)) rows) of sound h left (rowids_left (λ row. not (has_digest digest row)) rows of.rowids.keys) (remove desk.keys digest) are

  module _ (audience : Audience) where
    pub makes_key : (desk : Desk) → get desk.keys digest ≡ None → Makes desk_schema put_key_text put_key put_key_writes (key_params digest (audience_code audience)) (IsOf desk) (IsOf (with_key digest audience desk))
    makes_key desk free limit db after tally of does sound =
        let rows = db.trees 5 in
        let new = key_row digest (audience_code audience) rows in
        let h = puts_key digest (audience_code audience) (statement_of put_key_text (understood desk_schema put_key_text)) limit db after tally of.schema does in
        let read : entry_of key_spelling new ≡ (digest, audience) = λ i. (digest, audience_back audience i) in
        let is : IsSpelled key_spelling new = sym (ap key_spelling.columns read) in
        let none = subst (λ (e : List ℕ × Audience). AllByRecursion (λ row. eq_by_cmp digest_cmp e.0 (entry_of key_spelling row).0 ≡ false) rows) (sym read)
        (none_at key_spelling digest_order digest rows (ap (λ (d : Desk). get d.keys digest) of.is ∙ free)) in
        let put = spells_put key_spelling digest_order new rows of.rows.keys is none h.0 in
        let are = map_put key_spelling digest_order new rows of.rows.keys is none h.0 ∙ ap (λ (e : List ℕ × Audience). insert (map_of key_spelling rows) e.0 e.1) read
        ∙ ap (λ (d : Desk). insert d.keys digest audience) of.is in
        of_keys desk (IsIndexOf desk.images) db after (put_row new rows) of sound h.1 put (rowids_put new rows refl h.0 of.rowids.keys) (insert desk.keys digest audience) are

-- ---- checks

module _ (acc : ℕ) (day : ℤ) where
  abbrev checkup : Checkup
  checkup = record { acc = acc; day = day }

  checked : (row : Row) → IsSpelled check_spelling row → has_checkup acc day row ≡ eq_by_cmp checkup_cmp checkup (entry_of check_spelling row).0
  checked row is =
      let key = (entry_of check_spelling row).0 in
      ap (λ s. is_true (binary (Compare Eq Binary) (column s 0) (Int (pos acc))) && (is_true (binary (Compare Eq Binary) (column s 1) (Int day)) && true)) is
      ∙ rw (equal_numbers key.acc acc, equal_integers key.day day, and_true) (grind (arith, nat_tests))

  pub makes_no_check : (desk : Desk) → Makes desk_schema drop_check_text drop_check drop_check_writes (checkup_params acc day) (IsOf desk) (IsOf (without_check acc day desk))
  makes_no_check desk limit db after tally of does sound =
      let rows = db.trees 7 in
      let h = drops_check acc day (statement_of drop_check_text (understood desk_schema drop_check_text)) limit db after tally of.schema of.rowids.checks does in
      let left = spells_left check_spelling checkup_order checkup (has_checkup acc day) rows of.rows.checks checked in
      let are = map_left check_spelling checkup_order checkup (has_checkup acc day) rows of.rows.checks checked ∙ ap (λ (d : Desk). remove d.checks checkup) of.is in
      of_checks desk (IsIndexOf desk.images) db after (filter (λ row. not (has_checkup acc day row)) rows) of sound h left (rowids_left (λ row. not (has_checkup acc day row)) rows of.rowids.checks) (remove desk.checks checkup) are

  module _ (outcome : Outcome) where
    pub makes_check : (desk : Desk) → get desk.checks checkup ≡ None
        → Makes desk_schema put_check_text put_check put_check_writes (check_params acc day (outcome_code outcome)) (IsOf desk) (IsOf (with_check acc day outcome desk))
    makes_check desk free limit db after tally of does sound =
        let rows = db.trees 7 in
        let new = check_row acc day (outcome_code outcome) rows in
        let h = puts_check acc day (outcome_code outcome) (statement_of put_check_text (understood desk_schema put_check_text)) limit db after tally of.schema does in
        let read : entry_of check_spelling new ≡ (checkup, outcome) = λ i. (checkup, outcome_back outcome i) in
        let is : IsSpelled check_spelling new = sym (ap check_spelling.columns read) in
        let none = subst (λ (e : Checkup × Outcome). AllByRecursion (λ row. eq_by_cmp checkup_cmp e.0 (entry_of check_spelling row).0 ≡ false) rows) (sym read)
        (none_at check_spelling checkup_order checkup rows (ap (λ (d : Desk). get d.checks checkup) of.is ∙ free)) in
        let put = spells_put check_spelling checkup_order new rows of.rows.checks is none h.0 in
        let are = map_put check_spelling checkup_order new rows of.rows.checks is none h.0 ∙ ap (λ (e : Checkup × Outcome). insert (map_of check_spelling rows) e.0 e.1) read
        ∙ ap (λ (d : Desk). insert d.checks checkup outcome) of.is in
        of_checks desk (IsIndexOf desk.images) db after (put_row new rows) of sound h.1 put (rowids_put new rows refl h.0 of.rowids.checks) (insert desk.checks checkup outcome) are
