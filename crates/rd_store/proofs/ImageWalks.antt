-- What a walk over the images finds.
use Rattle.rd_store.proofs.Common.{some_got, and_true, from_map, in_map, map_map, ◌≡◌, inl, inr, ℕ, ◌-◌, pos, List, [], ◌∷◌, ◌++◌, map, filter, length, take, All, true, Option, Some, None, IsSome, option_map, slice_get, Result, Ok, Err, refl, sym, ap, ap₂, subst, ◌∙◌, arith, nat_cmp, IsErrAnd, FinMap, entries, get, keys, length_push, map-append, All-from_recursion, All-weaker, Int, Database, IsDatabase, Held, state, Row, column, Ghosts, Table, Trees, id_in, Has, has_either, Length, TypeOf, AreRising, IsListed, greater, all_images_query, all_marks_query, desk_with, IsSpelled, Spells, entry_of, map_of, natural, entry_got, got_entry, all_in, row_got, rows_lawful, greater_int, OpenFault, Heading, ImageRow, HasErrorBytes, IsImageRow, IsMarksRow, is_number, is_one_of, IsScope, IsClean, IsOpen, Stays, AreFiledUnder, AreKeys, AreListed, HaveAccessions, HaveFiles, IsConsistent, IsConsistentAs, IsImageOf, JudgedPart, LawfulCommon, LawfulImages, LawfulMarks, TestsPart, is_among, entry_in, number_of, register_of, as_row, HasVersion, deed_spelling, image_spelling, images_of, marks_spelling, unmarked, AreBatchOf, AreFiledOf, AreNextOf, AreReadNext, HasFilesOnce, IsJudgedImage, IsLawfulAt, IsReadOf, IsWalk, IsWalkTo, LawfulGivenWalk, LawfulWalk, SpellMarksIf, StandsOnce, image_read, image_columns, last_number, Inconsistent}
use Rattle.sqlite_sql.specs.Ops.{unary}
use Rattle.rd_tables.specs.Walks.{AreNext, ComesNext, IsWalked, is_after}
use Rattle.rd_tables.proofs.RowWalks.{all_walked, comes_from, each_next, none_next, walk_goes_on, walk_starts}
use Rattle.rd_store.specs.declared.faults.OpenFault.TheVariants.{Sql}
use Rattle.rd_store.proofs.ColumnValues.{number_shown, number_spelled, one_of_spelled}
use Rattle.rd_store.proofs.IndexTests.{filed_at, have_accessions, lawful_files}
use Rattle.rd_store.proofs.QueryResults.{images_listed}
use Rattle.rd_tables.proofs.ConnectionLaws.{stays_then}
use Rattle.rd_store.proofs.Orders.{kind_back, number_order}
use Rattle.rd_store.proofs.Registers.{entries_told, none_marked, one_marked}
use Rattle.rd_store.proofs.TestSequences.{common_in, consistent_first, consistent_second, denied_part, files_in, files_in_first, images_in, marks_in}
use Rattle.rd_store.proofs.RowShapes.{image_from, image_to}
use Rattle.rd_store.proofs.RowTests.{accession_numbers, images_told, marked_numbers, marks_shown_lawful, marks_told}

-- ---- one test after another

module _ {S : Type 0} (g : Ghosts S) where
  -- a test after a query
  pub then_part : {T : Type 0} {a b c : Held S} {r : Result T OpenFault} {Part P : Trees → Type 0} → Stays g a b → (IsClean g b → IsOpen g b) → TestsPart g b c r Part P → TestsPart g a c r Part P
  then_part {a} {b} {c} {r} {Part} {P} stays opens next = record {
    stays = stays_then g a b c stays opens next.stays;
    judges = λ o. subst (λ (db : Database). JudgedPart (Part db.trees) (P db.trees) r) (stays.now (next.stays.lasts.was_open o)) (next.judges o);
    ends_open = next.ends_open;
    refuses = next.refuses;
    named = next.named;
  }

  -- a test whose result tells more, or less
  pub part_ok : {T U : Type 0} {a b : Held S} {Part P More Q : Trees → Type 0} {value : T} {other : U} → (IsOpen g b → Part (state g a).now.trees → More (state g a).now.trees) → TestsPart g a b (Ok value) Part P → TestsPart g a b (Ok other) More Q
  part_ok more tests = record { stays = tests.stays; judges = λ o. more o (tests.judges o); ends_open = tests.ends_open; refuses = tt; named = tt }

  pub part_refused : {T U : Type 0} {a b : Held S} {Part P More Q : Trees → Type 0} {fault : OpenFault} (q : Result U OpenFault) → IsErrAnd q (λ other. other ≡ fault) → (IsOpen g b → Q (state g a).now.trees → P (state g a).now.trees) → TestsPart {T = T} g a b (Err fault) Part P
      → TestsPart g a b q More Q
  part_refused (Ok value) is from tests = absurd is
  part_refused {U} {a} {b} {P} {More} {Q} {fault} (Err other) is from tests = subst (λ e. TestsPart {T = U} g a b (Err e) More Q) (sym is) (record {
    stays = tests.stays;
    judges = λ o. denied_part (P (state g a).now.trees) (Q (state g a).now.trees) fault (from o) (tests.judges o);
    ends_open = λ clean. tt;
    refuses = tests.refuses;
    named = tests.named;
  })

  -- after it something is refused
  pub part_denied : {T U : Type 0} {a b : Held S} {Part P More Q : Trees → Type 0} {value : T} → (IsOpen g b → Part (state g a).now.trees → ¬ Q (state g a).now.trees) → TestsPart g a b (Ok value) Part P → TestsPart {T = U} g a b (Err Inconsistent) More Q
  part_denied denied tests = record { stays = tests.stays; judges = λ o. denied o (tests.judges o); ends_open = λ clean. tt; refuses = λ not_desk not_sql clean. tests.ends_open clean; named = λ is. absurd cc }

  -- a refusal that tells nothing
  pub sql_part : {U : Type 0} {a b : Held S} {Part P : Trees → Type 0} {fault : OpenFault} → Stays g a b → (q : Result U OpenFault) → IsErrAnd q (λ other. other ≡ fault) → fault ≡ Sql → TestsPart g a b q Part P
  sql_part stays (Ok value) is sql = absurd is
  sql_part {U} {a} {b} {Part} {P} stays (Err other) is sql = subst (λ e. TestsPart {T = U} g a b (Err e) Part P) (sym (is ∙ sql)) (record {
    stays = stays;
    judges = λ o. tt;
    ends_open = λ clean. tt;
    refuses = λ not_desk not_sql clean. absurd (not_sql refl);
    named = λ e. absurd cc;
  })

-- ---- what is read

-- if the first seven of some rows are none, there are no rows
none_shown : (rows : List Row) → take 7 rows ≡ [] → rows ≡ []
none_shown [] is = refl
none_shown (row ∷ rows) is = absurd (let wrong : row ∷ take 6 rows ≡ [] = is in cc)

pub batch_of : (after : Option ℕ) (trees : Trees) (rows : List Row) → AreNextOf after trees rows → AreRising rows → AreBatchOf after trees (take 7 rows)
batch_of None trees rows starts rises = (
  each_next 2 [] _ [] None (λ row. refl) 7 (trees 2) rows starts rises,
  λ none. none_next 2 [] _ [] None (λ row. refl) 7 (trees 2) rows starts (none_shown rows none),
)
batch_of (Some acc) trees rows starts rises = (
  each_next 2 (greater 0 0 ∷ []) _ (Int (pos acc) ∷ []) (Some (pos acc)) (λ row. and_true _ ∙ greater_int (column row 0) (pos acc)) 7 (trees 2) rows starts rises,
  λ none. none_next 2 (greater 0 0 ∷ []) _ (Int (pos acc) ∷ []) (Some (pos acc)) (λ row. and_true _ ∙ greater_int (column row 0) (pos acc)) 7 (trees 2) rows starts (none_shown rows none),
)

-- the first of the rows that come next was read of one of the table
pub read_of : (after : Option ℕ) (trees : Trees) (shown : Row) (more : List Row) → AreReadNext after trees (shown ∷ more) → IsReadOf trees shown
read_of after trees shown more next = (next.0, comes_from (trees 2) (option_map pos after) next.0 next.1, next.2)

-- the entry of the image that comes next after an accession, or first, and was judged
abbrev pub IsNextEntry : List ℕ → List ℕ → Option ℕ → Trees → ℕ × Heading → Type 0
IsNextEntry deeds marked after trees entry =
    (row : Row) × ComesNext (trees 2) (option_map pos after) row × IsJudgedImage deeds marked (image_read row) trees × (entry ≡ entry_in marked (image_read row))

-- if the first of the rows that come next was judged, its entry is the next
pub next_entry : (deeds marked : List ℕ) (after : Option ℕ) (trees : Trees) (shown : Row) (more : List Row) → AreReadNext after trees (shown ∷ more) → IsJudgedImage deeds marked shown trees → (entry : ℕ × Heading) → entry ≡ entry_in marked shown
    → IsNextEntry deeds marked after trees entry
next_entry deeds marked after trees shown more next judged entry are_entries = (next.0, next.1, subst (λ s. IsJudgedImage deeds marked s trees) next.2 judged, are_entries ∙ ap (entry_in marked) next.2)

-- the row of an image within its limits stands, once the rows of all images spell a map
pub read_once : (deeds : List ℕ) (trees : Trees) (shown : Row) → IsReadOf trees shown → IsImageRow deeds shown → (read : ImageRow) → ((acc : ℕ) (image : ImageRow) → shown ≡ image_columns (acc, image) → read ≡ as_row image) → StandsOnce (natural (column shown 0)) read trees
read_once deeds trees shown is within read are_entries spells =
    let row = is.0 in
    let e = entry_of image_spelling row in
    let spelled : IsSpelled image_spelling row = (image_to deeds row (subst (IsImageRow deeds) is.2 within)).0 in
    let shows : image_read row ≡ image_columns e = ap (λ s. column s 0 ∷ column s 1 ∷ column s 2 ∷ column s 3 ∷ unary Length (column s 4) ∷ unary TypeOf (column s 4) ∷ column s 4 ∷ []) spelled in
    let back : as_row e.1 ≡ e.1 = λ i. record e.1 { kind = kind_back (natural (column row 2)) i } in
    let same : read ≡ e.1 = are_entries e.0 e.1 (is.2 ∙ shows) ∙ back in
    let number : natural (column shown 0) ≡ e.0 = ap (λ (r : Row). natural (column r 0)) is.2 in
    ap (get (map_of image_spelling (trees 2))) number ∙ row_got image_spelling number_order (trees 2) spells row is.1 ∙ ap Some (sym same)

-- the row of an image of a desk is within its limits
pub lawful_read : (deeds : List ℕ) (trees : Trees) (shown : Row) → IsReadOf trees shown → LawfulImages deeds trees → IsImageRow deeds shown
lawful_read deeds trees shown is lawful =
    let it = rows_lawful image_spelling number_order (IsImageOf deeds) (trees 2) lawful is.0 is.1 in
    subst (IsImageRow deeds) (sym is.2) (image_from deeds is.0 it.0 it.1)

-- the accession that was read is the number in the row
pub read_number : (deeds : List ℕ) (shown : Row) → IsImageRow deeds shown → column shown 0 ≡ Int (pos (natural (column shown 0)))
read_number deeds shown within = (number_spelled 1 999_999 (column shown 0) within.acc).0

pub among_read : (deeds marked : List ℕ) (shown : Row) → IsImageRow deeds shown → is_one_of marked (column shown 0) ≡ is_among marked (natural (column shown 0))
among_read deeds marked shown within = ap (is_one_of marked) (read_number deeds shown within)

-- what is lawful of all images is lawful of one that was read
pub lawful_at : (deeds marked : List ℕ) (trees : Trees) (shown : Row) → IsReadOf trees shown → LawfulWalk deeds marked trees → IsLawfulAt (is_among marked (natural (column shown 0))) (natural (column shown 0)) trees
lawful_at deeds marked trees shown is lawful =
    let row = is.0 in
    let number : natural (column row 0) ≡ natural (column shown 0) = ap (λ (r : Row). natural (column r 0)) (sym is.2) in
    let got = row_got image_spelling number_order (trees 2) lawful.0.spells row is.1 in
    let some : IsSome (get (map_of image_spelling (trees 2)) (natural (column row 0))) = subst (λ (o : Option ImageRow). IsSome o) (sym got) refl in
    let acc = natural (column shown 0) in
    (lawful.0.spells, lawful.1.0 acc, lawful.1.1 acc (subst (λ n. IsSome (get (map_of image_spelling (trees 2)) n)) number some))

-- ---- the walk

pub starts_to : (deeds marked : List ℕ) (trees : Trees) → IsWalkTo deeds marked trees []
starts_to deeds marked trees = record { done = []; walked = walk_starts (trees 2); judged = λ row here. absurd here; are_entries = refl }

-- the last entry is the one that was put after the others
last_put : (listed : List (ℕ × Heading)) (entry : ℕ × Heading) → last_number (listed ++ entry ∷ []) ≡ Some entry.0
last_put listed entry =
    let all = listed ++ entry ∷ [] in
    let at : length all - 1 ≡ length listed = omega (arith, length_push listed entry) in
    ap (λ n. option_map number_of (slice_get all n)) at ∙ ap (option_map number_of) (end listed)
  where
    end : (before : List (ℕ × Heading)) → slice_get (before ++ entry ∷ []) (length before) ≡ Some entry
    end [] = refl
    end (first ∷ before) = end before

module _ (deeds marked : List ℕ) (trees : Trees) (listed : List (ℕ × Heading)) (entry : ℕ × Heading) where
  -- the place of the entry that was put last
  place_put : (next : IsNextEntry deeds marked (last_number listed) trees entry) → Some (id_in (column next.0 0)) ≡ option_map pos (last_number (listed ++ entry ∷ []))
  place_put next =
      let number : entry.0 ≡ natural (column next.0 0) = ap (λ (e : ℕ × Heading). e.0) next.3 in
      let id : id_in (column next.0 0) ≡ pos entry.0 = ap id_in (read_number deeds (image_read next.0) next.2.0) ∙ ap pos (sym number) in
      ap (λ n. Some n) id ∙ ap (option_map pos) (sym (last_put listed entry))

  pub goes_on : IsWalkTo deeds marked trees listed → IsNextEntry deeds marked (last_number listed) trees entry → IsWalkTo deeds marked trees (listed ++ entry ∷ [])
  goes_on so_far next =
      let row = next.0 in
      record {
        done = so_far.done ++ row ∷ [];
        walked = subst (IsWalked (trees 2) (so_far.done ++ row ∷ [])) (place_put next) (walk_goes_on (trees 2) so_far.done (option_map pos (last_number listed)) row so_far.walked next.1);
        judged = λ other here. elim (has_either so_far.done (row ∷ []) other here) [
          | inl before ↦ so_far.judged other before
          | inr at ↦ elim at [
            | inl is ↦ subst (λ (r : Row). IsJudgedImage deeds marked (image_read r) trees) (sym is) next.2
            | inr none ↦ absurd none
          ]
        ];
        are_entries = ap₂ (λ es e. es ++ e ∷ []) so_far.are_entries next.3 ∙ sym (map-append (λ (r : Row). entry_in marked (image_read r)) so_far.done (row ∷ []));
      }

  -- the rows after the first come next after it
  pub rest_next : (shown : Row) (more : List Row) (next : AreReadNext (last_number listed) trees (shown ∷ more)) → IsJudgedImage deeds marked shown trees → entry ≡ entry_in marked shown → AreReadNext (last_number (listed ++ entry ∷ [])) trees more
  unfolding next_entry
  rest_next shown more next judged are_entries =
      subst (λ place. AreNext image_read (trees 2) place more) (place_put (next_entry deeds marked (last_number listed) trees shown more next judged entry are_entries)) next.3

module _ (deeds marked : List ℕ) (trees : Trees) (listed : List (ℕ × Heading)) (all : IsWalkTo deeds marked trees listed) (none : filter (is_after (option_map pos (last_number listed))) (trees 2) ≡ []) where
  abbrev rows : List Row
  rows = map image_read all.done

  shown_all : IsListed all_images_query (trees 2) rows
  shown_all = all_walked 2 _ (trees 2) all.done (option_map pos (last_number listed)) all.walked none

  within_all : All (IsImageRow deeds) rows
  within_all = All-from_recursion (IsImageRow deeds) rows (all_in (IsImageRow deeds) rows (λ shown here.
      let it = from_map image_read all.done shown here in subst (IsImageRow deeds) (sym it.2) (all.judged it.0 it.1).0))

  pub walked_lawful : LawfulImages deeds trees
  walked_lawful = images_told deeds (trees 2) rows shown_all true within_all

  listed_is : listed ≡ map (entry_in marked) rows
  listed_is = all.are_entries ∙ sym (map_map (entry_in marked) image_read all.done)

  numbers_are : map number_of listed ≡ map (λ row. natural (column row 0)) rows
  numbers_are = ap (map number_of) listed_is ∙ map_map number_of (entry_in marked) rows

  pub walked_all : IsWalk marked trees listed
  walked_all = record {
    numbers = subst (AreKeys (map_of image_spelling (trees 2))) (sym numbers_are) (accession_numbers deeds (trees 2) rows shown_all walked_lawful);
    files = λ acc here.
        let shown = from_map (λ (row : Row). natural (column row 0)) rows acc (subst (λ l. Has l acc) numbers_are here) in
        let it = from_map image_read all.done shown.0 shown.1 in
        let files = (all.judged it.0 it.1).1 in
        subst (λ n. HasFilesOnce (is_among marked n) n trees) (ap (λ (r : Row). natural (column r 0)) (sym it.2) ∙ sym shown.2) files;
    are_entries = listed_is ∙ ap (map (entry_in marked)) (images_listed (trees 2) rows walked_lawful.spells shown_all.picks);
  }

-- ---- what is so in the tables of a desk

-- the numbers of a map are its keys
keys_are : {X : Type 0} (m : FinMap nat_cmp X) → AreKeys m (keys m)
keys_are {X} m n = (
  λ here. let e = from_map (λ (f : ℕ × X). f.0) (entries m) n here in subst (λ (o : Option X). IsSome o) (sym (ap (get m) e.2 ∙ entry_got nat_cmp number_order m e.0.0 e.0.1 e.1)) refl,
  λ some. let x = some_got (get m n) some in in_map (λ (f : ℕ × X). f.0) (entries m) (n, x.0) (got_entry nat_cmp number_order m n x.0 x.1),
)

-- the accessions of all rows of error bytes are those of the map
pub known_marks : (trees : Trees) (rows : List Row) → IsListed all_marks_query (trees 11) rows → IsConsistent trees → AreKeys (map_of marks_spelling (trees 11)) (map (λ row. natural (column row 0)) rows)
known_marks trees rows shown all =
    let images = map_of image_spelling (trees 2) in
    marked_numbers (keys images) (trees 11) rows shown (marks_in trees (keys images) (keys_are images) all)

-- each row of error bytes shows as many as there are blocks, of an accession
pub each_has_error_bytes : (trees : Trees) (rows : List Row) → IsListed all_marks_query (trees 11) rows → IsConsistent trees → All HasErrorBytes rows
each_has_error_bytes trees rows shown all =
    let images = map_of image_spelling (trees 2) in
    All-weaker (IsMarksRow (keys images)) HasErrorBytes of_accession rows (marks_shown_lawful (keys images) (trees 11) rows shown (marks_in trees (keys images) (keys_are images) all))
  where
    scope : (acc : ℕ) → IsSome (get (map_of image_spelling (trees 2)) acc) → IsScope acc
    scope acc some = go (get (map_of image_spelling (trees 2)) acc) refl some
      where
        go : (found : Option ImageRow) → get (map_of image_spelling (trees 2)) acc ≡ found → IsSome (get (map_of image_spelling (trees 2)) acc) → IsScope acc
        go None is some = let none = subst (λ (o : Option ImageRow). IsSome o) is some in absurd cc
        go (Some image) is some = ((common_in trees 2 all).given.1.lawful acc image is).0.scope

    of_accession : (row : Row) → IsMarksRow (keys (map_of image_spelling (trees 2))) row → HasErrorBytes row
    of_accession row is =
        let acc = one_of_spelled (keys (map_of image_spelling (trees 2))) (column row 0) is.acc in
        let within = scope _ ((keys_are (map_of image_spelling (trees 2)) _).0 acc.1) in
        record {
          acc = subst (λ v. is_number 1 999_999 v ≡ true) (sym acc.0) (number_shown 1 999_999 _ within.0 within.1);
          count = is.count;
          kind_of = is.kind_of;
        }

pub filed_second : (trees : Trees) (marked : List ℕ) → AreKeys (map_of marks_spelling (trees 11)) marked → IsConsistent trees → AreFiledOf marked trees
filed_second trees marked those all = (
  λ acc is. all.spelled.marks.spells,
  λ acc some. filed_at marked (acc ∷ []) trees acc (inl refl) (files_in trees (acc ∷ []) marked those all),
)

pub filed_first : (trees : Trees) → IsConsistentAs 1 (unmarked trees) → AreFiledOf [] trees
filed_first trees all = (
  λ acc is. absurd cc,
  λ acc some. filed_at [] (acc ∷ []) trees acc (inl refl) (files_in_first trees (acc ∷ []) all),
)

pub walk_in : (trees : Trees) (deeds marked : List ℕ) → AreKeys (map_of deed_spelling (trees 1)) deeds → LawfulGivenWalk marked trees → LawfulWalk deeds marked trees
walk_in trees deeds marked are all = (images_in trees deeds are all.0, all.1)

-- what a walk found once, is so
walked_files : (marked accessions : List ℕ) (trees : Trees) (listed : List (ℕ × Heading)) → IsWalk marked trees listed → accessions ≡ map number_of listed → Spells image_spelling (trees 2) → ((acc : ℕ) → SpellMarksIf (is_among marked acc) trees) → HaveAccessions trees → HaveFiles marked accessions trees
walked_files marked accessions trees listed walk same images marks numbered acc here = walk.files acc (subst (λ l. Has l acc) same here) images (marks acc) numbered

-- the accessions are those of the images
pub walked_keys : (marked accessions : List ℕ) (trees : Trees) (listed : List (ℕ × Heading)) → IsWalk marked trees listed → accessions ≡ map number_of listed → AreKeys (map_of image_spelling (trees 2)) accessions
walked_keys marked accessions trees listed walk same = subst (AreKeys (map_of image_spelling (trees 2))) (sym same) walk.numbers

-- the numbers that rows show first
abbrev pub firsts : List Row → List ℕ
firsts rows = map (λ row. natural (column row 0)) rows

-- in the tables of version 2
module _ (trees : Trees) (accessions : List ℕ) (listed : List (ℕ × Heading)) (rows : List Row) (shown : IsListed all_marks_query (trees 11) rows) (within : All (IsMarksRow accessions) rows) (walk : IsWalk (firsts rows) trees listed) (same : accessions ≡ map number_of listed) where
  marks : LawfulMarks accessions trees
  marks = marks_told accessions (trees 11) rows shown true within

  those : AreKeys (map_of marks_spelling (trees 11)) (firsts rows)
  those = marked_numbers accessions (trees 11) rows shown marks

  pub register_second : listed ≡ register_of (images_of trees)
  register_second = walk.are_entries ∙ entries_told (trees 2) (map_of marks_spelling (trees 11)) (firsts rows) (one_marked (map_of marks_spelling (trees 11)) (firsts rows) those)

  pub checked_second : HasVersion 2 (trees 0) → LawfulCommon trees → AreFiledUnder accessions trees → AreListed trees → (more : List Table) (db : Database) → db.trees ≡ trees → db.schema ≡ desk_with more → IsDatabase db → IsConsistent trees
  checked_second version common filed files more db is schema sound =
      let are = walked_keys (firsts rows) accessions trees listed walk same in
      let have = walked_files (firsts rows) accessions trees listed walk same common.given.1.spells (λ acc is. marks.spells) (have_accessions accessions trees filed) in
      consistent_second trees accessions (firsts rows) those version common marks (lawful_files (firsts rows) accessions trees are filed have files.0 files.1 more db is schema sound)

-- in those of version 1
module _ (trees : Trees) (accessions : List ℕ) (listed : List (ℕ × Heading)) (walk : IsWalk [] trees listed) (same : accessions ≡ map number_of listed) where
  pub register_first : listed ≡ register_of (images_of (unmarked trees))
  register_first = walk.are_entries ∙ entries_told (trees 2) (map_of marks_spelling []) [] none_marked

  pub checked_first : HasVersion 1 (trees 0) → LawfulCommon trees → AreFiledUnder accessions trees → AreListed trees → (more : List Table) (db : Database) → db.trees ≡ trees → db.schema ≡ desk_with more → IsDatabase db → IsConsistentAs 1 (unmarked trees)
  checked_first version common filed files more db is schema sound =
      let are = walked_keys [] accessions trees listed walk same in
      let have = walked_files [] accessions trees listed walk same common.given.1.spells (λ acc there. absurd cc) (have_accessions accessions trees filed) in
      consistent_first trees accessions version common (lawful_files [] accessions trees are filed have files.0 files.1 more db is schema sound)
