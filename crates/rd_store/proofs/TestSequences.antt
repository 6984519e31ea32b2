-- One test of tables after another.
use Rattle.rd_store.proofs.Common.{◌≡◌, inl, inr, ℕ, pos, List, [], ◌++◌, length, length-append, true, false, Option, Some, None, IsSome, option_map, refl, sym, ap, subst, ◌∙◌, arith, nat_cmp, true≢false, unwrap_or, FinMap, get, get-from_entries, cases_Bool, Int, Trees, Row, CBM_BLOCKS, size_of, D64, D64e, Spelling, Spells, SpellLawful, map_of, Band, Takedown, Deed, OpenFault, NotADesk, Inconsistent, ImageRow, Stands, IsFileIn, IsIndexOf, IsImage, AreMarksIn, joined, with_marks, IsConsistent, IsConsistentAs, Denied, HasDisk, AreKeys, AreNumbers, StandsAmong, StandsIn, IsImageOf, LawfulCommon, LawfulDeeds, LawfulFiles, LawfulImages, LawfulGiven, LawfulMarks, LawfulOthers, image_among, is_among, marks_if, HasVersion, desk_of, images_of, index_of, unmarked, deed_spelling, image_spelling, marks_spelling, file_spelling}
use Rattle.std.specs.List.{IsDistinct}
use Rattle.rd_store.specs.declared.faults.OpenFault.TheVariants.{Version, Sql}
use Rattle.rd_store.proofs.ColumnValues.{one_of_spelled, one_of_shown}
use Rattle.rd_store.proofs.IndexTests.{joined_stands, stands_joined}
use Rattle.rd_store.proofs.MarkedImages.{get_joined}
use Rattle.rd_store.proofs.Orders.{number_order}

-- what a test refuses, a wider one refuses
pub denied_part : (P Q : Type 0) (fault : OpenFault) → (Q → P) → Denied P fault → Denied Q fault
denied_part P Q NotADesk part denied = denied
denied_part P Q Version part denied = denied
denied_part P Q Inconsistent part denied = λ q. denied (part q)
denied_part P Q Sql part denied = tt

lawful_as : {K X : Type 0} (spelling : Spelling K X) (P Q : K × X → Type 0) (rows : List Row) → ((e : K × X) → P e → Q e) → SpellLawful spelling P rows → SpellLawful spelling Q rows
lawful_as spelling P Q rows weaker all = record { spells = all.spells; lawful = λ key value is. weaker (key, value) (all.lawful key value is) }

module _ (trees : Trees) (deeds : List ℕ) (are : AreKeys (map_of deed_spelling (trees 1)) deeds) where
  pub given : LawfulDeeds trees → LawfulImages deeds trees → LawfulGiven trees
  given lawful images = (lawful, lawful_as image_spelling (IsImageOf deeds) (λ e. IsImage e.0 e.1 × IsSome (get (map_of deed_spelling (trees 1)) e.1.deed)) (trees 2) (λ e both. (both.0, (are e.1.deed).0 both.1)) images)

  pub images_in : LawfulGiven trees → LawfulImages deeds trees
  images_in all = lawful_as image_spelling (λ e. IsImage e.0 e.1 × IsSome (get (map_of deed_spelling (trees 1)) e.1.deed)) (IsImageOf deeds) (trees 2) (λ e both. (both.0, (are e.1.deed).1 both.1)) all.1

module _ (trees : Trees) (deeds accessions : List ℕ) (are : AreNumbers trees deeds accessions) where
  stands_among : (band : Band) (scope : ℕ) → StandsIn trees band scope → StandsAmong accessions deeds band scope
  stands_among Takedown scope stands = (are.1 scope).1 stands
  stands_among Deed scope stands = (are.0 scope).1 stands

  among_stands : (band : Band) (scope : ℕ) → StandsAmong accessions deeds band scope → StandsIn trees band scope
  among_stands Takedown scope here = (are.1 scope).0 here
  among_stands Deed scope here = (are.0 scope).0 here

  pub others_in : LawfulCommon trees → LawfulOthers accessions deeds trees
  others_in all = (
    record { spells = all.rules.spells; lawful = λ place terms is. let it = all.rules.lawful place terms is in (it.0, stands_among place.band place.scope it.1) },
    all.keys,
    record { spells = all.checks.spells; lawful = λ checkup outcome is. let it = all.checks.lawful checkup outcome is in (it.0, (are.1 checkup.acc).1 it.1) },
  )

  pub common : LawfulGiven trees → LawfulOthers accessions deeds trees → LawfulCommon trees
  common first others = record {
    given = first;
    rules = record { spells = others.0.spells; lawful = λ place terms is. let it = others.0.lawful place terms is in (it.0, among_stands place.band place.scope it.1) };
    keys = others.1;
    checks = record { spells = others.2.spells; lawful = λ checkup outcome is. let it = others.2.lawful checkup outcome is in (it.0, (are.1 checkup.acc).0 it.1) };
  }

-- ---- images and their error bytes

module _ (trees : Trees) where
  abbrev images : FinMap nat_cmp ImageRow
  images = map_of image_spelling (trees 2)

  abbrev marks : FinMap nat_cmp (List ℕ)
  marks = map_of marks_spelling (trees 11)

  abbrev AreGiven : ℕ → ImageRow → Type 0
  AreGiven acc image = IsImage acc image × IsSome (get (map_of deed_spelling (trees 1)) image.deed)

  -- a lawful image with error bytes is one of blocks with one for each
  without : (acc : ℕ) (image : ImageRow) (bytes : List ℕ) → length bytes ≡ CBM_BLOCKS → image.kind ≡ D64 → AreGiven acc (with_marks (Some bytes) image) → AreGiven acc image
  without acc image bytes count kind (is, deed) =
      let all : length (image.bytes ++ bytes) ≡ size_of D64e = is.bytes in
      let blocks : length image.bytes ≡ size_of D64 = omega (arith, all, count, length-append image.bytes bytes) in
      (record { scope = is.scope; digest = is.digest; bytes = subst (λ k. length image.bytes ≡ size_of k) (sym kind) blocks }, deed)

  with_both : (acc : ℕ) (image : ImageRow) (bytes : List ℕ) → length bytes ≡ CBM_BLOCKS → image.kind ≡ D64 → AreGiven acc image → AreGiven acc (with_marks (Some bytes) image)
  with_both acc image bytes count kind (is, deed) =
      let blocks : length image.bytes ≡ size_of D64 = subst (λ k. length image.bytes ≡ size_of k) kind is.bytes in
      let all : length (image.bytes ++ bytes) ≡ size_of D64e = omega (arith, blocks, count, length-append image.bytes bytes) in
      (record { scope = is.scope; digest = is.digest; bytes = all }, deed)

  abbrev AreMarked : Type 0
  AreMarked = SpellLawful marks_spelling (AreMarksIn images) (trees 11)

  kind_at : AreMarked → (acc : ℕ) (image : ImageRow) (bytes : List ℕ) → get images acc ≡ Some image → get marks acc ≡ Some bytes → (length bytes ≡ CBM_BLOCKS) × (image.kind ≡ D64)
  kind_at are acc image bytes stands found =
      let it = are.lawful acc bytes found in
      (it.count, ap (λ (o : Option ImageRow). (unwrap_or o image).kind) (sym stands ∙ it.stands) ∙ it.kind)

  -- the rows of lawful images are those of lawful images without error bytes
  row_lawful : AreMarked → ((acc : ℕ) (image : ImageRow) → get (images_of trees) acc ≡ Some image → AreGiven acc image) → (acc : ℕ) (image : ImageRow) → get images acc ≡ Some image → AreGiven acc image
  row_lawful are lawful acc image stands = go (get marks acc) refl (lawful acc (with_marks (get marks acc) image) (get_joined images marks acc ∙ ap (option_map (with_marks (get marks acc))) stands))
    where
      go : (found : Option (List ℕ)) → get marks acc ≡ found → AreGiven acc (with_marks found image) → AreGiven acc image
      go None is it = it
      go (Some bytes) is it = let at = kind_at are acc image bytes stands is in without acc image bytes at.0 at.1 it

  image_lawful : AreMarked → ((acc : ℕ) (image : ImageRow) → get images acc ≡ Some image → AreGiven acc image) → (acc : ℕ) (image : ImageRow) → get (images_of trees) acc ≡ Some image → AreGiven acc image
  image_lawful are lawful acc image found = go (get images acc) refl (get marks acc) refl (sym (get_joined images marks acc) ∙ found)
    where
      go : (row : Option ImageRow) → get images acc ≡ row → (m : Option (List ℕ)) → get marks acc ≡ m → option_map (with_marks m) row ≡ Some image → AreGiven acc image
      go None stands m is both = absurd cc
      go (Some row) stands None is both = subst (AreGiven acc) (ap (λ (o : Option ImageRow). unwrap_or o image) both) (lawful acc row stands)
      go (Some row) stands (Some bytes) is both =
          let at = kind_at are acc row bytes stands is in
          subst (AreGiven acc) (ap (λ (o : Option ImageRow). unwrap_or o image) both) (with_both acc row bytes at.0 at.1 (lawful acc row stands))

  -- what stands, stands with error bytes or without them
  stands_row : (band : Band) (scope : ℕ) → Stands (desk_of trees) band scope → StandsIn trees band scope
  stands_row Takedown scope stands = joined_stands _ (get images scope) (subst IsSome (get_joined images marks scope) stands)
  stands_row Deed scope stands = stands

  row_stands : (band : Band) (scope : ℕ) → StandsIn trees band scope → Stands (desk_of trees) band scope
  row_stands Takedown scope stands = subst IsSome (sym (get_joined images marks scope)) (stands_joined _ (get images scope) stands)
  row_stands Deed scope stands = stands

  pub common_in : (number : ℕ) → IsConsistentAs number trees → LawfulCommon trees
  common_in number all = record {
    given = (record { spells = all.spelled.deeds; lawful = all.lawful.deeds }, record { spells = all.spelled.images; lawful = row_lawful all.spelled.marks all.lawful.images });
    rules = record { spells = all.spelled.rules; lawful = λ place terms is. let it = all.lawful.rules place terms is in (it.0, stands_row place.band place.scope it.1) };
    keys = (record { spells = all.spelled.keys; lawful = all.lawful.keys }, all.lawful.staff);
    checks = record { spells = all.spelled.checks; lawful = λ checkup outcome is. let it = all.lawful.checks checkup outcome is in (it.0, stands_row Takedown checkup.acc it.1) };
  }

  consistent : (number : ℕ) → HasVersion number (trees 0) → LawfulCommon trees → AreMarked → Spells file_spelling (trees 9) → IsIndexOf (images_of trees) (index_of trees) → IsConsistentAs number trees
  consistent number version all are files index = record {
    spelled = record { version = version; deeds = all.given.0.spells; images = all.given.1.spells; rules = all.rules.spells; keys = all.keys.0.spells; checks = all.checks.spells; files = files; marks = are };
    lawful = record {
      deeds = all.given.0.lawful;
      images = image_lawful are all.given.1.lawful;
      rules = λ place terms is. let it = all.rules.lawful place terms is in (it.0, row_stands place.band place.scope it.1);
      keys = all.keys.0.lawful;
      staff = all.keys.1;
      checks = λ checkup outcome is. let it = all.checks.lawful checkup outcome is in (it.0, row_stands Takedown checkup.acc it.1);
    };
    index = index;
  }

  -- an image of the desk is one that the check of the index walks
  images_as : (marked : List ℕ) (given : FinMap nat_cmp (List ℕ)) → ((acc : ℕ) → get given acc ≡ marks_if (is_among marked acc) (get marks acc)) → (acc : ℕ) → get (joined images given) acc ≡ image_among marked trees acc
  images_as marked given same acc = get_joined images given acc ∙ ap (λ m. option_map (with_marks m) (get images acc)) (same acc)

  -- ---- in the tables of version 2

  pub marks_in : (accessions : List ℕ) → AreKeys images accessions → IsConsistent trees → LawfulMarks accessions trees
  marks_in accessions are all = record {
    spells = all.spelled.marks.spells;
    lawful = λ acc bytes found. let it = all.spelled.marks.lawful acc bytes found in (it.count, (are acc).1 (subst IsSome (sym it.stands) refl));
  }

  module _ (accessions marked : List ℕ) (those : AreKeys marks marked) where
    among : (acc : ℕ) (bytes : List ℕ) → get marks acc ≡ Some bytes → is_among marked acc ≡ true
    among acc bytes found = one_of_shown marked acc ((those acc).1 (subst IsSome (sym found) refl))

    marks_same : (acc : ℕ) → get marks acc ≡ marks_if (is_among marked acc) (get marks acc)
    marks_same acc = elim (cases_Bool (is_among marked acc)) [
      | inl here ↦ rw here refl
      | inr apart ↦ rw apart (none (get marks acc) refl apart)
    ]
      where
        none : (found : Option (List ℕ)) → get marks acc ≡ found → is_among marked acc ≡ false → get marks acc ≡ None
        none None is apart = is
        none (Some bytes) is apart = absurd (true≢false (sym (among acc bytes is) ∙ apart))

    pub files_in : IsConsistent trees → LawfulFiles marked accessions trees
    files_in all = record {
      spells = all.spelled.files;
      disks = λ acc here is. disk acc (get marks acc) refl ((those acc).0 (one_of_spelled marked (Int (pos acc)) is).1);
      index = λ acc slot. subst (λ image. IsFileIn image slot (get (index_of trees) (record { acc = acc; slot = slot }))) (images_as marked marks marks_same acc) (all.index acc slot);
    }
      where
        disk : (acc : ℕ) (found : Option (List ℕ)) → get marks acc ≡ found → IsSome (get marks acc) → HasDisk acc trees
        disk acc None is some = absurd (let wrong : IsSome {T = List ℕ} None = subst (λ (o : Option (List ℕ)). IsSome o) is some in cc)
        disk acc (Some bytes) is some = let it = all.spelled.marks.lawful acc bytes is in record { image = it.image; stands = it.stands; kind = it.kind }

    pub consistent_second : HasVersion 2 (trees 0) → LawfulCommon trees → LawfulMarks accessions trees → LawfulFiles marked accessions trees → IsConsistent trees
    consistent_second version all lawful files = consistent 2 version all
        (record {
          spells = lawful.spells;
          lawful = λ acc bytes found.
              let of = lawful.lawful acc bytes found in
              let it = files.disks acc of.1 (among acc bytes found) in
              record { count = of.0; image = it.image; stands = it.stands; kind = it.kind };
        })
        files.spells
        (λ acc slot. subst (λ image. IsFileIn image slot (get (index_of trees) (record { acc = acc; slot = slot }))) (sym (images_as marked marks marks_same acc)) (files.index acc slot))

-- ---- in the tables of version 1, which tell no error bytes

module _ (trees : Trees) where
  stands_there : (band : Band) (scope : ℕ) → StandsIn (unmarked trees) band scope → StandsIn trees band scope
  stands_there Takedown scope stands = stands
  stands_there Deed scope stands = stands

  stands_unmarked : (band : Band) (scope : ℕ) → StandsIn trees band scope → StandsIn (unmarked trees) band scope
  stands_unmarked Takedown scope stands = stands
  stands_unmarked Deed scope stands = stands

  pub common_in_first : IsConsistentAs 1 (unmarked trees) → LawfulCommon trees
  common_in_first consistent_tables =
      let all = common_in (unmarked trees) 1 consistent_tables in
      record { given = all.given; rules = record { spells = all.rules.spells; lawful = λ place terms is. let it = all.rules.lawful place terms is in (it.0, stands_there place.band place.scope it.1) }; keys = all.keys; checks = all.checks }

  common_unmarked : LawfulCommon trees → LawfulCommon (unmarked trees)
  common_unmarked all =
      record { given = all.given; rules = record { spells = all.rules.spells; lawful = λ place terms is. let it = all.rules.lawful place terms is in (it.0, stands_unmarked place.band place.scope it.1) }; keys = all.keys; checks = all.checks }

module _ (trees : Trees) (accessions : List ℕ) where
  no_marks : (acc : ℕ) → get (map_of marks_spelling []) acc ≡ None
  no_marks acc = get-from_entries number_order.total [] acc

  pub files_in_first : IsConsistentAs 1 (unmarked trees) → LawfulFiles [] accessions trees
  files_in_first all = record {
    spells = all.spelled.files;
    disks = λ acc here is. absurd (true≢false (sym is));
    index = λ acc slot. subst (λ image. IsFileIn image slot (get (index_of trees) (record { acc = acc; slot = slot }))) (images_as trees [] (map_of marks_spelling []) no_marks acc) (all.index acc slot);
  }

  pub consistent_first : HasVersion 1 (trees 0) → LawfulCommon trees → LawfulFiles [] accessions trees → IsConsistentAs 1 (unmarked trees)
  unfolding IsDistinct
  consistent_first version all files = consistent (unmarked trees) 1 version (common_unmarked trees all) (record { spells = none_spell marks_spelling; lawful = λ acc bytes found. let wrong : None ≡ Some bytes = sym (no_marks acc) ∙ found in absurd cc }) files.spells
      (λ acc slot. subst (λ image. IsFileIn image slot (get (index_of trees) (record { acc = acc; slot = slot }))) (sym (images_as trees [] (map_of marks_spelling []) no_marks acc)) (files.index acc slot))
    where
      none_spell : {K X : Type 0} (spelling : Spelling K X) → Spells spelling []
      none_spell spelling = record { spelled = tt; apart = tt }
