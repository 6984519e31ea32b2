-- Inside: what a walk over the images finds, each judged and walked from one reading of its row.
use Rattle.std.specs.Prelude.{◌≡◌, ℕ, ◌-◌, pos, List, [], ◌∷◌, map, filter, length, slice_get, Bool, Option, Some, None, IsSome, option_map, IsTrue}
use Rattle.std.specs.FinMap.{entries, get}
use Rattle.sqlite.specs.declared.types.Value.TheVariants.{Int, Blob}
use Rattle.sqlite.specs.Order.{Row, column}
use Rattle.sqlite.specs.Tree.{Trees}
use Rattle.sqlite_rules.specs.Lists.{Has}
use Rattle.sqlite_sql.specs.Ops.{unary}
use Rattle.sqlite_sql.specs.declared.ops.UnaryOp.TheVariants.{Length, TypeOf}
use Rattle.rd_tables.specs.Asked.{IsStart}
use Rattle.rd_tables.specs.Queries.{all_images_query, later_images_query}
use Rattle.rd_tables.specs.Spellings.{Spells, map_of, natural}
use Rattle.rd_tables.specs.Walks.{AreNext, IsWalked, is_after}
use Rattle.rd_store.specs.declared.images.Heading.{Heading}
use Rattle.rd_holdings.specs.declared.rows.ImageRow.{ImageRow}
use Rattle.rd_store.specs.RowColumns.{IsImageRow}
use Rattle.rd_store.specs.Codes.{kind_code}
use Rattle.rd_store.specs.Opened.{AreKeys, HasDiskIf, HasFiles, HaveAccessions, IsFiledAt, LawfulCommon, LawfulGiven, LawfulImages, image_if, is_among}
use Rattle.rd_store.specs.Register.{entry_in, number_of}
use Rattle.rd_store.specs.Spelled.{image_spelling, marks_spelling}

-- ---- what is read

-- what is read of the row of an image: of its bytes the length and the type, and then themselves
abbrev pub image_read : Row → Row
image_read row = column row 0 ∷ column row 2 ∷ column row 3 ∷ column row 4 ∷ unary Length (column row 5) ∷ unary TypeOf (column row 5) ∷ column row 5 ∷ []

-- the same of the image that the row spells
abbrev pub image_columns : ℕ × ImageRow → Row
image_columns e = Int (pos e.0) ∷ Int (pos (kind_code e.1.kind)) ∷ Int (pos e.1.deed) ∷ Blob e.1.digest ∷ unary Length (Blob e.1.bytes) ∷ unary TypeOf (Blob e.1.bytes) ∷ Blob e.1.bytes ∷ []

-- this was read of the row of an image
abbrev pub IsReadOf : Trees → Row → Type 0
IsReadOf trees shown = (row : Row) × Has (trees 2) row × (shown ≡ image_read row)

-- the first rows after an accession, or of all: eight at most, as the texts of Queries say; `next_images` gives at
-- most seven of them
abbrev pub AreNextOf : Option ℕ → Trees → List Row → Type 0
AreNextOf None trees rows = IsStart all_images_query 8 [] (trees 2) rows
AreNextOf (Some acc) trees rows = IsStart later_images_query 8 (Int (pos acc) ∷ []) (trees 2) rows

-- these were read of the rows that come next after an accession, or first, one after the other
abbrev pub AreReadNext : Option ℕ → Trees → List Row → Type 0
AreReadNext after trees rows = AreNext image_read (trees 2) (option_map pos after) rows

-- these rows come next after an accession, or first; they are none only where no row stands after it, or none at all
abbrev pub AreBatchOf : Option ℕ → Trees → List Row → Type 0
AreBatchOf after trees rows = AreReadNext after trees rows × (rows ≡ [] → filter (is_after (option_map pos after)) (trees 2) ≡ [])

-- ---- one image

-- A walk knows the rows so far alone. What it finds of an image holds once the rows of all images spell a map, and
-- those of all error bytes, where it has any.
abbrev pub SpellMarksIf : Bool → Trees → Type 0
SpellMarksIf is_marked trees = IsTrue is_marked → Spells marks_spelling (trees 11)

-- its row stands at the accession
abbrev pub StandsOnce : ℕ → ImageRow → Trees → Type 0
StandsOnce acc row trees = Spells image_spelling (trees 2) → get (map_of image_spelling (trees 2)) acc ≡ Some row

-- it is this
abbrev pub IsImageOnce : Bool → ℕ → ImageRow → Trees → Type 0
IsImageOnce is_marked acc image trees = Spells image_spelling (trees 2) → SpellMarksIf is_marked trees → image_if is_marked trees acc ≡ Some image

-- it is a D64, where it has error bytes
abbrev pub HasDiskOnce : Bool → ℕ → Trees → Type 0
HasDiskOnce is_marked acc trees = Spells image_spelling (trees 2) → HasDiskIf is_marked acc trees

-- the rows of the images spell a map, and the image at the accession is a D64 if it has error bytes
abbrev pub IsLawfulDisk : Bool → ℕ → Trees → Type 0
IsLawfulDisk is_marked acc trees = Spells image_spelling (trees 2) × HasDiskIf is_marked acc trees

-- once the rows of images spell a map, those of error bytes too if the image has any, and each row of the index has
-- the number of an accession, the index has the files of the image at this accession
abbrev pub HasFilesOnce : Bool → ℕ → Trees → Type 0
HasFilesOnce is_marked acc trees = Spells image_spelling (trees 2) → SpellMarksIf is_marked trees → HaveAccessions trees → HasFiles is_marked acc trees

-- all that is so in the tables of a desk
abbrev pub IsLawfulAt : Bool → ℕ → Trees → Type 0
IsLawfulAt is_marked acc trees = Spells image_spelling (trees 2) × SpellMarksIf is_marked trees × IsFiledAt is_marked acc trees

-- the row is within its limits, and the index has the files
abbrev pub IsJudgedImage : List ℕ → List ℕ → Row → Trees → Type 0
IsJudgedImage deeds marked shown trees = IsImageRow deeds shown × HasFilesOnce (is_among marked (natural (column shown 0))) (natural (column shown 0)) trees

-- ---- all images

-- the rows of error bytes spell a map, and the index is that of the images, of which these have error bytes
abbrev pub AreFiledOf : List ℕ → Trees → Type 0
AreFiledOf marked trees = ((acc : ℕ) → SpellMarksIf (is_among marked acc) trees) × ((acc : ℕ) → IsSome (get (map_of image_spelling (trees 2)) acc) → IsFiledAt (is_among marked acc) acc trees)

-- the images, of these deeds, are those of a desk, and the index is theirs
abbrev pub LawfulWalk : List ℕ → List ℕ → Trees → Type 0
LawfulWalk deeds marked trees = LawfulImages deeds trees × AreFiledOf marked trees

-- the deeds and the images are those of a desk, and the index is that of the images
abbrev pub LawfulGivenWalk : List ℕ → Trees → Type 0
LawfulGivenWalk marked trees = LawfulGiven trees × AreFiledOf marked trees

-- the rows of all tables that each version has are those of a desk, and the index is that of the images
abbrev pub LawfulCommonWalk : List ℕ → Trees → Type 0
LawfulCommonWalk marked trees = LawfulCommon trees × AreFiledOf marked trees

-- the accession of the last of these entries
abbrev pub last_number : List (ℕ × Heading) → Option ℕ
last_number listed = option_map number_of (slice_get listed (length listed - 1))

-- These are the entries of the images up to the last of them, all of which were judged.
pub record IsWalkTo (deeds marked : List ℕ) (trees : Trees) (listed : List (ℕ × Heading)) : Type 0 where
  pub done : List Row
  pub walked : IsWalked (trees 2) done (option_map pos (last_number listed))
  pub judged : (row : Row) → Has done row → IsJudgedImage deeds marked (image_read row) trees
  pub are_entries : listed ≡ map (λ row. entry_in marked (image_read row)) done

-- These are the entries of all images, and the index has the files of each.
pub record IsWalk (marked : List ℕ) (trees : Trees) (listed : List (ℕ × Heading)) : Type 0 where
  pub numbers : AreKeys (map_of image_spelling (trees 2)) (map number_of listed)
  pub files : (acc : ℕ) → Has (map number_of listed) acc → HasFilesOnce (is_among marked acc) acc trees
  pub are_entries : listed ≡ map (entry_in marked) (map image_columns (entries (map_of image_spelling (trees 2))))
