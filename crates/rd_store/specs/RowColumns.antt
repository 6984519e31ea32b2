-- Inside: what a row of a table may show, column by column, its rowid first. It shows this exactly where it
-- spells a lawful entry; the rule itself is IsConsistent.
use Rattle.std.specs.Prelude.{◌≡◌, ◌⊎◌, ◌<◌, get_or, option_map, ℕ, pos, negsuc, List, codes, Bool, true, false, not, ◌&&◌, ◌||◌, ◌==◌, nat_le, int_lt, length}
use Rattle.std.specs.List.{list_any}
use Rattle.sqlite.specs.declared.types.Value.{Value}
use Rattle.sqlite.specs.declared.types.Value.TheVariants.{Null, Int, Text, Blob}
use Rattle.sqlite.specs.Order.{Row, column}
use Rattle.sqlite_rules.specs.Edit.{id_in}
use Rattle.sqlite_trees.specs.View.{is_int}
use Rattle.rd_policy.specs.Rules.{IsPlainText}
use Rattle.rd_policy.specs.declared.limits.TheConstants.{LAST_RANK, LAST_SCOPE, LAST_SLOT}
use Rattle.sqlite.specs.Values.{or_null}
use Rattle.rd_volume.specs.declared.found.Found.{Found}
use Rattle.rd_store.specs.Codes.{class_code, units_code}
use Rattle.rd_holdings.specs.Lawful.{IsDonor}

-- ---- one column

-- a number between two others, or one of them
abbrev pub is_number : ℕ → ℕ → Value → Bool
is_number low high (Int (pos n)) = nat_le low n && nat_le n high
is_number low high _ = false

-- one of these numbers
abbrev pub is_one_of : List ℕ → Value → Bool
is_one_of numbers value = list_any (λ one. is_number one one value) numbers

-- a day from 0001-01-01 to 9999-12-31
abbrev pub is_day : Value → Bool
is_day (Int day) = not (int_lt day (negsuc 719_161)) && not (int_lt (pos 2_932_896) day)
is_day _ = false

-- such a day, or NULL for none
abbrev pub is_some_day : Value → Bool
is_some_day Null = true
is_some_day value = is_day value

-- 32 bytes, the length of a SHA-256 (FIPS 180-4)
abbrev pub is_digest : Value → Bool
is_digest (Blob bytes) = length bytes == 32
is_digest _ = false

-- a text that is a donor's name
abbrev pub IsDonorAt : Value → Type 0
IsDonorAt (Text text) = IsDonor text
IsDonorAt _ = ⊥

-- a text of at most so many bytes, each a printable character of ASCII or a blank
abbrev pub IsWordAt : ℕ → Value → Type 0
IsWordAt most (Text text) = IsPlainText most text
IsWordAt most _ = ⊥

-- ---- one row

-- the first column is a number, and that of the next row is one above it
abbrev pub comes_before : Row → Row → Bool
comes_before row next = is_int (column row 0) && (is_int (column next 0) && int_lt (id_in (column row 0)) (id_in (column next 0)))

-- The row shows a deed: its number, its donor, and the day on which it was signed.
pub record IsDeedRow (row : Row) : Type 0 where
  pub num : is_number 1 LAST_SCOPE (column row 0) ≡ true
  pub donor : IsDonorAt (column row 1)
  pub signed : is_day (column row 2) ≡ true

-- the length that the bytes of an image of this kind have
abbrev pub is_size_of : Value → Value → Bool
is_size_of kind size = (is_number 0 0 kind && is_number 256_256 256_256 size) || (is_number 1 1 kind && is_number 174_848 174_848 size)

-- the name of the type of an image's bytes
abbrev pub blob_name : List ℕ
blob_name = codes "blob"

-- of the bytes of an image the row shows the length and the type
pub record IsImageRow (deeds : List ℕ) (row : Row) : Type 0 where
  pub acc : is_number 1 LAST_SCOPE (column row 0) ≡ true
  pub deed : is_one_of deeds (column row 2) ≡ true
  pub digest : is_digest (column row 3) ≡ true
  pub size : is_size_of (column row 1) (column row 4) ≡ true
  pub kind_of : column row 5 ≡ Text blob_name

-- The row shows that an accession, whichever it is, has error bytes, one for each block.
pub record HasErrorBytes (row : Row) : Type 0 where
  pub acc : is_number 1 LAST_SCOPE (column row 0) ≡ true
  pub count : is_number 683 683 (column row 1) ≡ true
  pub kind_of : column row 2 ≡ Text blob_name

-- Of the error bytes of an accession the row shows the count and the type.
pub record IsMarksRow (accessions : List ℕ) (row : Row) : Type 0 where
  pub acc : is_one_of accessions (column row 0) ≡ true
  pub count : is_number 683 683 (column row 1) ≡ true
  pub kind_of : column row 2 ≡ Text blob_name

-- a takedown of an accession denies or lists, and a rule of a deed may also let read
abbrev pub is_band : List ℕ → List ℕ → Value → Value → Value → Bool
is_band accessions deeds band scope effect = (is_number 0 0 band && is_one_of accessions scope && is_number 0 1 effect) || (is_number 1 1 band && is_one_of deeds scope && is_number 0 2 effect)

-- a selector of one sort, with a number up to a limit and a word up to a length
abbrev pub HasParts : ℕ → ℕ → ℕ → Value → Value → Value → Type 0
HasParts sort most longest how number word = (is_number sort sort how ≡ true) × (is_number 0 most number ≡ true) × IsWordAt longest word

-- all files, a slot to 9,999, a prefix to 64 bytes, a user to 15, a type to 16 bytes
abbrev pub IsSelectAt : Value → Value → Value → Type 0
IsSelectAt how number word = HasParts 0 0 0 how number word ⊎ (HasParts 1 LAST_SLOT 0 how number word ⊎ (HasParts 2 0 64 how number word ⊎ (HasParts 3 15 0 how number word ⊎ HasParts 4 0 16 how number word)))

-- The row shows, after its rowid, a rule about one of these accessions or deeds.
pub record IsRuleRow (accessions deeds : List ℕ) (row : Row) : Type 0 where
  pub band : is_band accessions deeds (column row 1) (column row 2) (column row 10) ≡ true
  pub scope : is_number 1 LAST_SCOPE (column row 2) ≡ true
  pub rank : is_number 1 LAST_RANK (column row 3) ≡ true
  pub audiences : is_number 1 7 (column row 4) ≡ true
  pub from : is_some_day (column row 5) ≡ true
  pub until : is_some_day (column row 6) ≡ true
  pub select : IsSelectAt (column row 7) (column row 8) (column row 9)

-- The row shows, after its rowid, a desk key for the room or the staff.
pub record IsKeyRow (row : Row) : Type 0 where
  pub digest : is_digest (column row 1) ≡ true
  pub audience : is_number 1 2 (column row 2) ≡ true

-- The row shows, after its rowid, a check of one of these accessions: its day and its outcome.
pub record IsCheckRow (accessions : List ℕ) (row : Row) : Type 0 where
  pub acc : is_one_of accessions (column row 1) ≡ true
  pub day : is_day (column row 2) ≡ true
  pub outcome : is_number 0 1 (column row 3) ≡ true

-- the row is for one of the accessions
abbrev pub IsFiledRow : List ℕ → Row → Type 0
IsFiledRow accessions row = is_one_of accessions (column row 1) ≡ true

-- The row shows where a file stands and what it is called.
pub record IsNameRow (file : Found) (row : Row) : Type 0 where
  pub slot : column row 0 ≡ Int (pos file.slot)
  pub name : column row 1 ≡ Text file.name
  pub type : column row 2 ≡ Text file.ty
  pub user : column row 3 ≡ or_null Int (option_map pos file.user)

-- The row shows whether a file is served, its size, its faults, its units and the length of the last one.
pub record IsContentsRow (file : Found) (row : Row) : Type 0 where
  pub class : column row 4 ≡ Int (pos (class_code file.served_class))
  pub size : column row 5 ≡ or_null Int (option_map pos file.size)
  pub faults : column row 6 ≡ Int (pos file.faults)
  pub units : column row 7 ≡ Blob (units_code file.units)
  pub last : column row 8 ≡ Int (pos file.last_len)

-- the row shows a file
abbrev pub IsFileRow : Found → Row → Type 0
IsFileRow file row = IsNameRow file row × IsContentsRow file row

-- the rows show the files, one by one
abbrev pub ShowFiles : List Found → List Row → Type 0
ShowFiles files rows = (length rows ≡ length files) × ((k : ℕ) (file : Found) (row : Row) → k < length files → IsFileRow (get_or files k file) (get_or rows k row))

-- the row shows a staff key
abbrev pub IsStaffRow : Row → Type 0
IsStaffRow row = is_number 2 2 (column row 2) ≡ true
