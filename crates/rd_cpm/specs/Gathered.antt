-- The entries of one file, gathered in a list, and what the tests of the list find. An entry is the
-- list of its 32 bytes.
use Rattle.std.specs.Prelude.{◌≡◌, ℕ, ◌+◌, ◌*◌, ◌<◌, ◌⊎◌, List, Bool, false, map, Any, IsTrue, [], length}
use Rattle.std.specs.List.{slice_index_or}
use Rattle.rd_cpm.specs.Entries.{rc_of, pointers_of, pointer_of, extent_number_of}
use Rattle.rd_cpm.specs.Files.{Directory}
use Rattle.rd_cpm.specs.Contents.{AreEntries}

-- The list has each entry of the file of slot k once.
pub record AreGathered (d : Directory) (k : ℕ) (entries : List (List ℕ)) : Type 0 where
  pub slots : List ℕ
  pub of_file : AreEntries d k slots
  pub taken : entries ≡ map d slots

-- an entry of the list holds the extent of a number
abbrev pub HasExtent : List (List ℕ) → ℕ → Type 0
HasExtent entries number = Any (λ entry. extent_number_of entry ≡ number) entries

-- an entry of the list holds an extent of a higher number
abbrev pub HasLater : List (List ℕ) → ℕ → Type 0
HasLater entries number = Any (λ entry. number < extent_number_of entry) entries

-- The entry's extent number is above 0, and no entry of the list has the one before it.
pub record LacksPredecessor (entries : List (List ℕ)) (entry : List ℕ) : Type 0 where
  pub later : 0 < extent_number_of entry
  pub alone : (number : ℕ) → number + 1 ≡ extent_number_of entry → ¬ HasExtent entries number

-- The entry has fewer than 128 records, and an entry of the list has a higher extent number.
pub record EndsEarly (entries : List (List ℕ)) (entry : List ℕ) : Type 0 where
  pub few : rc_of entry < 128
  pub later : HasLater entries (extent_number_of entry)

-- Two entries of the list hold the extent of one number.
pub record AreTwice (entries : List (List ℕ)) : Type 0 where
  pub one : ℕ
  pub other : ℕ
  pub first : one < other
  pub inside : other < length entries
  pub same : extent_number_of (slice_index_or entries one []) ≡ extent_number_of (slice_index_or entries other [])

-- Pointer i of the entry is 0, although the record count reaches its block.
pub record IsHole (entry : List ℕ) (i : ℕ) : Type 0 where
  pub reached : 8 * i < rc_of entry
  pub missing : pointer_of entry i ≡ 0

-- one of the entry's sixteen places passes a test
abbrev pub SomePlace : (ℕ → Type 0) → Type 0
SomePlace P = (i : ℕ) × (i < 16) × P i

-- a pointer of the entry is above the last block
unfoldable pub IsOffDiskIn : List ℕ → Type 0
IsOffDiskIn entry = Any (λ block. 242 < block) (pointers_of entry)

-- The block belongs to the directory or, as the flags say, is claimed twice.
pub record IsSharedBlock (shared : List Bool) (block : ℕ) : Type 0 where
  pub some : 0 < block
  pub taken : (block ≡ 1) ⊎ IsTrue (slice_index_or shared block false)

-- a pointer of the entry names such a block
unfoldable pub IsCrossedIn : List Bool → List ℕ → Type 0
IsCrossedIn shared entry = Any (IsSharedBlock shared) (pointers_of entry)
