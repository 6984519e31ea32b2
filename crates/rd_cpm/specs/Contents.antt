-- The contents of a sound file: the logical sectors that its entries name, in the order of its
-- records, and their bytes.
use Rattle.std.specs.Prelude.{◌≡◌, ◌≢◌, ℕ, ◌+◌, ◌*◌, ◌/◌, ◌%◌, ◌<◌, ◌↔◌, List, length, slice_index, Contains, AllPairs, flat_map, sum_by}
use Rattle.rd_geometry.specs.Places.{cpm_unit}
use Rattle.rd_cpm.specs.Entries.{rc_of, pointer_of, extent_number_of}
use Rattle.rd_cpm.specs.Files.{Directory, IsEntryOf}

-- Sector u is record r, counted from 0, of the file of slot k. An extent has 128 records and a block
-- eight: the record is in the block b that pointer (r mod 128) / 8 names in the entry with extent
-- number r / 128, and b begins at logical sector 8 · b.
pub record IsRecord (d : Directory) (k r u : ℕ) : Type 0 where
  pub entry : ℕ
  pub of_file : IsEntryOf d k entry
  pub extent : extent_number_of (d entry) ≡ r / 128
  pub sector : u ≡ 8 * pointer_of (d entry) ((r % 128) / 8) + r % 8

-- The slots are those of the entries of the file of slot k, each once.
pub record AreEntries (d : Directory) (k : ℕ) (slots : List ℕ) : Type 0 where
  pub each : (j : ℕ) → Contains slots j ↔ IsEntryOf d k j
  pub once : AllPairs (λ i j. i ≢ j) slots

-- The sectors of the file of slot k, where it is sound: as many as the record counts of its entries add
-- up to, and item r of the list is record r.
pub record AreSectors (d : Directory) (k : ℕ) (sectors : List ℕ) : Type 0 where
  pub entries : List ℕ
  pub of_file : AreEntries d k entries
  pub count : length sectors ≡ sum_by (λ j. rc_of (d j)) entries
  pub each : (r : ℕ) → r < length sectors → IsRecord d k r (slice_index sectors r)

-- the bytes of sectors of an image, one after another
abbrev pub bytes_of_sectors : List ℕ → List ℕ → List ℕ
bytes_of_sectors image sectors = flat_map (cpm_unit image) sectors
