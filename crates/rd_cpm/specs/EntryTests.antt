-- What the tests of a file's gathered entries say of it.
use Rattle.std.specs.Prelude.{◌≡◌, ◌≢◌, ℕ, ◌+◌, ◌*◌, ◌/◌, ◌%◌, ◌<◌, ◌↔◌, List, [], Bool, Any, All, Contains, IsBitSet, length, slice_index, sum_by}
use Rattle.rd_geometry.specs.Places.{CPM_UNITS}
use Rattle.rd_cpm.specs.Entries.{rc_of, pointer_of, extent_number_of}
use Rattle.rd_cpm.specs.Gathered.{LacksPredecessor, EndsEarly, AreTwice, IsHole, SomePlace, IsOffDiskIn, IsCrossedIn}

-- The number has a bit for each test that some entry passes.
pub record AreFaultBits (shared : List Bool) (entries : List (List ℕ)) (faults : ℕ) : Type 0 where
  pub bad_count : IsBitSet faults 0 ↔ Any (λ entry. 128 < rc_of entry) entries
  pub duplicate : IsBitSet faults 1 ↔ AreTwice entries
  pub gap : IsBitSet faults 2 ↔ Any (LacksPredecessor entries) entries
  pub short : IsBitSet faults 3 ↔ Any (EndsEarly entries) entries
  pub hole : IsBitSet faults 4 ↔ Any (λ entry. SomePlace (IsHole entry)) entries
  pub off_disk : IsBitSet faults 5 ↔ Any IsOffDiskIn entries
  pub crossed : IsBitSet faults 6 ↔ Any (IsCrossedIn shared) entries
  pub no_other : faults < 128

-- The entries hold the extents 0, 1, 2 .. once each, all but the last full, of blocks on the disk.
pub record AreInOrder (entries : List (List ℕ)) : Type 0 where
  pub counts : ¬ Any (λ entry. 128 < rc_of entry) entries
  pub once : ¬ AreTwice entries
  pub dense : ¬ Any (LacksPredecessor entries) entries
  pub full : ¬ Any (EndsEarly entries) entries
  pub on_disk : ¬ Any IsOffDiskIn entries

-- Sector u is record r of the entries.
pub record IsRecordIn (entries : List (List ℕ)) (r u : ℕ) : Type 0 where
  pub entry : List ℕ
  pub there : Contains entries entry
  pub extent : extent_number_of entry ≡ r / 128
  pub sector : u ≡ 8 * pointer_of entry (r % 128 / 8) + r % 8

-- The sectors are the records of the entries in order.
pub record AreRecords (entries : List (List ℕ)) (sectors : List ℕ) : Type 0 where
  pub count : length sectors ≡ sum_by rc_of entries
  pub each : (r : ℕ) → r < length sectors → IsRecordIn entries r (slice_index sectors r)
  pub on_disk : All (λ sector. sector < CPM_UNITS) sectors

-- The faults are those of the entries; without a fault, the sectors are those of their records.
pub record AreJudged (shared : List Bool) (entries : List (List ℕ)) (faults : ℕ) (sectors : List ℕ) : Type 0 where
  pub bits : AreFaultBits shared entries faults
  pub sound : faults ≡ 0 → AreRecords entries sectors
  pub faulty : faults ≢ 0 → sectors ≡ []
