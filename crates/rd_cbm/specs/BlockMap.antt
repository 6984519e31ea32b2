-- The block map of a 1541 disk, in block 18/0, compared with the blocks in use (1541 User's Guide,
-- public D64 documentation).
use Rattle.std.specs.Prelude.{◌≡◌, ◌≢◌, ℕ, ◌+◌, ◌*◌, ◌/◌, ◌%◌, ◌<◌, ◌≤◌, List, [], Option, Some, None, IsBitSet, slice_index}
use Rattle.rd_geometry.specs.Blocks.{CBM_BLOCKS, cbm_block, index_of}
use Rattle.rd_cbm.specs.Counts.{IsCount}
use Rattle.rd_cbm.specs.Files.{IsInUse}

-- the bytes of a block of an image, by its index
abbrev pub bytes_at : List ℕ → Option ℕ → List ℕ
bytes_at image (Some n) = cbm_block image n
bytes_at image None = []

-- the bytes of 18/0
unfoldable pub map_of : List ℕ → List ℕ
map_of image = bytes_at image (index_of 18 0)

-- The sector of the track is marked free: of the four bytes of track t from byte 4 · t on, the last
-- three hold a bit for each sector, from the lowest bit of the first, and it is 1.
pub record IsMarkedFree (image : List ℕ) (track sector : ℕ) : Type 0 where
  pub index : ℕ
  pub on_disk : index_of track sector ≡ Some index
  pub bit : IsBitSet (slice_index (map_of image) (4 * track + 1 + sector / 8)) (sector % 8)

-- The map's count of free sectors for a track, the first of its four bytes, is not the number of
-- its sectors that are marked free.
pub record HasWrongCount (image : List ℕ) (track : ℕ) : Type 0 where
  pub first : 1 ≤ track
  pub last : track ≤ 35
  pub free : ℕ
  pub marked : IsCount (IsMarkedFree image track) free
  pub differs : slice_index (map_of image) (4 * track) ≢ free

-- The block with an index is marked free.
pub record IsFreeBlock (image : List ℕ) (block : ℕ) : Type 0 where
  pub track : ℕ
  pub sector : ℕ
  pub at : index_of track sector ≡ Some block
  pub free : IsMarkedFree image track sector

-- The block is in use, and is marked free.
abbrev pub IsClaimedFree : List ℕ → List ℕ → ℕ → Type 0
IsClaimedFree image blocks block = IsInUse image blocks block × IsFreeBlock image block

-- The block of the disk is not in use, and is not marked free.
abbrev pub IsUnclaimedUsed : List ℕ → List ℕ → ℕ → Type 0
IsUnclaimedUsed image blocks block = (block < CBM_BLOCKS) × (¬ IsInUse image blocks block) × (¬ IsFreeBlock image block)
