-- Where the blocks of a Commodore 1541 disk lie in its image. A block has 256 bytes, and is named by a
-- track, from 1, and a sector, from 0 (1541 User's Guide). The image holds the blocks in the order of
-- their tracks, then of their sectors (public D64 documentation).
use Rattle.std.specs.Prelude.{ℕ, zero, suc, ◌+◌, ◌*◌, ◌/◌, ◌%◌, List, Option, Some, None, Bool}
use Rattle.std.specs.Prelude.{cond, if◌then◌else◌, nat_lt, slice_range}
use Rattle.std.specs.List.{slice_index_or}

-- how many bytes a block has
abbrev pub CBM_BLOCK_LENGTH : ℕ
CBM_BLOCK_LENGTH = 256

-- how many blocks a disk has
abbrev pub CBM_BLOCKS : ℕ
CBM_BLOCKS = 683

-- how many bytes a disk has: 683 blocks of 256 bytes
abbrev pub CBM_SIZE : ℕ
CBM_SIZE = 174848

-- how many bytes an image with error bytes has: those of the disk, then one for each block
abbrev pub CBM_MARKED_SIZE : ℕ
CBM_MARKED_SIZE = 175531

-- how many sectors a track has: 1 to 17 have 21, 18 to 24 have 19, 25 to 30 have 18, 31 to 35 have 17,
-- and no other track is on the disk
abbrev pub sectors_of : ℕ → ℕ
sectors_of track =
    if nat_lt track 1 then 0
    else if nat_lt track 18 then 21
    else if nat_lt track 25 then 19
    else if nat_lt track 31 then 18
    else if nat_lt track 36 then 17
    else 0

-- whether a track and a sector name a block: the sector, counted from 0, is below the number of sectors of the track
abbrev pub is_on_disk : ℕ → ℕ → Bool
is_on_disk track sector = nat_lt sector (sectors_of track)

-- How many of the first n pairs of two bytes name a block. Pairs are in the order of the first byte,
-- the track, then of the second, the sector: (0, 0), (0, 1), .. (0, 255), (1, 0), (1, 1), ..
unfoldable pub blocks_among : ℕ → ℕ
blocks_among zero = 0
blocks_among (suc n) = blocks_among n + cond (is_on_disk (n / 256) (n % 256)) 1 0

-- how many blocks come before a pair
abbrev pub blocks_before : ℕ → ℕ → ℕ
blocks_before track sector = blocks_among (256 * track + sector)

-- the index of the block that a pair names: how many blocks come before it. The code has a table of the four zones,
-- and is proved to agree
unfoldable pub index_of : ℕ → ℕ → Option ℕ
index_of track sector =
    if is_on_disk track sector then Some (blocks_before track sector) else None

-- the byte at which the block with index n begins
abbrev pub place_of_block : ℕ → ℕ
place_of_block n = 256 * n

-- the bytes of the block with index n of an image
abbrev pub cbm_block : List ℕ → ℕ → List ℕ
cbm_block image n = slice_range image (place_of_block n) (place_of_block n + CBM_BLOCK_LENGTH)

-- the place of the error byte of the block with index n, behind all blocks
abbrev pub place_of_mark : ℕ → ℕ
place_of_mark n = CBM_SIZE + n

-- the error byte of the block with index n of an image: 1, which tells of no error, where the image
-- ends before it, as one without error bytes does
abbrev pub mark_of : List ℕ → ℕ → ℕ
mark_of image n = slice_index_or image (place_of_mark n) 1
