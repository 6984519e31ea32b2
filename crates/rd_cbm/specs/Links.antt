-- The links between the blocks of a 1541 disk (1541 User's Guide, public D64 documentation). The
-- index of a block names it.
use Rattle.std.specs.Prelude.{ℕ, List, Option, Some, None, nat_lt, slice_index, if◌then◌else◌}
use Rattle.rd_geometry.specs.Blocks.{index_of, cbm_block}
use Rattle.rd_cbm.specs.declared.chains.Link.{Link}
use Rattle.rd_cbm.specs.declared.chains.Link.TheVariants.{Last, Next, Off}

-- the link to a block, or to none on the disk
abbrev pub link_to : Option ℕ → Link
link_to (Some n) = Next n
link_to None = Off

-- what a track and a sector say as a link: track 0 means last block, and the sector is then the position of its last
-- byte used (this project's profile); any others that name no block lead off the disk
abbrev pub link_by : ℕ → ℕ → Link
link_by t s = if nat_lt 0 t then link_to (index_of t s) else Last s

-- the link of block n of an image, its bytes 0 and 1
unfoldable pub link_of : List ℕ → ℕ → Link
link_of image n = link_by (slice_index (cbm_block image n) 0) (slice_index (cbm_block image n) 1)
