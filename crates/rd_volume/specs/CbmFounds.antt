-- The files of a 1541 image, in the form that all kinds share.
use Rattle.std.specs.Prelude.{◌≡◌, ◌+◌, ◌-◌, ◌<◌, ◌↔◌, ℕ, List, All, IsTrue, None, Some, length, slice_range}
use Rattle.std.specs.List.{concat}
use Rattle.rd_geometry.specs.Blocks.{CBM_BLOCKS, CBM_BLOCK_LENGTH, cbm_block}
use Rattle.rd_geometry.specs.declared.kind.Kind.TheVariants.{D64}
use Rattle.rd_cbm.specs.Entries.{Data, IsServed, class_of, entry_at, name_of, start_of, type_of}
use Rattle.rd_cbm.specs.Faults.{AreFaults, IsSound}
use Rattle.rd_cbm.specs.Files.{IsFileSlot}
use Rattle.rd_cbm.specs.Links.{link_of}
use Rattle.rd_cbm.specs.Walks.{Ends, IsChain}
use Rattle.rd_volume.specs.Founds.{HasNoContents}
use Rattle.rd_volume.specs.Lists.{map_last_apart}
use Rattle.rd_volume.specs.Printed.{cbm_type_of, printed}
use Rattle.rd_volume.specs.declared.found.Found.{Found}

-- the bytes of a chain of blocks whose last block is used up to byte `used`: of each block but the last
-- bytes 2 to 255, and of the last bytes 2 to `used`, none where that is below 2
abbrev pub bytes_of_chain : List ℕ → List ℕ → ℕ → List ℕ
bytes_of_chain image blocks used = concat (map_last_apart
    (λ block. slice_range (cbm_block image block) 2 CBM_BLOCK_LENGTH)
    (λ block. slice_range (cbm_block image block) 2 (used + 1)) blocks)

-- The units are the chain of the data of the entry at the file's slot, blocks of the disk, which ends at
-- a last block used up to byte `used`; the size is the number of the chain's bytes.
pub record HasCbmContents (image blocks : List ℕ) (found : Found) : Type 0 where
  pub chain : IsChain (link_of image) (start_of (entry_at image blocks found.slot) Data) found.units
  pub on_disk : All (λ block. block < CBM_BLOCKS) found.units
  pub used : ℕ
  pub ends : Ends (link_of image) (start_of (entry_at image blocks found.slot) Data) used
  pub byte : used < 256
  pub size : found.size ≡ Some (length (bytes_of_chain image found.units used))
  pub last : found.last_len ≡ used - 1

-- The record describes a file of a 1541 image: its slot is that of a file; its name and type are
-- printed from the entry there; it has no user; it says whether desk serves its class; its faults
-- are those of the file, and so are its contents if it is sound.
pub record IsCbmFile (image : List ℕ) (found : Found) (blocks : List ℕ) : Type 0 where
  pub slot : IsFileSlot image blocks found.slot
  pub name : found.name ≡ printed D64 (name_of (entry_at image blocks found.slot))
  pub type : found.ty ≡ cbm_type_of (class_of (type_of (entry_at image blocks found.slot)))
  pub user : found.user ≡ None
  pub class : IsTrue found.served_class ↔ IsServed (type_of (entry_at image blocks found.slot))
  pub faults : AreFaults image blocks found.slot found.faults
  pub sound : IsSound image blocks found.slot → HasCbmContents image blocks found
  pub faulty : ¬ IsSound image blocks found.slot → HasNoContents found
