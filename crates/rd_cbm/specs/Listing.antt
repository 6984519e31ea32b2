-- What `directory`, `files` and `block_map` say of an image.
use Rattle.std.specs.Prelude.{◌≡◌, ℕ, ◌<◌, ◌↔◌, IfNone, IfSome, IsTrue, List, [], Option, slice_index, All, AllPairs, Contains, map}
use Rattle.rd_geometry.specs.Blocks.{CBM_BLOCKS, index_of}
use Rattle.rd_cbm.specs.Links.{link_of}
use Rattle.rd_cbm.specs.Walks.{IsChain, Ends, EndsBy}
use Rattle.rd_cbm.specs.Counts.{IsCount}
use Rattle.rd_cbm.specs.Entries.{ChainRole, Data, entry_at, type_of, name_of, record_length_of, size_field_of, start_of, class_of, IsLocked, IsClosed}
use Rattle.rd_cbm.specs.Files.{AreDirectoryBlocks, IsFileSlot, Claims}
use Rattle.rd_cbm.specs.Faults.{AreFaults, IsSound}
use Rattle.rd_cbm.specs.BlockMap.{HasWrongCount, IsClaimedFree, IsUnclaimedUsed}
use Rattle.rd_cbm.specs.declared.entries.CbmEntry.{CbmEntry}
use Rattle.rd_cbm.specs.declared.entries.Directory.{Directory}
use Rattle.rd_cbm.specs.declared.listing.CbmFile.{CbmFile}
use Rattle.rd_cbm.specs.declared.report.MapReport.{MapReport}

-- The fields are those of the entry at their slot.
pub record HasFields (image blocks : List ℕ) (entry : CbmEntry) : Type 0 where
  pub ty_byte : entry.ty_byte ≡ type_of (entry_at image blocks entry.slot)
  pub start_track : entry.start.0 ≡ slice_index (entry_at image blocks entry.slot) 3
  pub start_sector : entry.start.1 ≡ slice_index (entry_at image blocks entry.slot) 4
  pub name : entry.name ≡ name_of (entry_at image blocks entry.slot)
  pub side_track : entry.side.0 ≡ slice_index (entry_at image blocks entry.slot) 21
  pub side_sector : entry.side.1 ≡ slice_index (entry_at image blocks entry.slot) 22
  pub record_len : entry.record_len ≡ record_length_of (entry_at image blocks entry.slot)
  pub size_field : entry.size_field ≡ size_field_of (entry_at image blocks entry.slot)

-- The used entries of the directory, by ascending slot: each is described correctly, and none is
-- missing.
pub record AreEntries (image blocks : List ℕ) (entries : List CbmEntry) : Type 0 where
  pub slots : All (λ entry. IsFileSlot image blocks entry.slot) entries
  pub fields : All (HasFields image blocks) entries
  pub ascending : AllPairs (λ d e. d.slot < e.slot) entries
  pub complete : (slot : ℕ) → IsFileSlot image blocks slot → Contains (map (λ entry. entry.slot) entries) slot

-- The record describes the directory of the image: its blocks, how the walk along them ends, and
-- its used entries.
pub record IsDirectory (image : List ℕ) (directory : Directory) : Type 0 where
  pub blocks : AreDirectoryBlocks image directory.blocks
  pub on_disk : All (λ block. block < CBM_BLOCKS) directory.blocks
  pub end : EndsBy (link_of image) (index_of 18 1) directory.end
  pub entries : AreEntries image directory.blocks directory.entries

-- The record describes a file of the image: its fields are those of its entry; its faults are
-- those of the file; if it is sound, its blocks are its chain and its last byte is that of the
-- chain's end, and otherwise it has no blocks, and 0; and it claims so many blocks, each counted
-- once.
pub record Describes (image blocks : List ℕ) (file : CbmFile) : Type 0 where
  pub slot : IsFileSlot image blocks file.slot
  pub class : file.class ≡ class_of (type_of (entry_at image blocks file.slot))
  pub locked : IsTrue file.locked ↔ IsLocked (type_of (entry_at image blocks file.slot))
  pub closed : IsTrue file.closed ↔ IsClosed (type_of (entry_at image blocks file.slot))
  pub name : file.name ≡ name_of (entry_at image blocks file.slot)
  pub size_field : file.size_field ≡ size_field_of (entry_at image blocks file.slot)
  pub faults : AreFaults image blocks file.slot file.faults
  pub chain : IsSound image blocks file.slot → IsChain (link_of image) (start_of (entry_at image blocks file.slot) Data) file.blocks
  pub last : IsSound image blocks file.slot → Ends (link_of image) (start_of (entry_at image blocks file.slot) Data) file.last
  pub no_blocks : ¬ IsSound image blocks file.slot → file.blocks ≡ []
  pub no_last : ¬ IsSound image blocks file.slot → file.last ≡ 0
  pub on_disk : All (λ block. block < CBM_BLOCKS) file.blocks
  pub claimed : IsCount (λ block. (role : ChainRole) × Claims image blocks file.slot role block) file.claimed

-- The files of an image, by ascending slot: each is described correctly, and none is missing.
pub record AreFiles (image : List ℕ) (files : List CbmFile) : Type 0 where
  pub blocks : List ℕ
  pub directory : AreDirectoryBlocks image blocks
  pub each : All (Describes image blocks) files
  pub ascending : AllPairs (λ f g. f.slot < g.slot) files
  pub complete : (slot : ℕ) → IsFileSlot image blocks slot → Contains (map (λ f. f.slot) files) slot

-- The answer is the file at a slot of an image, none where no file has the slot.
pub record IsFileAt (image : List ℕ) (slot : ℕ) (answer : Option CbmFile) : Type 0 where
  pub blocks : List ℕ
  pub directory : AreDirectoryBlocks image blocks
  pub same_slot : IfSome answer (λ file. file.slot ≡ slot)
  pub described : IfSome answer (Describes image blocks)
  pub none : IfNone answer (¬ IsFileSlot image blocks slot)

-- The three counts of the block map: of tracks, and of blocks by their indices, as `block_map` gives them.
pub record AreCounts (image : List ℕ) (report : MapReport) : Type 0 where
  pub blocks : List ℕ
  pub directory : AreDirectoryBlocks image blocks
  pub wrong_counts : IsCount (HasWrongCount image) report.wrong_counts
  pub claimed_free : IsCount (IsClaimedFree image blocks) report.claimed_free
  pub unclaimed_used : IsCount (IsUnclaimedUsed image blocks) report.unclaimed_used
