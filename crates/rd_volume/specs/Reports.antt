-- What a report counts in an image.
use Rattle.std.specs.Prelude.{◌≡◌, ℕ, List, [], slice_range}
use Rattle.rd_geometry.specs.Blocks.{index_of}
use Rattle.rd_geometry.specs.declared.kind.Kind.{Kind}
use Rattle.rd_geometry.specs.declared.kind.Kind.TheVariants.{Cpm8, D64, D64e}
use Rattle.rd_cbm.specs.BlockMap.{map_of}
use Rattle.rd_cbm.specs.Counts.{IsCount}
use Rattle.rd_cbm.specs.Entries.{ChainRole, Data, ClaimsBy, entry_at, size_field_of, type_of}
use Rattle.rd_cbm.specs.Files.{Claims, IsFileSlot}
use Rattle.rd_cbm.specs.Links.{link_of}
use Rattle.rd_cbm.specs.Listing.{AreCounts}
use Rattle.rd_cbm.specs.Walks.{EndsBy}
use Rattle.rd_cbm.specs.declared.chains.End.{End}
use Rattle.rd_cbm.specs.declared.chains.End.TheVariants as end
use Rattle.rd_cbm.specs.declared.report.MapReport.{MapReport}
use Rattle.rd_volume.specs.Directories.{OfDirectory}
use Rattle.rd_volume.specs.Printed.{printed}
use Rattle.rd_volume.specs.Volumes.{HasNoFault, IsOfServedClass, IsSlotOfFile}
use Rattle.rd_volume.specs.declared.reports.Report.{Report}

-- Slot k is that of a sound file: desk serves its class, and it has no fault.
pub record IsSoundSlot (kind : Kind) (image : List ℕ) (k : ℕ) : Type 0 where
  pub file : IsSlotOfFile kind image k
  pub class : IsOfServedClass kind image k
  pub sound : HasNoFault kind image k

-- Slot k is that of a file with a fault.
pub record IsFaultySlot (kind : Kind) (image : List ℕ) (k : ℕ) : Type 0 where
  pub file : IsSlotOfFile kind image k
  pub faulty : ¬ HasNoFault kind image k

-- The file of slot k of a 1541 image claims blocks, but not as many as its entry states.
pub record HasOtherSize (image : List ℕ) (k : ℕ) (blocks : List ℕ) : Type 0 where
  pub file : IsFileSlot image blocks k
  pub claimant : ClaimsBy (type_of (entry_at image blocks k)) Data
  pub differs : ¬ IsCount (λ block. (way : ChainRole) × Claims image blocks k way block) (size_field_of (entry_at image blocks k))

-- the file of slot k has another size than its entry states; no file of a CP/M disk does
abbrev pub DiffersInSize : Kind → List ℕ → ℕ → Type 0
DiffersInSize Cpm8 image k = ⊥
DiffersInSize D64 image k = OfDirectory image (HasOtherSize image k)
DiffersInSize D64e image k = OfDirectory image (HasOtherSize image k)

-- the block map's three counts, zeros for a CP/M disk, which has none
abbrev pub IsMapReport : Kind → List ℕ → MapReport → Type 0
IsMapReport Cpm8 image map = map ≡ record { wrong_counts = 0; claimed_free = 0; unclaimed_used = 0 }
IsMapReport D64 image map = AreCounts image map
IsMapReport D64e image map = AreCounts image map

-- how the directory's walk ends; that of a CP/M disk, which has no links, is at a last block with byte 0, and that of
-- a 1541 disk ends as the walk from 18/1 does (1541 User's Guide)
abbrev pub IsDirectoryEnd : Kind → List ℕ → End → Type 0
IsDirectoryEnd Cpm8 image ends = ends ≡ end.Last 0
IsDirectoryEnd D64 image ends = EndsBy (link_of image) (index_of 18 1) ends
IsDirectoryEnd D64e image ends = EndsBy (link_of image) (index_of 18 1) ends

-- the printed name of a 1541 disk, bytes 144 to 159 of 18/0
abbrev pub cbm_label_of : List ℕ → List ℕ
cbm_label_of image = printed D64 (slice_range (map_of image) 144 160)

-- the printed name of the disk: of a 1541 disk bytes 144 to 159 of 18/0; a CP/M disk has none
abbrev pub label_of : Kind → List ℕ → List ℕ
label_of Cpm8 image = []
label_of D64 image = cbm_label_of image
label_of D64e image = cbm_label_of image

-- The report is that of the image: how many files it has, how many of them are sound and how many
-- have a fault, how many have another size than their entries state, the block map's counts, the
-- directory's end and the disk's name.
pub record IsReport (kind : Kind) (image : List ℕ) (report : Report) : Type 0 where
  pub files : IsCount (IsSlotOfFile kind image) report.files
  pub served : IsCount (IsSoundSlot kind image) report.served
  pub faulty : IsCount (IsFaultySlot kind image) report.faulty
  pub size_differs : IsCount (DiffersInSize kind image) report.size_differs
  pub map : IsMapReport kind image report.map
  pub directory : IsDirectoryEnd kind image report.directory
  pub label : report.label ≡ label_of kind image
