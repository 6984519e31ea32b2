-- What `files` says of an image.
use Rattle.std.specs.Prelude.{◌≡◌, ℕ, ◌<◌, ◌≤◌, ◌↔◌, IsTrue, List, [], slice_index, All, AllPairs, Contains, map}
use Rattle.rd_geometry.specs.Places.{CPM_UNITS}
use Rattle.rd_cpm.specs.Entries.{entry_of_slot, user_byte_of, name_of, without_high_bits}
use Rattle.rd_cpm.specs.Files.{IsFileSlot}
use Rattle.rd_cpm.specs.Faults.{IsSound, AreFaults}
use Rattle.rd_cpm.specs.Contents.{AreSectors}
use Rattle.rd_cpm.specs.declared.listing.CpmFile.{CpmFile}

-- The record describes a file of the image: its slot is that of a file; its user, its marks and
-- its name without high bits are those of the entry at that slot; its faults are those of the
-- file; its sectors are those of the file if it is sound, and otherwise none; all of them lie on
-- the disk.
pub record Describes (image : List ℕ) (file : CpmFile) : Type 0 where
  pub slot : IsFileSlot (entry_of_slot image) file.slot
  pub user : file.user ≡ user_byte_of (entry_of_slot image file.slot)
  pub name : file.name ≡ without_high_bits (name_of (entry_of_slot image file.slot))
  pub read_only : IsTrue file.read_only ↔ (128 ≤ slice_index (name_of (entry_of_slot image file.slot)) 8)
  pub system : IsTrue file.system ↔ (128 ≤ slice_index (name_of (entry_of_slot image file.slot)) 9)
  pub faults : AreFaults (entry_of_slot image) file.slot file.faults
  pub sectors : IsSound (entry_of_slot image) file.slot → AreSectors (entry_of_slot image) file.slot file.sectors
  pub none_where_faulty : ¬ IsSound (entry_of_slot image) file.slot → file.sectors ≡ []
  pub on_disk : All (λ sector. sector < CPM_UNITS) file.sectors

-- The files of an image, by ascending slot: each is described correctly, and none is missing.
pub record AreFiles (image : List ℕ) (files : List CpmFile) : Type 0 where
  pub each : All (Describes image) files
  pub ascending : AllPairs (λ f g. f.slot < g.slot) files
  pub complete : (k : ℕ) → IsFileSlot (entry_of_slot image) k → Contains (map (λ f. f.slot) files) k
