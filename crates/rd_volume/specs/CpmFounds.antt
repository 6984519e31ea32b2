-- The files of a CP/M image, in the form that all kinds share.
use Rattle.std.specs.Prelude.{◌≡◌, ℕ, List, [], ◌∷◌, IsTrue, Some, length}
use Rattle.rd_geometry.specs.Places.{CPM_UNIT_LENGTH}
use Rattle.rd_cpm.specs.Contents.{AreSectors, bytes_of_sectors}
use Rattle.rd_cpm.specs.Entries.{entry_of_slot, user_byte_of, name_of, without_high_bits}
use Rattle.rd_cpm.specs.Faults.{IsSound, AreFaults}
use Rattle.rd_cpm.specs.Files.{IsFileSlot}
use Rattle.rd_volume.specs.Founds.{HasNoContents}
use Rattle.rd_volume.specs.Printed.{cpm_name_of, cpm_type_of}
use Rattle.rd_volume.specs.declared.found.Found.{Found}

-- how many bytes of a file its last sector holds: all, since files are whole records
abbrev pub last_sector_length : List ℕ → ℕ
last_sector_length [] = 0
last_sector_length (sector ∷ sectors) = CPM_UNIT_LENGTH

-- The units are the sectors of the records of a sound file, and the size is the number of its bytes.
pub record HasCpmContents (image : List ℕ) (found : Found) : Type 0 where
  pub units : AreSectors (entry_of_slot image) found.slot found.units
  pub size : found.size ≡ Some (length (bytes_of_sectors image found.units))
  pub last : found.last_len ≡ last_sector_length found.units

-- The record describes a file of a CP/M image: its slot is that of a file; its user is that of the
-- entry at its slot, and its name and type are printed from that entry, without high bits; desk
-- serves its class, as it does for each file; its faults are those of the file, and so are its
-- contents if it is sound.
pub record IsCpmFile (image : List ℕ) (found : Found) : Type 0 where
  pub slot : IsFileSlot (entry_of_slot image) found.slot
  pub name : found.name ≡ cpm_name_of (without_high_bits (name_of (entry_of_slot image found.slot)))
  pub type : found.ty ≡ cpm_type_of (without_high_bits (name_of (entry_of_slot image found.slot)))
  pub user : found.user ≡ Some (user_byte_of (entry_of_slot image found.slot))
  pub class : IsTrue found.served_class
  pub faults : AreFaults (entry_of_slot image) found.slot found.faults
  pub sound : IsSound (entry_of_slot image) found.slot → HasCpmContents image found
  pub faulty : ¬ IsSound (entry_of_slot image) found.slot → HasNoContents found
