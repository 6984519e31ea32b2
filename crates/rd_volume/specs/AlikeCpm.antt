-- Proofs: a CP/M image that agrees with another on the needed bytes has the same files.
use Rattle.std.proofs.Common.{◌≡◌, ◌≢◌, ◌∙◌, ◌+◌, ◌*◌, ◌/◌, ◌%◌, ◌<◌, ◌≤◌, ℕ, List, Contains, Some, ap, ap₂, arith, length, refl, slice_index, slice_range, sym}
use Rattle.std.specs.List.{concat}
use Rattle.rd_geometry.specs.Places.{CPM_UNIT_LENGTH, cpm_unit, place_of_cpm_unit}
use Rattle.rd_geometry.specs.declared.kind.Kind.TheVariants.{Cpm8}
use Rattle.rd_cpm.specs.Contents.{bytes_of_sectors}
use Rattle.rd_cpm.specs.Entries.{IsOfFile, ex_of, name_of, without_high_bits, s2_of, entry_of_slot}
use Rattle.rd_cpm.specs.Faults.{IsSound}
use Rattle.rd_cpm.proofs.AlikeDirectories.{HasFilesOf, faults_alike, files_turned, of_file_alike, sectors_alike, slot_alike, sound_alike}
use Rattle.rd_volume.specs.AlikePieces.{pieces_length}
use Rattle.rd_volume.specs.CpmFounds.{IsCpmFile, last_sector_length}
use Rattle.rd_volume.specs.Laws.{cpm_joined, last_at_most}
use Rattle.rd_volume.specs.Needed.{AgreesOnNeeded, DescribesCpmFiles, byte_of_entry, describing, first_byte, place_of_cpm_entry}
use Rattle.rd_volume.specs.Printed.{cpm_name_of, cpm_type_of}
use Rattle.rd_volume.specs.Ranges.{same_inner_item, same_length, same_range}
use Rattle.rd_volume.specs.Reports.{IsSoundSlot}
use Rattle.rd_volume.specs.TellsAll.{KeepsFiles, HasLaw, served_pieces}
use Rattle.rd_volume.specs.Volumes.{AreCpmBytes}
use Rattle.rd_volume.specs.declared.found.Found.{Found}

-- a byte of an entry is the same where that of the image is
entry_byte : (image other : List ℕ) (slot byte : ℕ)
    → (byte < 32 → slice_index image (place_of_cpm_entry slot + byte) ≡ slice_index other (place_of_cpm_entry slot + byte))
    → slice_index (entry_of_slot image slot) byte ≡ slice_index (entry_of_slot other slot) byte
unfolding entry_of_slot
entry_byte image other slot byte same =
    let unit : ℕ = place_of_cpm_unit (slot / 4) in
    let start : ℕ = 32 * (slot % 4) in
    same_inner_item image other unit (unit + CPM_UNIT_LENGTH) start (start + 32) (place_of_cpm_entry slot) byte refl (λ inside. same (omega arith))

-- an entry is as long in both
entry_length : (image other : List ℕ) (slot : ℕ) → length image ≡ length other → length (entry_of_slot image slot) ≡ length (entry_of_slot other slot)
unfolding entry_of_slot
entry_length image other slot size =
    let unit : ℕ = place_of_cpm_unit (slot / 4) in
    let start : ℕ = 32 * (slot % 4) in
    same_length (cpm_unit image (slot / 4)) (cpm_unit other (slot / 4)) start (start + 32) (same_length image other unit (unit + CPM_UNIT_LENGTH) size)

-- the bytes of an entry of a file but for S1
file_byte : (image other served : List ℕ) → AgreesOnNeeded Cpm8 image other served → (slot byte : ℕ) → slot < 64 → IsOfFile (entry_of_slot other slot) → byte ≢ 13
    → slice_index (entry_of_slot image slot) byte ≡ slice_index (entry_of_slot other slot) byte
file_byte image other served agrees slot byte low file looked_at =
    entry_byte image other slot byte (λ inside.
    agrees.same (place_of_cpm_entry slot + byte) (describing (byte_of_entry slot byte low file inside looked_at refl)))

-- a range of the bytes of an entry of a file is the same in both images where byte S1 is not in it
file_range : (image other served : List ℕ) → AgreesOnNeeded Cpm8 image other served → (slot a b : ℕ) → slot < 64 → IsOfFile (entry_of_slot other slot)
    → ((i : ℕ) → a + i < b → a + i ≢ 13) → slice_range (entry_of_slot image slot) a b ≡ slice_range (entry_of_slot other slot) a b
file_range image other served agrees slot a b low file looked_at =
    same_range (entry_of_slot image slot) (entry_of_slot other slot) a b (entry_length image other slot agrees.size)
    (λ i inside. file_byte image other served agrees slot (a + i) low file (looked_at i inside))

-- so the directory has what describes the other's files
has_files : (image other served : List ℕ) → AgreesOnNeeded Cpm8 image other served → HasFilesOf (entry_of_slot image) (entry_of_slot other)
has_files image other served agrees = record {
  first = λ slot low. entry_byte image other slot 0 (λ _. agrees.same (place_of_cpm_entry slot + 0) (describing (first_byte slot low (omega arith))));
  name = λ slot low file. file_range image other served agrees slot 1 12 low file (λ i inside. omega arith);
  extent = λ slot low file.
      let s2 : s2_of (entry_of_slot image slot) ≡ s2_of (entry_of_slot other slot) = file_byte image other served agrees slot 14 low file (omega arith) in
      let ex : ex_of (entry_of_slot image slot) ≡ ex_of (entry_of_slot other slot) = file_byte image other served agrees slot 12 low file (omega arith) in
      ap₂ (λ high low_part. 32 * (high % 64) + low_part % 32) s2 ex;
  count = λ slot low file. file_byte image other served agrees slot 15 low file (omega arith);
  pointers = λ slot low file. file_range image other served agrees slot 16 32 low file (λ i inside. omega arith);
}

-- what describes the other's files describes those of this image
describes_alike : (image other : List ℕ) → HasFilesOf (entry_of_slot image) (entry_of_slot other) → (place : ℕ) → DescribesCpmFiles other place → DescribesCpmFiles image place
describes_alike image other has place (first_byte slot low at) = first_byte slot low at
describes_alike image other has place (byte_of_entry slot byte low file inside looked_at at) =
    byte_of_entry slot byte low (of_file_alike has slot low file) inside looked_at at

-- this image has the other's files, and its sound files with their units
keeps_files : (image other : List ℕ) → HasFilesOf (entry_of_slot image) (entry_of_slot other) → KeepsFiles Cpm8 image other
keeps_files image other has = record {
  describes = describes_alike image other has;
  sound = λ slot sound. record { file = slot_alike has slot sound.file; class = tt; sound = sound_alike has sound.file.slot sound.sound };
  units = λ slot last units sound are. record { sectors = sectors_alike has sound.file.slot units are.sectors; is_last = are.is_last };
}

-- sectors have as many bytes together in both, whatever these are
sectors_length : (image other sectors : List ℕ) (last : ℕ) → last ≡ last_sector_length sectors → length image ≡ length other
    → length (bytes_of_sectors other sectors) ≡ length (bytes_of_sectors image sectors)
sectors_length image other sectors last is size =
    let most : last_sector_length sectors ≤ CPM_UNIT_LENGTH = last_at_most sectors in
    ap length (sym (cpm_joined other sectors last is)) ∙ pieces_length Cpm8 other image sectors last (omega arith) (sym size)
    ∙ ap length (cpm_joined image sectors last is)

-- a record that describes a file of the other describes one of this image
found_alike : (image other : List ℕ) → length image ≡ length other → HasFilesOf (entry_of_slot image) (entry_of_slot other) → (found : Found)
    → IsCpmFile other found → IsCpmFile image found
found_alike image other size has found described =
    let low : found.slot < 64 = described.slot.slot in
    let name : name_of (entry_of_slot other found.slot) ≡ name_of (entry_of_slot image found.slot) = sym (has.name found.slot low described.slot.file) in
    record {
      slot = slot_alike has found.slot described.slot;
      name = described.name ∙ ap (λ bytes. cpm_name_of (without_high_bits bytes)) name;
      type = described.type ∙ ap (λ bytes. cpm_type_of (without_high_bits bytes)) name;
      user = described.user ∙ ap Some (sym (has.first found.slot low));
      class = described.class;
      faults = faults_alike has low found.faults described.faults;
      sound = λ sound.
          let contents = described.sound (sound_alike (files_turned has) low sound) in
          record {
            units = sectors_alike has low found.units contents.units;
            size = contents.size ∙ ap Some (sectors_length image other found.units found.last_len contents.last size);
            last = contents.last;
          };
      faulty = λ faulty. described.faulty (λ sound. faulty (sound_alike has low sound));
    }

-- the bytes of a served file are the same
bytes_alike : (image other served : List ℕ) → AgreesOnNeeded Cpm8 image other served → (slot : ℕ) (bytes : List ℕ) → Contains served slot
    → IsSoundSlot Cpm8 other slot → AreCpmBytes other slot bytes → AreCpmBytes image slot bytes
bytes_alike image other served agrees slot bytes among sound are =
    let last : ℕ = last_sector_length are.sectors in
    record {
      sectors = are.sectors;
      are_sectors = sectors_alike (has_files image other served agrees) sound.file.slot are.sectors are.are_sectors;
      joined = are.joined ∙ sym (cpm_joined other are.sectors last refl)
          ∙ sym (ap concat (served_pieces Cpm8 image other served agrees slot last are.sectors among sound (record { sectors = are.are_sectors; is_last = refl })))
          ∙ cpm_joined image are.sectors last refl;
    }

-- the law of a CP/M image
pub cpm_law : HasLaw Cpm8
cpm_law = record {
  files = λ image other served agrees.
      let has : HasFilesOf (entry_of_slot image) (entry_of_slot other) = has_files image other served agrees in
      (keeps_files image other has, keeps_files other image (files_turned has));
  tells = λ image other served agrees.
      let has : HasFilesOf (entry_of_slot image) (entry_of_slot other) = has_files image other served agrees in
      record {
        file = λ slot file. slot_alike has slot file;
        found = found_alike image other agrees.size has;
        bytes = bytes_alike image other served agrees;
        pieces = λ found among described sound.
            let no_fault : IsSound (entry_of_slot other) found.slot = described.faults.sound.0 sound.sound in
            let contents = described.sound no_fault in
            served_pieces Cpm8 image other served agrees found.slot found.last_len found.units among
            (record { file = described.slot; class = tt; sound = no_fault }) (record { sectors = contents.units; is_last = contents.last });
      };
}
