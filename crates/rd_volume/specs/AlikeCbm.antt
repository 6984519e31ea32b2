-- Proofs: a 1541 image that agrees with another on the needed bytes has the same files.
use Rattle.std.proofs.Common.{◌≡◌, ◌∙◌, ◌+◌, ◌-◌, ◌*◌, ◌/◌, ◌%◌, ◌<◌, ◌≤◌, ℕ, List, Contains, Some, ap, ap₂, arith, length, refl, slice_index, sym}
use Rattle.std.specs.List.{concat}
use Rattle.rd_geometry.specs.Blocks.{CBM_BLOCK_LENGTH, cbm_block, index_of, place_of_block, place_of_mark}
use Rattle.rd_geometry.specs.Kinds.{IsCbm}
use Rattle.rd_geometry.specs.declared.kind.Kind.{Kind}
use Rattle.rd_geometry.specs.declared.kind.Kind.TheVariants.{Cpm8, D64}
use Rattle.rd_cbm.specs.Entries.{Data, IsServed, Side, ChainRole, class_of, entry_at, start_of, type_of}
use Rattle.rd_cbm.specs.Faults.{HasNoFault, IsSound}
use Rattle.rd_cbm.specs.Files.{AreDirectoryBlocks, IsFileSlot}
use Rattle.rd_cbm.specs.Links.{link_by, link_of}
use Rattle.rd_cbm.proofs.AlikeFiles.{HasFilesOf, claimed_alike, data_alike, data_end_alike, faults_alike, files_turned, served_alike, slot_alike, sound_alike}
use Rattle.rd_cbm.proofs.AlikeWalks.{HasLinksAlong, chain_alike}
use Rattle.rd_cbm.proofs.Existence.{has_end}
use Rattle.rd_cbm.proofs.BlockBounds.{links_inside, start_inside}
use Rattle.rd_volume.specs.AlikePieces.{pieces_length}
use Rattle.rd_volume.specs.CbmFounds.{IsCbmFile, bytes_of_chain}
use Rattle.rd_volume.specs.CbmKinds.{not_cpm}
use Rattle.rd_volume.specs.Directories.{OfDirectory}
use Rattle.rd_volume.specs.Founds.{IsSoundFile}
use Rattle.rd_volume.specs.Laws.{cbm_joined, cbm_sound}
use Rattle.rd_volume.specs.Needed.{AgreesOnNeeded, AreCbmUnits, AreUnitsOf, DescribesCbmFiles, byte_of_used_entry, describing, link_of_claimed, link_of_directory, mark_of_claimed, place_of_cbm_entry, type_byte}
use Rattle.rd_volume.specs.OneDirectory.{holds_of_directory, holds_of_blocks}
use Rattle.rd_volume.specs.Printed.{cbm_type_of, printed}
use Rattle.rd_volume.specs.Ranges.{same_inner_item, same_item, same_length, same_or, same_range}
use Rattle.rd_volume.specs.Reports.{IsSoundSlot}
use Rattle.rd_volume.specs.TellsAll.{HasLaw, KeepsFiles, served_pieces}
use Rattle.rd_volume.specs.Volumes.{AreCbmBytes, pieces_of}
use Rattle.rd_volume.specs.declared.found.Found.{Found}

-- a link is the same where that of the image is
link_same : (image other : List ℕ) (block : ℕ)
    → ((byte : ℕ) → byte < 2 → slice_index image (place_of_block block + byte) ≡ slice_index other (place_of_block block + byte))
    → link_of image block ≡ link_of other block
unfolding link_of
link_same image other block same =
    let start : ℕ = place_of_block block in
    ap₂ link_by (same_item image other start (start + CBM_BLOCK_LENGTH) 0 (λ _. same 0 (omega arith)))
    (same_item image other start (start + CBM_BLOCK_LENGTH) 1 (λ _. same 1 (omega arith)))

-- a byte of an entry is the same where that of the image is
entry_byte : (image other blocks : List ℕ) (slot byte : ℕ)
    → slice_index image (place_of_cbm_entry blocks slot + byte) ≡ slice_index other (place_of_cbm_entry blocks slot + byte)
    → slice_index (entry_at image blocks slot) byte ≡ slice_index (entry_at other blocks slot) byte
unfolding entry_at
entry_byte image other blocks slot byte same =
    let block : ℕ = place_of_block (slice_index blocks (slot / 8)) in
    let start : ℕ = 32 * (slot % 8) in
    same_inner_item image other block (block + CBM_BLOCK_LENGTH) start (start + 32) (place_of_cbm_entry blocks slot) byte refl (λ _. same)

-- an entry is as long in both
entry_length : (image other blocks : List ℕ) (slot : ℕ) → length image ≡ length other → length (entry_at image blocks slot) ≡ length (entry_at other blocks slot)
unfolding entry_at
entry_length image other blocks slot size =
    let block : ℕ = slice_index blocks (slot / 8) in
    let start : ℕ = 32 * (slot % 8) in
    same_length (cbm_block image block) (cbm_block other block) start (start + 32)
    (same_length image other (place_of_block block) (place_of_block block + CBM_BLOCK_LENGTH) size)

-- An image has the bytes that describe the files of another, whose directory has these blocks.
record HasDescription (image other blocks : List ℕ) : Type 0 where
  size : length image ≡ length other
  are : AreDirectoryBlocks other blocks
  same : (place : ℕ) → DescribesCbmFiles other place blocks → slice_index image place ≡ slice_index other place

-- the blocks are those of its directory too
same_directory : (image other blocks : List ℕ) → HasDescription image other blocks → AreDirectoryBlocks image blocks
same_directory image other blocks has =
    let along : HasLinksAlong (link_of image) (link_of other) (index_of 18 1) = record {
      same = λ block reached. link_same image other block (λ byte low.
          has.same (place_of_block block + byte) (link_of_directory block byte (has.are.all block reached) low refl));
    } in
    chain_alike along blocks has.are

-- bytes 3 to 22 of a used entry are the same
file_byte : (image other blocks : List ℕ) → HasDescription image other blocks → (slot byte : ℕ) → IsFileSlot other blocks slot → 3 ≤ byte → byte ≤ 22
    → slice_index (entry_at image blocks slot) byte ≡ slice_index (entry_at other blocks slot) byte
file_byte image other blocks has slot byte file from to =
    entry_byte image other blocks slot byte (has.same (place_of_cbm_entry blocks slot + byte) (byte_of_used_entry slot byte file from to refl))

-- the chains of a used entry start at the same blocks
start_same : (image other blocks : List ℕ) → HasDescription image other blocks → (slot : ℕ) (way : ChainRole) → IsFileSlot other blocks slot
    → start_of (entry_at image blocks slot) way ≡ start_of (entry_at other blocks slot) way
start_same image other blocks has slot Data file =
    ap₂ index_of (file_byte image other blocks has slot 3 file (omega arith) (omega arith)) (file_byte image other blocks has slot 4 file (omega arith) (omega arith))
start_same image other blocks has slot Side file =
    ap₂ index_of (file_byte image other blocks has slot 21 file (omega arith) (omega arith)) (file_byte image other blocks has slot 22 file (omega arith) (omega arith))

-- so the image has what describes the other's files
has_files : (image other blocks : List ℕ) → HasDescription image other blocks → HasFilesOf image other blocks
has_files image other blocks has = record {
  type = λ slot inside. entry_byte image other blocks slot 2 (has.same (place_of_cbm_entry blocks slot + 2) (type_byte slot inside refl));
  name = λ slot file. same_range (entry_at image blocks slot) (entry_at other blocks slot) 5 21 (entry_length image other blocks slot has.size)
      (λ i inside. file_byte image other blocks has slot (5 + i) file (omega arith) (omega arith));
  start = start_same image other blocks has;
  link = λ block claimed. link_same image other block (λ byte low.
      has.same (place_of_block block + byte) (link_of_claimed block byte claimed low refl));
  mark = λ block claimed. same_or image other (place_of_mark block) 1 has.size (has.same (place_of_mark block) (mark_of_claimed block claimed refl));
}

-- Two images have a directory of the same blocks, and the first has what describes the files of
-- the second.
record AreAlike (image other : List ℕ) : Type 0 where
  blocks : List ℕ
  of_image : AreDirectoryBlocks image blocks
  of_other : AreDirectoryBlocks other blocks
  files : HasFilesOf image other blocks

-- which holds the other way too
turned : (image other : List ℕ) → AreAlike image other → AreAlike other image
turned image other alike = record { blocks = alike.blocks; of_image = alike.of_other; of_other = alike.of_image; files = files_turned alike.files }

-- images that agree are alike
are_alike : (kind : Kind) → IsCbm kind → (image other served : List ℕ) → AgreesOnNeeded kind image other served → AreAlike image other
are_alike Cpm8 cbm image other served agrees = absurd (not_cpm cbm)
are_alike _ cbm image other served agrees =
    let walk = has_end (link_of other) (index_of 18 1) (links_inside other) (start_inside 18 1) in
    let has : HasDescription image other walk.blocks = record {
      size = agrees.size;
      are = walk.chain;
      same = λ place describes. agrees.same place (describing (holds_of_directory other walk.blocks walk.chain (DescribesCbmFiles other place) describes));
    } in
    record {
      blocks = walk.blocks;
      of_image = same_directory image other walk.blocks has;
      of_other = walk.chain;
      files = has_files image other walk.blocks has;
    }

-- what follows of the blocks of the one directory follows of the other directory
of_alike : (image other : List ℕ) → (alike : AreAlike image other) → (P Q : List ℕ → Type 0) → (P alike.blocks → Q alike.blocks) → OfDirectory other P → OfDirectory image Q
of_alike image other alike P Q step of = holds_of_directory image alike.blocks alike.of_image Q (step (holds_of_blocks other alike.blocks alike.of_other P of))

-- what describes the other's files describes those of this image
describes_alike : (image other blocks : List ℕ) → HasFilesOf image other blocks → (place : ℕ) → DescribesCbmFiles other place blocks
    → DescribesCbmFiles image place blocks
describes_alike image other blocks has place (link_of_directory block byte among low at) = link_of_directory block byte among low at
describes_alike image other blocks has place (type_byte slot inside at) = type_byte slot inside at
describes_alike image other blocks has place (byte_of_used_entry slot byte file from to at) = byte_of_used_entry slot byte (slot_alike has file) from to at
describes_alike image other blocks has place (link_of_claimed block byte claimed low at) = link_of_claimed block byte (claimed_alike has block claimed) low at
describes_alike image other blocks has place (mark_of_claimed block claimed at) = mark_of_claimed block (claimed_alike has block claimed) at

-- a chain has as many bytes in both, whatever these are
chain_length : (image other chain : List ℕ) (used last : ℕ) → used < 256 → last ≡ used - 1 → length image ≡ length other
    → length (bytes_of_chain other chain used) ≡ length (bytes_of_chain image chain used)
chain_length image other chain used last byte is size =
    ap length (sym (cbm_joined D64 refl other chain used last is)) ∙ pieces_length D64 other image chain last (omega arith) (sym size)
    ∙ ap length (cbm_joined D64 refl image chain used last is)

-- a record that describes a file of the other describes one of this image
found_alike : (image other blocks : List ℕ) → length image ≡ length other → HasFilesOf image other blocks → (found : Found)
    → IsCbmFile other found blocks → IsCbmFile image found blocks
found_alike image other blocks size has found described =
    let back : HasFilesOf other image blocks = files_turned has in
    let here : IsFileSlot image blocks found.slot = slot_alike has described.slot in
    let type : type_of (entry_at other blocks found.slot) ≡ type_of (entry_at image blocks found.slot) = sym (has.type found.slot described.slot.inside) in
    record {
      slot = here;
      name = described.name ∙ ap (printed D64) (sym (has.name found.slot described.slot));
      type = described.type ∙ ap (λ byte. cbm_type_of (class_of byte)) type;
      user = described.user;
      class = (
        λ served. served_alike has described.slot (described.class.0 served),
        λ served. described.class.1 (served_alike back here served),
      );
      faults = faults_alike has described.slot found.faults described.faults;
      sound = λ sound.
          let no_fault : IsSound other blocks found.slot = sound_alike back here sound in
          let contents = described.sound no_fault in
          record {
            chain = data_alike has described.slot no_fault found.units contents.chain;
            on_disk = contents.on_disk;
            used = contents.used;
            ends = data_end_alike has described.slot no_fault contents.used contents.ends;
            byte = contents.byte;
            size = contents.size ∙ ap Some (chain_length image other found.units contents.used found.last_len contents.byte contents.last size);
            last = contents.last;
          };
      faulty = λ faulty. described.faulty (λ sound. faulty (sound_alike has described.slot sound));
    }

-- The slot has a sound file, where the directory has these blocks.
record IsSoundSlotIn (image blocks : List ℕ) (slot : ℕ) : Type 0 where
  file : IsFileSlot image blocks slot
  sound : IsSound image blocks slot

-- a sound file's slot is one by the blocks of the directory
sound_in : (kind : Kind) → IsCbm kind → (image blocks : List ℕ) → AreDirectoryBlocks image blocks → (slot : ℕ) → IsSoundSlot kind image slot
    → IsSoundSlotIn image blocks slot
sound_in Cpm8 cbm image blocks are slot is = absurd (not_cpm cbm)
sound_in _ cbm image blocks are slot is = record {
  file = holds_of_blocks image blocks are (λ bs. IsFileSlot image bs slot) is.file;
  sound = record {
    served = holds_of_blocks image blocks are (λ bs. IsServed (type_of (entry_at image bs slot))) is.class;
    no_fault = holds_of_blocks image blocks are (λ bs. HasNoFault image bs slot) is.sound;
  };
}

-- a slot that has a sound file, where the directory has these blocks, is the slot of a sound file of the image
sound_slot : (kind : Kind) → IsCbm kind → (image blocks : List ℕ) → AreDirectoryBlocks image blocks → (slot : ℕ) → IsSoundSlotIn image blocks slot
    → IsSoundSlot kind image slot
sound_slot Cpm8 cbm image blocks are slot is = absurd (not_cpm cbm)
sound_slot _ cbm image blocks are slot is = record {
  file = holds_of_directory image blocks are (λ bs. IsFileSlot image bs slot) is.file;
  class = holds_of_directory image blocks are (λ bs. IsServed (type_of (entry_at image bs slot))) is.sound.served;
  sound = holds_of_directory image blocks are (λ bs. HasNoFault image bs slot) is.sound.no_fault;
}

-- a file has the units that it has by the blocks of the directory
units_of : (kind : Kind) → IsCbm kind → (image blocks : List ℕ) → AreDirectoryBlocks image blocks → (slot last : ℕ) (units : List ℕ)
    → AreCbmUnits image slot units last blocks → AreUnitsOf kind image slot units last
units_of Cpm8 cbm image blocks are slot last units is = absurd (not_cpm cbm)
units_of _ cbm image blocks are slot last units is = holds_of_directory image blocks are (AreCbmUnits image slot units last) is

-- the files of the other are files of this image
keeps_files : (kind : Kind) → IsCbm kind → (image other : List ℕ) → AreAlike image other → KeepsFiles kind image other
keeps_files Cpm8 cbm image other alike = absurd (not_cpm cbm)
keeps_files kind cbm image other alike = record {
  describes = λ place. of_alike image other alike (DescribesCbmFiles other place) (DescribesCbmFiles image place)
      (describes_alike image other alike.blocks alike.files place);
  sound = λ slot is.
      let there : IsSoundSlotIn other alike.blocks slot = sound_in kind cbm other alike.blocks alike.of_other slot is in
      sound_slot kind cbm image alike.blocks alike.of_image slot
      (record { file = slot_alike alike.files there.file; sound = sound_alike alike.files there.file there.sound });
  units = λ slot last units is.
      let there : IsSoundSlotIn other alike.blocks slot = sound_in kind cbm other alike.blocks alike.of_other slot is in
      of_alike image other alike (AreCbmUnits other slot units last) (AreCbmUnits image slot units last) (λ are. record {
        chain = data_alike alike.files there.file there.sound units are.chain;
        used = are.used;
        ends = data_end_alike alike.files there.file there.sound are.used are.ends;
        is_last = are.is_last;
      });
}

-- the bytes of a served file are the same
bytes_alike : (kind : Kind) → IsCbm kind → (image other served : List ℕ) → AgreesOnNeeded kind image other served → AreAlike image other → (slot : ℕ) (bytes : List ℕ)
    → Contains served slot → IsSoundSlot kind other slot → OfDirectory other (AreCbmBytes other slot bytes) → OfDirectory image (AreCbmBytes image slot bytes)
bytes_alike kind cbm image other served agrees alike slot bytes among sound =
    let there : IsSoundSlotIn other alike.blocks slot = sound_in kind cbm other alike.blocks alike.of_other slot sound in
    of_alike image other alike (AreCbmBytes other slot bytes) (AreCbmBytes image slot bytes) (λ are.
    let last : ℕ = are.used - 1 in
    let units : AreUnitsOf kind other slot are.chain last = units_of kind cbm other alike.blocks alike.of_other slot last are.chain
    (record { chain = are.is_chain; used = are.used; ends = are.ends; is_last = refl }) in
    record {
      chain = are.chain;
      used = are.used;
      is_chain = data_alike alike.files there.file there.sound are.chain are.is_chain;
      ends = data_end_alike alike.files there.file there.sound are.used are.ends;
      joined = are.joined ∙ sym (cbm_joined kind cbm other are.chain are.used last refl)
          ∙ sym (ap concat (served_pieces kind image other served agrees slot last are.chain among sound units))
          ∙ cbm_joined kind cbm image are.chain are.used last refl;
    })

-- the pieces of a served file's record are the same
found_pieces : (kind : Kind) → IsCbm kind → (image other served : List ℕ) → AgreesOnNeeded kind image other served → (blocks : List ℕ) → AreDirectoryBlocks other blocks
    → (found : Found) → Contains served found.slot → IsCbmFile other found blocks → IsSoundFile found
    → pieces_of kind image found.units found.last_len ≡ pieces_of kind other found.units found.last_len
found_pieces kind cbm image other served agrees blocks are found among described sound =
    let contents = cbm_sound other blocks found described sound in
    served_pieces kind image other served agrees found.slot found.last_len found.units among
    (sound_slot kind cbm other blocks are found.slot
    (record { file = described.slot; sound = record { served = described.class.0 sound.class; no_fault = described.faults.none.0 sound.sound } }))
    (units_of kind cbm other blocks are found.slot found.last_len found.units
    (record { chain = contents.chain; used = contents.used; ends = contents.ends; is_last = contents.last }))

-- the law of a 1541 image, with error bytes or without
pub cbm_law : (kind : Kind) → IsCbm kind → HasLaw kind
cbm_law Cpm8 cbm = absurd (not_cpm cbm)
cbm_law kind cbm = record {
  files = λ image other served agrees.
      let alike : AreAlike image other = are_alike kind cbm image other served agrees in
      (keeps_files kind cbm image other alike, keeps_files kind cbm other image (turned image other alike));
  tells = λ image other served agrees.
      let alike : AreAlike image other = are_alike kind cbm image other served agrees in
      record {
        file = λ slot. of_alike image other alike (λ blocks. IsFileSlot other blocks slot) (λ blocks. IsFileSlot image blocks slot) (slot_alike alike.files);
        found = λ found. of_alike image other alike (IsCbmFile other found) (IsCbmFile image found) (found_alike image other alike.blocks agrees.size alike.files found);
        bytes = bytes_alike kind cbm image other served agrees alike;
        pieces = λ found among described. found_pieces kind cbm image other served agrees alike.blocks alike.of_other found among
            (holds_of_blocks other alike.blocks alike.of_other (IsCbmFile other found) described);
      };
}
