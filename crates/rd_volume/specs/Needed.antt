-- The needed bytes of an image: those that describe its files, and those that its served files
-- hold. A list of slots says which files are served: the sound ones among the files at these
-- slots. A byte has the number of its place in the image, counted from 0.
use Rattle.std.specs.Prelude.{◌≡◌, ◌≢◌, ◌+◌, ◌-◌, ◌*◌, ◌/◌, ◌%◌, ◌<◌, ◌≤◌, ◌↔◌, ℕ, List, Contains, length, slice_index}
use Rattle.rd_geometry.specs.Blocks.{place_of_block, place_of_mark}
use Rattle.rd_geometry.specs.Places.{place_of_cpm_unit}
use Rattle.rd_geometry.specs.declared.kind.Kind.{Kind}
use Rattle.rd_geometry.specs.declared.kind.Kind.TheVariants.{Cpm8, D64, D64e}
use Rattle.rd_cbm.specs.Entries.{Data, entry_at, start_of}
use Rattle.rd_cbm.specs.Files as cbm_file
use Rattle.rd_cbm.specs.Links.{link_of}
use Rattle.rd_cbm.specs.Walks.{Ends, IsChain}
use Rattle.rd_cpm.specs.Contents.{AreSectors}
use Rattle.rd_cpm.specs.Entries.{IsOfFile, entry_of_slot}
use Rattle.rd_volume.specs.CpmFounds.{last_sector_length}
use Rattle.rd_volume.specs.Directories.{OfDirectory}
use Rattle.rd_volume.specs.Founds.{IsSoundFile}
use Rattle.rd_volume.specs.Kinds.{room_of}
use Rattle.rd_volume.specs.Parts.{ByteRange, ranges_of}
use Rattle.rd_volume.specs.Reports.{IsSoundSlot}
use Rattle.rd_volume.specs.Volumes.{AreBytesOf, AreFounds, IsFound, IsSlotOfFile, pieces_of}
use Rattle.rd_volume.specs.declared.found.Found.{Found}

-- the place at which the entry of a slot of a CP/M directory begins: four of 32 bytes to a unit
abbrev pub place_of_cpm_entry : ℕ → ℕ
place_of_cpm_entry slot = place_of_cpm_unit (slot / 4) + 32 * (slot % 4)

-- The byte at a place of a CP/M image describes its files. It is byte 0 of an entry; or it is another byte
-- of an entry of a file, but not byte 13, which is S1.
pub data DescribesCpmFiles (image : List ℕ) (place : ℕ) : Type 0 where
  first_byte : (slot : ℕ) → slot < 64 → place ≡ place_of_cpm_entry slot → DescribesCpmFiles image place
  byte_of_entry : (slot byte : ℕ) → slot < 64 → IsOfFile (entry_of_slot image slot) → byte < 32 → byte ≢ 13
      → place ≡ place_of_cpm_entry slot + byte → DescribesCpmFiles image place

-- the place at which the entry of a slot of a 1541 directory with these blocks begins: eight of 32 bytes
-- to a block
abbrev pub place_of_cbm_entry : List ℕ → ℕ → ℕ
place_of_cbm_entry blocks slot = place_of_block (slice_index blocks (slot / 8)) + 32 * (slot % 8)

-- The byte at a place of a 1541 image, whose directory's blocks are handed in, describes its files. It is
-- one of the link, bytes 0 and 1, of a block of the directory; or it is byte 2 of an entry, which is the
-- type byte; or it is one of bytes 3 to 22 of an entry of a file; or it is one of the link of a block that
-- a file claims, or that block's error byte. An image without error bytes ends before the places of these,
-- and so has no byte there.
pub data DescribesCbmFiles (image : List ℕ) (place : ℕ) (blocks : List ℕ) : Type 0 where
  link_of_directory : (block byte : ℕ) → Contains blocks block → byte < 2
      → place ≡ place_of_block block + byte → DescribesCbmFiles image place blocks
  type_byte : (slot : ℕ) → slot < 8 * length blocks
      → place ≡ place_of_cbm_entry blocks slot + 2 → DescribesCbmFiles image place blocks
  byte_of_used_entry : (slot byte : ℕ) → cbm_file.IsFileSlot image blocks slot → 3 ≤ byte → byte ≤ 22
      → place ≡ place_of_cbm_entry blocks slot + byte → DescribesCbmFiles image place blocks
  link_of_claimed : (block byte : ℕ) → cbm_file.IsClaimed image blocks block → byte < 2
      → place ≡ place_of_block block + byte → DescribesCbmFiles image place blocks
  mark_of_claimed : (block : ℕ) → cbm_file.IsClaimed image blocks block
      → place ≡ place_of_mark block → DescribesCbmFiles image place blocks

-- the byte at a place of an image describes the files of that image
abbrev pub DescribesFiles : Kind → List ℕ → ℕ → Type 0
DescribesFiles Cpm8 image place = DescribesCpmFiles image place
DescribesFiles D64 image place = OfDirectory image (DescribesCbmFiles image place)
DescribesFiles D64e image place = OfDirectory image (DescribesCbmFiles image place)

-- The units of the sound file at a slot of a CP/M image are these sectors, and the last of them holds `last`
-- bytes of it.
pub record AreCpmUnits (image : List ℕ) (slot : ℕ) (units : List ℕ) (last : ℕ) : Type 0 where
  pub sectors : AreSectors (entry_of_slot image) slot units
  pub is_last : last ≡ last_sector_length units

-- The units of the sound file at a slot of a 1541 image, whose directory has these blocks, are the chain of
-- its data, and the last of them holds `last` bytes of it: those from byte 2 up to the last byte used.
pub record AreCbmUnits (image : List ℕ) (slot : ℕ) (units : List ℕ) (last : ℕ) (blocks : List ℕ) : Type 0 where
  pub chain : IsChain (link_of image) (start_of (entry_at image blocks slot) Data) units
  pub used : ℕ
  pub ends : Ends (link_of image) (start_of (entry_at image blocks slot) Data) used
  pub is_last : last ≡ used - 1

-- these are the units of the sound file at a slot, and the last of them holds `last` bytes of it: on a CP/M disk its
-- sectors, of which the last holds 128; on a 1541 disk the blocks of the chain of its data, of which the last holds
-- those from byte 2 up to the last byte used
abbrev pub AreUnitsOf : Kind → List ℕ → ℕ → List ℕ → ℕ → Type 0
AreUnitsOf Cpm8 image slot units last = AreCpmUnits image slot units last
AreUnitsOf D64 image slot units last = OfDirectory image (AreCbmUnits image slot units last)
AreUnitsOf D64e image slot units last = OfDirectory image (AreCbmUnits image slot units last)

-- The byte at a place of an image is served: it is a byte of a range of the image that holds bytes of a
-- sound file at one of these slots. The byte also lies within the room of the unit, even if `last` were
-- larger.
pub record IsServedByte (kind : Kind) (image served : List ℕ) (place : ℕ) : Type 0 where
  pub slot : ℕ
  pub among_served : Contains served slot
  pub sound : IsSoundSlot kind image slot
  pub units : List ℕ
  pub last : ℕ
  pub are_units : AreUnitsOf kind image slot units last
  pub range : ByteRange
  pub of_file : Contains (ranges_of kind units last) range
  pub byte : ℕ
  pub in_range : byte < range.count
  pub in_unit : byte < room_of kind
  pub there : place ≡ range.start + byte

-- The byte at a place of an image is needed, where the files at these slots are served: it describes the
-- image's files, or is served.
pub data IsNeeded (kind : Kind) (image served : List ℕ) (place : ℕ) : Type 0 where
  describing : DescribesFiles kind image place → IsNeeded kind image served place
  of_served : IsServedByte kind image served place → IsNeeded kind image served place

-- An image agrees with another, which is as long, on the other's needed bytes.
pub record AgreesOnNeeded (kind : Kind) (image other served : List ℕ) : Type 0 where
  pub size : length image ≡ length other
  pub same : (place : ℕ) → IsNeeded kind other served place → slice_index image place ≡ slice_index other place

-- Two images of a kind look the same. The same bytes of both are needed; the same slots are those
-- of files; a record describes a file of one exactly if it describes a file of the other; a list
-- has the files of one exactly if it has those of the other; the same slots are those of sound
-- files; and the served files have the same bytes, in the same pieces.
pub record TellTheSame (kind : Kind) (image other served : List ℕ) : Type 0 where
  pub needed : (place : ℕ) → IsNeeded kind image served place ↔ IsNeeded kind other served place
  pub file : (slot : ℕ) → IsSlotOfFile kind image slot ↔ IsSlotOfFile kind other slot
  pub found : (found : Found) → IsFound kind image found ↔ IsFound kind other found
  pub founds : (founds : List Found) → AreFounds kind image founds ↔ AreFounds kind other founds
  pub sound : (slot : ℕ) → IsSoundSlot kind image slot ↔ IsSoundSlot kind other slot
  pub bytes : (slot : ℕ) (bytes : List ℕ) → Contains served slot → IsSoundSlot kind other slot
      → AreBytesOf kind image slot bytes ↔ AreBytesOf kind other slot bytes
  pub pieces : (found : Found) → Contains served found.slot → IsFound kind other found → IsSoundFile found
      → pieces_of kind image found.units found.last_len ≡ pieces_of kind other found.units found.last_len
