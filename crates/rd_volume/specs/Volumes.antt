-- The files of an image of any kind, and their bytes. An image is its kind and the list of its bytes. What is
-- said of a 1541 image is said once, and both of its kinds name it: an image has the same files with error
-- bytes as without, except for the fault `read-error`, which only error bytes can show.
use Rattle.std.specs.Prelude.{◌≡◌, ◌<◌, ℕ, List, All, AllPairs, Contains, IfNone, IfSome, Option, drop, map, take}
use Rattle.std.specs.List.{concat}
use Rattle.rd_geometry.specs.Blocks.{cbm_block}
use Rattle.rd_geometry.specs.Places.{cpm_unit}
use Rattle.rd_geometry.specs.declared.kind.Kind.{Kind}
use Rattle.rd_geometry.specs.declared.kind.Kind.TheVariants.{Cpm8, D64, D64e}
use Rattle.rd_cbm.specs.Entries as cbm_entry
use Rattle.rd_cbm.specs.Faults as cbm_fault
use Rattle.rd_cbm.specs.Files as cbm_file
use Rattle.rd_cbm.specs.Links.{link_of}
use Rattle.rd_cbm.specs.Walks.{Ends, IsChain}
use Rattle.rd_cpm.specs.Contents.{AreSectors, bytes_of_sectors}
use Rattle.rd_cpm.specs.Entries.{entry_of_slot}
use Rattle.rd_cpm.specs.Faults.{IsSound}
use Rattle.rd_cpm.specs.Files.{IsFileSlot}
use Rattle.rd_volume.specs.CbmFounds.{IsCbmFile, bytes_of_chain}
use Rattle.rd_volume.specs.CpmFounds.{IsCpmFile}
use Rattle.rd_volume.specs.Directories.{OfDirectory}
use Rattle.rd_volume.specs.Lists.{map_last_apart}
use Rattle.rd_volume.specs.declared.found.Found.{Found}

-- slot k of a 1541 image is the slot of a file
abbrev pub IsCbmSlotOfFile : List ℕ → ℕ → Type 0
IsCbmSlotOfFile image k = OfDirectory image (λ blocks. cbm_file.IsFileSlot image blocks k)

-- slot k is the slot of a file
abbrev pub IsSlotOfFile : Kind → List ℕ → ℕ → Type 0
IsSlotOfFile Cpm8 image k = IsFileSlot (entry_of_slot image) k
IsSlotOfFile D64 image k = IsCbmSlotOfFile image k
IsSlotOfFile D64e image k = IsCbmSlotOfFile image k

-- the file of slot k of a 1541 image is of the class that is served: SEQ, PRG or USR
abbrev pub IsOfCbmServedClass : List ℕ → ℕ → Type 0
IsOfCbmServedClass image k =
    OfDirectory image (λ blocks. cbm_entry.IsServed (cbm_entry.type_of (cbm_entry.entry_at image blocks k)))

-- the file of slot k is of the class that is served: each CP/M file; SEQ, PRG and USR on a 1541 disk
abbrev pub IsOfServedClass : Kind → List ℕ → ℕ → Type 0
IsOfServedClass Cpm8 image k = Unit {0}
IsOfServedClass D64 image k = IsOfCbmServedClass image k
IsOfServedClass D64e image k = IsOfCbmServedClass image k

-- the file of slot k of a 1541 image has no fault
abbrev pub HasNoCbmFault : List ℕ → ℕ → Type 0
HasNoCbmFault image k = OfDirectory image (λ blocks. cbm_fault.HasNoFault image blocks k)

-- the file of slot k has no fault
abbrev pub HasNoFault : Kind → List ℕ → ℕ → Type 0
HasNoFault Cpm8 image k = IsSound (entry_of_slot image) k
HasNoFault D64 image k = HasNoCbmFault image k
HasNoFault D64e image k = HasNoCbmFault image k

-- The bytes are those of the sound file of slot k of a CP/M image.
pub record AreCpmBytes (image : List ℕ) (k : ℕ) (bytes : List ℕ) : Type 0 where
  pub sectors : List ℕ
  pub are_sectors : AreSectors (entry_of_slot image) k sectors
  pub joined : bytes ≡ bytes_of_sectors image sectors

-- The bytes are those of the sound file of slot k of a 1541 image whose directory has these
-- blocks: those of the chain of its data.
pub record AreCbmBytes (image : List ℕ) (k : ℕ) (bytes blocks : List ℕ) : Type 0 where
  pub chain : List ℕ
  pub used : ℕ
  pub is_chain : IsChain (link_of image) (cbm_entry.start_of (cbm_entry.entry_at image blocks k) cbm_entry.Data) chain
  pub ends : Ends (link_of image) (cbm_entry.start_of (cbm_entry.entry_at image blocks k) cbm_entry.Data) used
  pub joined : bytes ≡ bytes_of_chain image chain used

-- the bytes are those of the sound file of slot k
abbrev pub AreBytesOf : Kind → List ℕ → ℕ → List ℕ → Type 0
AreBytesOf Cpm8 image k bytes = AreCpmBytes image k bytes
AreBytesOf D64 image k bytes = OfDirectory image (AreCbmBytes image k bytes)
AreBytesOf D64e image k bytes = OfDirectory image (AreCbmBytes image k bytes)

-- the record describes a file of the image: everything that it says of the file is true
abbrev pub IsFound : Kind → List ℕ → Found → Type 0
IsFound Cpm8 image found = IsCpmFile image found
IsFound D64 image found = OfDirectory image (IsCbmFile image found)
IsFound D64e image found = OfDirectory image (IsCbmFile image found)

-- The files of an image, by ascending slot: each is described correctly, and none is missing.
pub record AreFounds (kind : Kind) (image : List ℕ) (founds : List Found) : Type 0 where
  pub each : All (IsFound kind image) founds
  pub ascending : AllPairs (λ f g. f.slot < g.slot) founds
  pub complete : (k : ℕ) → IsSlotOfFile kind image k → Contains (map (λ f. f.slot) founds) k

-- The answer is the file at a slot of an image, none where no file has the slot.
pub record IsFoundAt (kind : Kind) (image : List ℕ) (slot : ℕ) (answer : Option Found) : Type 0 where
  pub same_slot : IfSome answer (λ found. found.slot ≡ slot)
  pub described : IfSome answer (IsFound kind image)
  pub none : IfNone answer (¬ IsSlotOfFile kind image slot)

-- the bytes of unit n in which a file's bytes stand: all of a CP/M sector, and all of a 1541 block but
-- the two of its link
abbrev pub body_of : Kind → List ℕ → ℕ → List ℕ
body_of Cpm8 image n = cpm_unit image n
body_of D64 image n = drop 2 (cbm_block image n)
body_of D64e image n = drop 2 (cbm_block image n)

-- the pieces of a file, one for each unit: all that the unit holds, and of the last unit the first
-- `last` bytes of it
abbrev pub pieces_of : Kind → List ℕ → List ℕ → ℕ → List (List ℕ)
pieces_of kind image units last = map_last_apart (body_of kind image) (λ unit. take last (body_of kind image unit)) units

-- the pieces of a file, joined
abbrev pub contents_of : Kind → List ℕ → Found → List ℕ
contents_of kind image found = concat (pieces_of kind image found.units found.last_len)
