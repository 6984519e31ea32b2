-- What callers conclude of a file that is told as it is in its image.
use Rattle.std.proofs.Common.{◌≡◌, ◌↔◌, ℕ, List, IsTrue, refl}
use Rattle.rd_geometry.specs.declared.kind.Kind.{Kind}
use Rattle.rd_geometry.specs.declared.kind.Kind.TheVariants.{Cpm8}
use Rattle.rd_volume.specs.Founds.{IsSoundFile}
use Rattle.rd_volume.specs.Laws.{cbm_joined, cbm_sound, cpm_joined}
use Rattle.rd_volume.specs.OneDirectory.{holds_of_directory, holds_of_blocks}
use Rattle.rd_volume.specs.Reports.{IsSoundSlot}
use Rattle.rd_volume.specs.Volumes.{AreBytesOf, HasNoFault, IsFound, IsOfServedClass, IsSlotOfFile, contents_of}
use Rattle.rd_volume.specs.declared.found.Found.{Found}

-- its slot is a file's
pub described_slot : (kind : Kind) (image : List ℕ) (found : Found) → IsFound kind image found → IsSlotOfFile kind image found.slot
described_slot Cpm8 image found described = described.slot
described_slot _ image found described = holds_of_directory image described.blocks described.are_blocks _ described.holds.slot

-- it is of the class that is served exactly where the file of its slot is
pub described_served : (kind : Kind) (image : List ℕ) (found : Found) → IsFound kind image found
    → IsTrue found.served_class ↔ IsOfServedClass kind image found.slot
described_served Cpm8 image found described = (λ _. tt, λ _. described.class)
described_served _ image found described = (
  λ served. holds_of_directory image described.blocks described.are_blocks _ (described.holds.class.0 served),
  λ served. described.holds.class.1 (holds_of_blocks image described.blocks described.are_blocks _ served),
)

-- it has no fault exactly where the file of its slot has none
pub described_faults : (kind : Kind) (image : List ℕ) (found : Found) → IsFound kind image found
    → (found.faults ≡ 0) ↔ HasNoFault kind image found.slot
described_faults Cpm8 image found described = described.faults.sound
described_faults _ image found described = (
  λ zero. holds_of_directory image described.blocks described.are_blocks _ (described.holds.faults.none.0 zero),
  λ none. described.holds.faults.none.1 (holds_of_blocks image described.blocks described.are_blocks _ none),
)

-- it is sound exactly where the file of its slot is
pub told_sound : (kind : Kind) (image : List ℕ) (found : Found) → IsFound kind image found
    → IsSoundFile found ↔ IsSoundSlot kind image found.slot
told_sound kind image found described = (
  λ sound. record {
    file = described_slot kind image found described;
    class = (described_served kind image found described).0 sound.class;
    sound = (described_faults kind image found described).0 sound.sound;
  },
  λ sound. record {
    class = (described_served kind image found described).1 sound.class;
    sound = (described_faults kind image found described).1 sound.sound;
  },
)

-- its pieces, joined, are the bytes of the file of its slot, where it is sound
pub told_bytes : (kind : Kind) (image : List ℕ) (found : Found) → IsFound kind image found → IsSoundFile found
    → AreBytesOf kind image found.slot (contents_of kind image found)
told_bytes Cpm8 image found described sound =
    let contents = described.sound (described.faults.sound.0 sound.sound) in
    record {
      sectors = found.units;
      are_sectors = contents.units;
      joined = cpm_joined image found.units found.last_len contents.last;
    }
told_bytes kind image found described sound =
    let contents = cbm_sound image described.blocks found described.holds sound in
    holds_of_directory image described.blocks described.are_blocks _ (record {
      chain = found.units;
      used = contents.used;
      is_chain = contents.chain;
      ends = contents.ends;
      joined = cbm_joined kind refl image found.units contents.used found.last_len contents.last;
    })
