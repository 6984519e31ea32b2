-- The seven faults of the file of a slot, this project's rules over the fields of the CP/M 2.2 Interface
-- Guide. Each is a statement about all entries of the file, or about all claims of the directory.
use Rattle.std.specs.Prelude.{◌≡◌, ◌≢◌, ℕ, ◌+◌, ◌*◌, ◌<◌, ◌⊎◌, ◌↔◌, IsBitSet}
use Rattle.rd_cpm.specs.Entries.{rc_of, pointer_of, extent_number_of}
use Rattle.rd_cpm.specs.Files.{Directory, IsEntryOf, Claims}

-- bad-count: an entry of the file has a record count above 128
pub record HasBadCount (directory : Directory) (slot : ℕ) : Type 0 where
  pub entry : ℕ
  pub of_file : IsEntryOf directory slot entry
  pub many : 128 < rc_of (directory entry)

-- duplicate: two entries of the file have one extent number
pub record HasDuplicate (directory : Directory) (slot : ℕ) : Type 0 where
  pub one : ℕ
  pub other : ℕ
  pub one_of_file : IsEntryOf directory slot one
  pub other_of_file : IsEntryOf directory slot other
  pub two : one ≢ other
  pub same : extent_number_of (directory one) ≡ extent_number_of (directory other)

-- gap: an entry of the file has an extent number above 0 whose predecessor no entry of the file has
pub record HasGap (directory : Directory) (slot : ℕ) : Type 0 where
  pub entry : ℕ
  pub of_file : IsEntryOf directory slot entry
  pub above : 0 < extent_number_of (directory entry)
  pub alone : (j : ℕ) → IsEntryOf directory slot j → extent_number_of (directory j) + 1 ≢ extent_number_of (directory entry)

-- short: an entry of the file has fewer than 128 records, and another has a higher extent number
pub record IsShort (directory : Directory) (slot : ℕ) : Type 0 where
  pub entry : ℕ
  pub later : ℕ
  pub of_file : IsEntryOf directory slot entry
  pub later_of_file : IsEntryOf directory slot later
  pub few : rc_of (directory entry) < 128
  pub higher : extent_number_of (directory entry) < extent_number_of (directory later)

-- hole: the record count of an entry of the file reaches a pointer that is 0; the block of pointer i
-- begins at record 8 · i
pub record HasHole (directory : Directory) (slot : ℕ) : Type 0 where
  pub entry : ℕ
  pub place : ℕ
  pub of_file : IsEntryOf directory slot entry
  pub in_entry : place < 16
  pub reached : 8 * place < rc_of (directory entry)
  pub missing : pointer_of (directory entry) place ≡ 0

-- off-disk: a pointer of an entry of the file is above 242, the last block, whether or not the record
-- count reaches it
pub record IsOffDisk (directory : Directory) (slot : ℕ) : Type 0 where
  pub entry : ℕ
  pub place : ℕ
  pub of_file : IsEntryOf directory slot entry
  pub in_entry : place < 16
  pub beyond : 242 < pointer_of (directory entry) place

-- A claim other than that of the pointer at `claiming_place` of slot `claiming_slot` is of this block.
pub record HasOtherClaim (directory : Directory) (claiming_slot claiming_place block : ℕ) : Type 0 where
  pub slot : ℕ
  pub place : ℕ
  pub claim : Claims directory slot place block
  pub other : slot ≡ claiming_slot → place ≡ claiming_place → ⊥

-- crossed: a claim of the file is of block 1, which with block 0 holds the directory (a pointer 0 is no
-- claim), or of a block that another claim has too
pub record IsCrossed (directory : Directory) (slot : ℕ) : Type 0 where
  pub entry : ℕ
  pub place : ℕ
  pub block : ℕ
  pub of_file : IsEntryOf directory slot entry
  pub claim : Claims directory entry place block
  pub taken : (block ≡ 1) ⊎ HasOtherClaim directory entry place block

-- The file of a slot has no fault: none of the seven.
pub record IsSound (directory : Directory) (slot : ℕ) : Type 0 where
  pub no_bad_count : ¬ HasBadCount directory slot
  pub no_duplicate : ¬ HasDuplicate directory slot
  pub no_gap : ¬ HasGap directory slot
  pub not_short : ¬ IsShort directory slot
  pub no_hole : ¬ HasHole directory slot
  pub not_off_disk : ¬ IsOffDisk directory slot
  pub not_crossed : ¬ IsCrossed directory slot

-- The faults of the file of a slot as the bits of a number: each of the seven is set exactly where the
-- file has it, and no other. So the number is 0 exactly where the file is sound.
pub record AreFaults (directory : Directory) (slot faults : ℕ) : Type 0 where
  pub bad_count : IsBitSet faults 0 ↔ HasBadCount directory slot
  pub duplicate : IsBitSet faults 1 ↔ HasDuplicate directory slot
  pub gap : IsBitSet faults 2 ↔ HasGap directory slot
  pub short : IsBitSet faults 3 ↔ IsShort directory slot
  pub hole : IsBitSet faults 4 ↔ HasHole directory slot
  pub off_disk : IsBitSet faults 5 ↔ IsOffDisk directory slot
  pub crossed : IsBitSet faults 6 ↔ IsCrossed directory slot
  pub no_other : faults < 128
  pub sound : (faults ≡ 0) ↔ IsSound directory slot
