-- The faults of the file at a slot, this project's rules. Each is a statement about its entry and
-- its chains, or about all claims of the directory.
use Rattle.std.specs.Prelude.{◌≡◌, ◌≢◌, ℕ, ◌<◌, ◌⊎◌, ◌↔◌, List, IsBitSet}
use Rattle.rd_geometry.specs.Blocks.{mark_of}
use Rattle.rd_cbm.specs.Links.{link_of}
use Rattle.rd_cbm.specs.Walks.{GoesOff, Loops}
use Rattle.rd_cbm.specs.Entries.{ChainRole, entry_at, type_of, start_of, IsClosed, IsServed, ClaimsBy}
use Rattle.rd_cbm.specs.Files.{Claims, IsSystem, HasOtherClaim}

-- not-closed: bit 7 of the type byte is clear
abbrev pub IsNotClosed : List ℕ → List ℕ → ℕ → Type 0
IsNotClosed image blocks slot = ¬ IsClosed (type_of (entry_at image blocks slot))

-- off-disk: a chain by which the file claims goes off the disk
pub record IsOffDisk (image blocks : List ℕ) (slot : ℕ) : Type 0 where
  pub role : ChainRole
  pub claimant : ClaimsBy (type_of (entry_at image blocks slot)) role
  pub off : GoesOff (link_of image) (start_of (entry_at image blocks slot) role)

-- loop: a chain by which the file claims loops
pub record IsLooped (image blocks : List ℕ) (slot : ℕ) : Type 0 where
  pub role : ChainRole
  pub claimant : ClaimsBy (type_of (entry_at image blocks slot)) role
  pub loop : Loops (link_of image) (start_of (entry_at image blocks slot) role)

-- crossed: a block that the file claims is the disk's own, or is claimed by another slot or by the
-- file's other chain too
pub record IsCrossed (image blocks : List ℕ) (slot : ℕ) : Type 0 where
  pub role : ChainRole
  pub block : ℕ
  pub claim : Claims image blocks slot role block
  pub taken : IsSystem blocks block ⊎ HasOtherClaim image blocks slot role block

-- an error byte tells of an error: any but 0 and 1 does, by this project's profile
abbrev pub IsError : ℕ → Type 0
IsError mark = (mark ≢ 0) × (mark ≢ 1)

-- read-error: the error byte of a block that the file claims tells of an error
pub record HasReadError (image blocks : List ℕ) (slot : ℕ) : Type 0 where
  pub role : ChainRole
  pub block : ℕ
  pub claim : Claims image blocks slot role block
  pub error : IsError (mark_of image block)

-- The file has no fault.
pub record HasNoFault (image blocks : List ℕ) (slot : ℕ) : Type 0 where
  pub closed : ¬ IsNotClosed image blocks slot
  pub on_disk : ¬ IsOffDisk image blocks slot
  pub ends : ¬ IsLooped image blocks slot
  pub alone : ¬ IsCrossed image blocks slot
  pub readable : ¬ HasReadError image blocks slot

-- The faults of the file as the bits of a number: each of the five is set exactly where the file
-- has it, and no other. So the number is 0 exactly where the file has no fault.
pub record AreFaults (image blocks : List ℕ) (slot faults : ℕ) : Type 0 where
  pub not_closed : IsBitSet faults 0 ↔ IsNotClosed image blocks slot
  pub off_disk : IsBitSet faults 1 ↔ IsOffDisk image blocks slot
  pub loop : IsBitSet faults 2 ↔ IsLooped image blocks slot
  pub crossed : IsBitSet faults 3 ↔ IsCrossed image blocks slot
  pub read_error : IsBitSet faults 4 ↔ HasReadError image blocks slot
  pub no_other : faults < 32
  pub none : (faults ≡ 0) ↔ HasNoFault image blocks slot

-- The file is sound: of the served class, with no fault.
pub record IsSound (image blocks : List ℕ) (slot : ℕ) : Type 0 where
  pub served : IsServed (type_of (entry_at image blocks slot))
  pub no_fault : HasNoFault image blocks slot
