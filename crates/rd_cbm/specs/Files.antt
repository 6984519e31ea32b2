-- The files of a 1541 directory, and the blocks that they claim. The definitions take the blocks
-- of the directory as a list: they are the chain of 18/1.
use Rattle.std.specs.Prelude.{◌≡◌, ◌≢◌, ℕ, ◌*◌, ◌<◌, ◌⊎◌, List, Some, Contains, length}
use Rattle.rd_geometry.specs.Blocks.{index_of}
use Rattle.rd_cbm.specs.Links.{link_of}
use Rattle.rd_cbm.specs.Walks.{IsChain, Reaches}
use Rattle.rd_cbm.specs.Entries.{ChainRole, entry_at, type_of, start_of, ClaimsBy}

-- the blocks are those of the directory: the chain of 18/1, whatever 18/0 links to
abbrev pub AreDirectoryBlocks : List ℕ → List ℕ → Type 0
AreDirectoryBlocks image blocks = IsChain (link_of image) (index_of 18 1) blocks

-- The slot is that of a file: it is a slot of the directory, and its entry is used, so its type byte is not 0.
pub record IsFileSlot (image blocks : List ℕ) (slot : ℕ) : Type 0 where
  pub inside : slot < 8 * length blocks
  pub used : type_of (entry_at image blocks slot) ≢ 0

-- The file at a slot claims a block by one of its chains.
pub record Claims (image blocks : List ℕ) (slot : ℕ) (role : ChainRole) (block : ℕ) : Type 0 where
  pub file : IsFileSlot image blocks slot
  pub claimant : ClaimsBy (type_of (entry_at image blocks slot)) role
  pub on_chain : Reaches (link_of image) (start_of (entry_at image blocks slot) role) block

-- The block is the disk's own: 18/0, which holds the block map, or one of the directory.
abbrev pub IsSystem : List ℕ → ℕ → Type 0
IsSystem blocks block = (index_of 18 0 ≡ Some block) ⊎ Contains blocks block

-- A file claims the block.
pub record IsClaimed (image blocks : List ℕ) (block : ℕ) : Type 0 where
  pub slot : ℕ
  pub role : ChainRole
  pub claim : Claims image blocks slot role block

-- the block is in use: a file claims it, or it is the disk's own
abbrev pub IsInUse : List ℕ → List ℕ → ℕ → Type 0
IsInUse image blocks block = IsSystem blocks block ⊎ IsClaimed image blocks block

-- Another slot claims the block, or the slot's other chain does.
pub record HasOtherClaim (image blocks : List ℕ) (slot : ℕ) (role : ChainRole) (block : ℕ) : Type 0 where
  pub other_slot : ℕ
  pub other_role : ChainRole
  pub claim : Claims image blocks other_slot other_role block
  pub other : other_slot ≡ slot → other_role ≡ role → ⊥
