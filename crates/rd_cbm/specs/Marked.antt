-- Which blocks are in use, as the pass over the slots records it.
use Rattle.std.specs.Prelude.{◌≡◌, ◌≢◌, ℕ, ◌<◌, ◌≤◌, ◌⊎◌, ◌↔◌, IsTrue, IsBitSet, List, [], Bool, true, false, Option, All, AllPairs, Contains, length, slice_set, if◌then◌else◌}
use Rattle.std.specs.List.{slice_index_or}
use Rattle.rd_geometry.specs.Blocks.{CBM_BLOCKS, mark_of}
use Rattle.rd_cbm.specs.declared.chains.Chain.{Chain}
use Rattle.rd_cbm.specs.declared.chains.End.TheVariants as end
use Rattle.rd_cbm.specs.Links.{link_of}
use Rattle.rd_cbm.specs.Walks.{IsChain, EndsBy}
use Rattle.rd_cbm.specs.Entries.{ChainRole, IsClosed, IsServed}
use Rattle.rd_cbm.specs.Faults.{IsError}
use Rattle.rd_cbm.specs.Files.{Claims, IsSystem, IsInUse, HasOtherClaim}

-- The chain from the start, if the file claims its blocks; otherwise no blocks, and an end that
-- says nothing.
pub record IsClaimChain (image : List ℕ) (start : Option ℕ) (Claiming : Type 0) (chain : Chain) : Type 0 where
  pub decided : Claiming ⊎ (¬ Claiming)
  pub blocks : Claiming → IsChain (link_of image) start chain.blocks
  pub ends : Claiming → EndsBy (link_of image) start chain.end
  pub none : ¬ Claiming → chain.blocks ≡ []
  pub none_end : ¬ Claiming → chain.end ≡ end.Last 0
  pub on_disk : All (λ block. block < CBM_BLOCKS) chain.blocks
  pub distinct : AllPairs (λ m n. m ≢ n) chain.blocks
  pub few : length chain.blocks ≤ CBM_BLOCKS

-- the flags of shared blocks after one more use of a block
abbrev pub shared_after : List Bool → List Bool → ℕ → List Bool
shared_after used shared block = if slice_index_or used block false then slice_set shared block true else shared

-- The flags after some blocks are added: a block is used if it was used before or is added, and
-- shared if it was shared before, or was used before and is added.
pub record AreAdded (used shared : List Bool) (blocks : List ℕ) (used_now shared_now : List Bool) : Type 0 where
  pub used_whole : length used_now ≡ CBM_BLOCKS
  pub shared_whole : length shared_now ≡ CBM_BLOCKS
  pub once : (b : ℕ) → b < CBM_BLOCKS → IsTrue (slice_index_or used_now b false) ↔ (IsTrue (slice_index_or used b false) ⊎ Contains blocks b)
  pub twice : (b : ℕ) → b < CBM_BLOCKS
      → IsTrue (slice_index_or shared_now b false) ↔ (IsTrue (slice_index_or shared b false) ⊎ (IsTrue (slice_index_or used b false) × Contains blocks b))

-- The flags say of each block whether it is in use, and of each block that a file claims whether
-- it is the disk's own or another claim has it too.
pub record AreUses (image blocks : List ℕ) (used shared : List Bool) : Type 0 where
  pub used_whole : length used ≡ CBM_BLOCKS
  pub shared_whole : length shared ≡ CBM_BLOCKS
  pub once : (b : ℕ) → b < CBM_BLOCKS → IsTrue (slice_index_or used b false) ↔ IsInUse image blocks b
  pub twice : (slot : ℕ) (role : ChainRole) (b : ℕ) → b < CBM_BLOCKS → Claims image blocks slot role b
      → IsTrue (slice_index_or shared b false) ↔ (IsSystem blocks b ⊎ HasOtherClaim image blocks slot role b)

-- a block of the list is flagged
abbrev pub SomeShared : List Bool → List ℕ → Type 0
SomeShared shared blocks = (b : ℕ) × Contains blocks b × IsTrue (slice_index_or shared b false)

-- a block of the list has an error byte that tells of an error
abbrev pub SomeError : List ℕ → List ℕ → Type 0
SomeError image blocks = (b : ℕ) × Contains blocks b × IsError (mark_of image b)

-- The number has a bit for each test that the file's two chains, or its type byte, pass.
pub record AreFaultBits (image : List ℕ) (shared : List Bool) (type : ℕ) (contents sides : Chain) (faults : ℕ) : Type 0 where
  pub not_closed : IsBitSet faults 0 ↔ (¬ IsClosed type)
  pub off_disk : IsBitSet faults 1 ↔ ((contents.end ≡ end.Off) ⊎ (sides.end ≡ end.Off))
  pub loop : IsBitSet faults 2 ↔ ((contents.end ≡ end.Loop) ⊎ (sides.end ≡ end.Loop))
  pub crossed : IsBitSet faults 3 ↔ (SomeShared shared contents.blocks ⊎ SomeShared shared sides.blocks)
  pub read_error : IsBitSet faults 4 ↔ (SomeError image contents.blocks ⊎ SomeError image sides.blocks)
  pub no_other : faults < 32

-- The blocks and the last byte given for a file: those of its chain if it has no fault and desk
-- serves its class, and otherwise none, and 0.
pub record AreServedBlocks (type faults : ℕ) (contents : Chain) (blocks : List ℕ) (last : ℕ) : Type 0 where
  pub sound : faults ≡ 0 → IsServed type → (e : ℕ) → contents.end ≡ end.Last e → (blocks ≡ contents.blocks) × (last ≡ e)
  pub faulty : faults ≢ 0 → (blocks ≡ []) × (last ≡ 0)
  pub unserved : ¬ IsServed type → (blocks ≡ []) × (last ≡ 0)
  pub on_disk : All (λ block. block < CBM_BLOCKS) contents.blocks → All (λ block. block < CBM_BLOCKS) blocks
