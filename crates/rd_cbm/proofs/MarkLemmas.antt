-- What a walk with a mark for each block keeps.
use Rattle.std.proofs.Common.{◌≡◌, ◌≢◌, ◌+◌, ◌<◌, ℕ, Bool, true, false, List, All, Option, Some, length, slice_index, slice_index_or, AllPairs, Contains, sum_by, if◌then◌else◌}
use Rattle.rd_geometry.specs.Blocks.{CBM_BLOCKS}
use Rattle.rd_cbm.specs.Walks.{Links, at, next_of}

-- how many blocks have no mark
abbrev pub unmarked : List Bool → ℕ
unmarked marks = sum_by (λ mark. if mark then 0 else 1) marks

-- The blocks are the first places of a walk, all different; these blocks have marks, and no others.
pub record AreMarked (link : Links) (s : Option ℕ) (blocks : List ℕ) (marks : List Bool) : Type 0 where
  pub whole : length marks ≡ CBM_BLOCKS
  pub in_order : (i : ℕ) → i < length blocks → at link s i ≡ Some (slice_index blocks i)
  pub once : AllPairs (λ m n. m ≢ n) blocks
  pub marked : (n : ℕ) → Contains blocks n → slice_index_or marks n false ≡ true
  pub only : (n : ℕ) → slice_index_or marks n false ≡ true → Contains blocks n
  pub inside : All (λ n. n < CBM_BLOCKS) blocks
  pub counted : length blocks + unmarked marks ≡ CBM_BLOCKS

-- A walk has come to a block, after the blocks noted.
pub record IsAt (link : Links) (s : Option ℕ) (block : ℕ) (blocks : List ℕ) (marks : List Bool) : Type 0 where
  pub here : at link s (length blocks) ≡ Some block
  pub on_disk : block < CBM_BLOCKS
  pub noted : AreMarked link s blocks marks

-- A walk is about to follow the link of a block, the last of those noted.
pub record Leads (link : Links) (s : Option ℕ) (block : ℕ) (blocks : List ℕ) (marks : List Bool) : Type 0 where
  pub there : at link s (length blocks) ≡ next_of (link block)
  pub noted : AreMarked link s blocks marks
  pub reached : Contains blocks block
