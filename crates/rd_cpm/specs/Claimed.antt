-- Which blocks are claimed, as the pass over the directory records it. Claim number p is that of
-- pointer p % 16 of slot p / 16.
use Rattle.std.specs.Prelude.{◌≡◌, ℕ, ◌/◌, ◌%◌, ◌<◌, ◌↔◌, IsTrue, List, Bool, true, false, length, slice_set, if◌then◌else◌}
use Rattle.std.specs.List.{slice_index_or}
use Rattle.rd_cpm.specs.Files.{Directory, Claims}

-- A claim with a number below n has the block.
pub record IsClaimedBefore (d : Directory) (n b : ℕ) : Type 0 where
  pub number : ℕ
  pub before : number < n
  pub claim : Claims d (number / 16) (number % 16) b

-- Two claims with numbers below n have the block.
pub record IsSharedBefore (d : Directory) (n b : ℕ) : Type 0 where
  pub one : ℕ
  pub other : ℕ
  pub first : one < other
  pub before : other < n
  pub one_claim : Claims d (one / 16) (one % 16) b
  pub other_claim : Claims d (other / 16) (other % 16) b

-- The flags say of each block but 0 whether a claim with a number below n has it, and whether two do.
pub record AreClaims (d : Directory) (n : ℕ) (claimed shared : List Bool) : Type 0 where
  pub claimed_blocks : length claimed ≡ 256
  pub shared_blocks : length shared ≡ 256
  pub bytes : (b : ℕ) → IsClaimedBefore d n b → b < 256
  pub once : (b : ℕ) → 0 < b → b < 256 → IsTrue (slice_index_or claimed b false) ↔ IsClaimedBefore d n b
  pub twice : (b : ℕ) → 0 < b → b < 256 → IsTrue (slice_index_or shared b false) ↔ IsSharedBefore d n b

-- the flags of shared blocks after one more claim of a block
abbrev pub shared_after : List Bool → List Bool → ℕ → List Bool
shared_after claimed shared b = if slice_index_or claimed b false then slice_set shared b true else shared
