-- Proofs: a 1541 image has one directory, so what holds of it holds of its blocks, and the other way.
use Rattle.std.proofs.Common.{List, ℕ, subst}
use Rattle.rd_cbm.specs.Files.{AreDirectoryBlocks}
use Rattle.rd_cbm.proofs.OneChain.{one_chain}
use Rattle.rd_volume.specs.Directories.{OfDirectory}

-- what holds of the directory holds of each list of blocks that is the directory's
pub holds_of_blocks : (image blocks : List ℕ) → AreDirectoryBlocks image blocks → (P : List ℕ → Type 0) → OfDirectory image P → P blocks
holds_of_blocks image blocks are P of = subst P (one_chain _ _ of.blocks blocks of.are_blocks are) of.holds

-- what holds of a list of blocks that is the directory's holds of the directory
pub holds_of_directory : (image blocks : List ℕ) → AreDirectoryBlocks image blocks → (P : List ℕ → Type 0) → P blocks → OfDirectory image P
holds_of_directory image blocks are P holds = record { blocks = blocks; are_blocks = are; holds = holds }
