-- The directory of a 1541 image. The definitions of rd_cbm take its blocks.
use Rattle.std.specs.Prelude.{List, ℕ}
use Rattle.rd_cbm.specs.Files.{AreDirectoryBlocks}

-- Something holds of the blocks of the directory of an image.
pub record OfDirectory (image : List ℕ) (P : List ℕ → Type 0) : Type 0 where
  pub blocks : List ℕ
  pub are_blocks : AreDirectoryBlocks image blocks
  pub holds : P blocks
