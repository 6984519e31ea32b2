-- The pieces of a file as slices of its image.
use Rattle.std.specs.Prelude.{◌≡◌, ℕ, List, [], ◌∷◌, length, map}
use Rattle.rd_geometry.specs.Kinds.{size_of}
use Rattle.rd_volume.specs.Founds.{Fits}
use Rattle.rd_volume.specs.Parts.{bytes_of_range, ranges_of}
use Rattle.rd_protocol.specs.Lent.{Lent}

-- the pieces that are not empty
abbrev pub not_empty : List (List ℕ) → List (List ℕ)
not_empty [] = []
not_empty ([] ∷ pieces) = not_empty pieces
not_empty ((byte ∷ bytes) ∷ pieces) = (byte ∷ bytes) ∷ not_empty pieces

-- Pieces are slices of the image that is lent: the bytes of its ranges that hold those of the file, in the order of the
-- file's units, which are units of the disk. An empty slice is no piece.
pub record AreSlicesOf (lent : Lent) (pieces : List (List ℕ)) : Type 0 where
  pub sized : length lent.image ≡ size_of lent.kind
  pub fits : Fits lent.kind lent.file
  pub are : pieces ≡ not_empty (map (bytes_of_range lent.image) (ranges_of lent.kind lent.file.units lent.file.last_len))
