-- The pieces of a file as slices of its image, and those of them that are not empty.
use Rattle.std.proofs.Common.{◌≡◌, ◌<◌, ◌∙◌, ℕ, List, [], ◌∷◌, ◌++◌, All, ap, arith, length, refl}
use Rattle.std.proofs.lemmas.List.Elements.{All-cons, All-nil}
use Rattle.std.specs.List.{concat}
use Rattle.rd_geometry.specs.Kinds.{size_of}
use Rattle.rd_volume.specs.AlikePieces.{pieces_are_ranges}
use Rattle.rd_volume.specs.Founds.{Fits}
use Rattle.rd_volume.specs.Volumes.{pieces_of}
use Rattle.rd_protocol.specs.Lent.{Lent}
use Rattle.rd_protocol.specs.Slices.{AreSlicesOf, not_empty}

-- pieces without the empty ones, joined, are the same bytes
pub not_empty_joined : (pieces : List (List ℕ)) → concat (not_empty pieces) ≡ concat pieces
not_empty_joined [] = refl
not_empty_joined ([] ∷ pieces) = not_empty_joined pieces
not_empty_joined ((byte ∷ bytes) ∷ pieces) = ap (λ rest. (byte ∷ bytes) ++ rest) (not_empty_joined pieces)

-- and none of them is empty
pub not_empty_filled : (pieces : List (List ℕ)) → All (λ piece. 0 < length piece) (not_empty pieces)
not_empty_filled [] = All-nil (λ piece. 0 < length piece)
not_empty_filled ([] ∷ pieces) = not_empty_filled pieces
not_empty_filled ((byte ∷ bytes) ∷ pieces) =
    All-cons (λ piece. 0 < length piece) (byte ∷ bytes) (not_empty pieces) (omega arith) (not_empty_filled pieces)

-- the pieces of a file that lies in an image of the kind are slices of it, one for each unit but for an empty one
pub lent_sliced : (lent : Lent) (pieces : List (List ℕ)) → length lent.image ≡ size_of lent.kind → Fits lent.kind lent.file
    → pieces ≡ pieces_of lent.kind lent.image lent.file.units lent.file.last_len → AreSlicesOf lent (not_empty pieces)
lent_sliced lent pieces sized fits are = record {
  sized = sized;
  fits = fits;
  are = ap not_empty (are ∙ pieces_are_ranges lent.kind lent.image lent.file.units lent.file.last_len fits.last);
}
