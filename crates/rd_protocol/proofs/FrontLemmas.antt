-- Pieces that are copied, without the empty ones.
use Rattle.std.proofs.Common.{◌≡◌, ◌∙◌, ℕ, List, [], ◌∷◌, ◌++◌, ap, refl, sym}
use Rattle.rd_volume.specs.Fronts.{AreOfFront}
use Rattle.rd_protocol.specs.Slices.{not_empty}
use Rattle.rd_protocol.proofs.SliceLemmas.{not_empty_joined}

-- pieces and then others, without the empty ones of both
not_empty_append : (front pieces : List (List ℕ)) → not_empty (front ++ pieces) ≡ not_empty front ++ not_empty pieces
not_empty_append [] pieces = refl
not_empty_append ([] ∷ front) pieces = not_empty_append front pieces
not_empty_append ((byte ∷ bytes) ∷ front) pieces = ap (λ rest. (byte ∷ bytes) ∷ rest) (not_empty_append front pieces)

-- the empty pieces have none of the bytes that are copied
pub filled_front : (before after : List (List ℕ)) (bytes : List ℕ) → AreOfFront before after bytes → AreOfFront (not_empty before) (not_empty after) bytes
filled_front before after bytes copied = record {
  front = not_empty copied.front;
  left = ap not_empty copied.left ∙ not_empty_append copied.front after;
  joined = copied.joined ∙ sym (not_empty_joined copied.front);
}

-- where nothing is copied, all pieces are left
pub no_front : (pieces : List (List ℕ)) (bytes : List ℕ) → bytes ≡ [] → AreOfFront pieces pieces bytes
no_front pieces bytes none = record { front = []; left = refl; joined = none }
