-- The pieces of a body that its iterator has not lent yet.
use Rattle.std.specs.Prelude.{ℕ, List, [], ◌∷◌}
use Rattle.rd_volume.specs.PiecesLeft.{pieces_left as pieces_of_file}
use Rattle.rd_protocol.specs.Slices.{not_empty}
use Rattle.rd_protocol.specs.declared.body.BodyPieces.{BodyPieces}
use Rattle.rd_protocol.specs.declared.body.Left.{Left}
use Rattle.rd_protocol.specs.declared.body.Left.TheVariants.{Text, File}

-- bytes as one piece; no bytes are no piece
abbrev pub in_one_piece : List ℕ → List (List ℕ)
in_one_piece [] = []
in_one_piece (byte ∷ bytes) = (byte ∷ bytes) ∷ []

-- what is left of a text, in one piece, or those pieces of a file that are not empty
abbrev pub left_of : Left → List (List ℕ)
left_of (Text rest) = in_one_piece rest.now
left_of (File pieces) = not_empty (pieces_of_file pieces)

-- the pieces that are left
abbrev pub pieces_left : BodyPieces → List (List ℕ)
pieces_left pieces = left_of pieces.left
