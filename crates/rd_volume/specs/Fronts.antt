-- The bytes of pieces that went before those that are left.
use Rattle.std.specs.Prelude.{◌≡◌, ℕ, List, ◌++◌}
use Rattle.std.specs.List.{concat}

-- Pieces were left, and fewer are left now: those that are not went from the front, and these bytes are theirs, one
-- piece after the other.
pub record AreOfFront (before after : List (List ℕ)) (bytes : List ℕ) : Type 0 where
  pub front : List (List ℕ)
  pub left : before ≡ front ++ after
  pub joined : bytes ≡ concat front
