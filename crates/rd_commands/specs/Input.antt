-- What is read from an input.
use Rattle.std.specs.Prelude.{◌≤◌, ℕ, List, Option, length}
use Rattle.std.specs.Io.KnownBytes.{Consumes}

-- at most so many of the known bytes of a reader were read
pub record ReadsUpTo (limit : ℕ) (old new : Option (List ℕ)) : Type 0 where
  pub bytes : List ℕ
  pub few : length bytes ≤ limit
  pub taken : Consumes old new bytes
