-- How many numbers have a property.
use Rattle.std.specs.Prelude.{◌≡◌, ◌≢◌, ℕ, ◌↔◌, List, length, AllPairs, Contains}

-- Exactly `count` numbers have the property: a list holds each of them once, and no other.
pub record IsCount (P : ℕ → Type 0) (count : ℕ) : Type 0 where
  pub numbers : List ℕ
  pub each : (n : ℕ) → Contains numbers n ↔ P n
  pub once : AllPairs (λ m n. m ≢ n) numbers
  pub many : length numbers ≡ count
