-- The chain of sums over lines: each sum is over the one before and the line.
use Rattle.std.specs.Prelude.{◌≡◌, ◌≢◌, ◌⊎◌, ℕ, List, [], ◌∷◌, ◌++◌, Contains, length, replicate}
use Rattle.sha2.specs.Sha256.{sha256}

-- the sum before the first line: 32 zeros
abbrev pub FIRST_SUM : List ℕ
FIRST_SUM = replicate 32 0

-- what is summed for a line: the sum before, and the line
abbrev pub summed : List ℕ → List ℕ → List ℕ
summed sum line = sum ++ line

-- the sum of a line after a sum: SHA-256 (FIPS 180-4)
abbrev pub next_sum : List ℕ → List ℕ → List ℕ
next_sum sum line = sha256 (summed sum line)

-- the last sum of lines that come after a sum
abbrev pub last_sum : List ℕ → List (List ℕ) → List ℕ
last_sum sum [] = sum
last_sum sum (line ∷ lines) = last_sum (next_sum sum line) lines

-- all that is summed for lines that come after a sum
abbrev pub all_summed : List ℕ → List (List ℕ) → List (List ℕ)
all_summed sum [] = []
all_summed sum (line ∷ lines) = summed sum line ∷ all_summed (next_sum sum line) lines

-- Two different texts with one SHA-256, each summed for a line of its list.
pub record Collides (lines others : List (List ℕ)) : Type 0 where
  pub text : List ℕ
  pub other : List ℕ
  pub of_lines : Contains (all_summed FIRST_SUM lines) text
  pub of_others : Contains (all_summed FIRST_SUM others) other
  pub differ : text ≢ other
  pub same : sha256 text ≡ sha256 other

-- two lists of lines of one length whose last sums are equal are the same, or two different texts with one
-- SHA-256 are among what is summed for them
abbrev pub OneChain : Type 0
OneChain = (lines others : List (List ℕ)) → length lines ≡ length others
    → last_sum FIRST_SUM lines ≡ last_sum FIRST_SUM others → (lines ≡ others) ⊎ Collides lines others
