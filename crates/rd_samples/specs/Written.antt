-- What builders write.
use Rattle.std.specs.Prelude.{ℕ, List, ◌+◌, ◌-◌, ◌++◌, drop, length, replicate, take}

-- an image with bytes written over its own from a place on
abbrev pub written : List ℕ → ℕ → List ℕ → List ℕ
written image place bytes = take place image ++ (bytes ++ drop (place + length bytes) image)

-- the first n bytes, with a pad in place of each missing one
abbrev pub padded : ℕ → ℕ → List ℕ → List ℕ
padded n pad bytes = take n bytes ++ replicate (n - length bytes) pad
