-- How many bytes the units of a file hold.
use Rattle.std.specs.Prelude.{ℕ, List, [], ◌∷◌, ◌+◌, ◌*◌, length}

-- each unit but the last holds as many as there is room for, and the last one `last`
abbrev pub bytes_in : ℕ → List ℕ → ℕ → ℕ
bytes_in room [] last = 0
bytes_in room (unit ∷ units) last = length units * room + last
