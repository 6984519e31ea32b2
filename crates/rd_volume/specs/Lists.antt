-- Lists whose last item is taken another way than the others.
use Rattle.std.specs.Prelude.{ℕ, List, [], ◌∷◌}

-- what `inner` makes of each number of a list but the last, and then what `end` makes of the last
abbrev pub map_last_apart : {X : Type 0} → (ℕ → X) → (ℕ → X) → List ℕ → List X
map_last_apart inner end [] = []
map_last_apart inner end (n ∷ []) = end n ∷ []
map_last_apart inner end (n ∷ m ∷ numbers) = inner n ∷ map_last_apart inner end (m ∷ numbers)
