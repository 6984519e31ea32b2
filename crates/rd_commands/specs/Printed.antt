-- What the program prints of refusals.
use Rattle.std.specs.Prelude.{ℕ, List, [], ◌∷◌, ◌++◌, codes, flat_map}
use Rattle.std.specs.List.{join_by}
use Rattle.rd_geometry.specs.declared.kind.Kind.{Kind}
use Rattle.rd_volume.specs.Words.{words_of}
use Rattle.rd_commands.specs.declared.refusal.Refusal.{Refusal}
use Rattle.rd_commands.specs.declared.refusal.Refusal.TheVariants.{Faulty}
use Rattle.rd_commands.specs.Refusals.{name_of}

-- a line feed
abbrev pub line_feed : List ℕ
line_feed = 10 ∷ []

-- words with a blank between each
abbrev pub joined : List (List ℕ) → List ℕ
joined words = join_by (λ word. word) (codes " ") words

-- words, each after a blank
abbrev pub blanked : List (List ℕ) → List ℕ
blanked words = flat_map (λ word. codes " " ++ word) words

-- the words of faults, with a blank between each
abbrev pub faults_text : Kind → ℕ → List ℕ
faults_text kind faults = joined (words_of kind faults)

-- the words that follow the name of a refusal: those of the faults of a file
abbrev pub words_after : Refusal → List (List ℕ)
words_after (Faulty kind faults) = words_of kind faults
words_after refusal = []

-- the line of a refusal: `desk:`, its name and the words that follow it, each after a blank
abbrev pub refusal_line : Refusal → List ℕ
refusal_line refusal = codes "desk:" ++ (blanked (name_of refusal ∷ words_after refusal) ++ line_feed)
