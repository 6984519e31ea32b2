-- What becomes of the notes of a command.
use Rattle.std.specs.Prelude.{◌≡◌, ◌⊎◌, [], ◌∷◌, ◌++◌, false}
use Rattle.rd_explanations.specs.declared.line.Line.{Line}
use Rattle.rd_explanations.specs.declared.notes.Notes.{Notes}

-- the line was added at the end, or nothing was
abbrev pub AddsAtMost : Line → Notes → Notes → Type 0
AddsAtMost line old new = (new.lines.items ≡ old.lines.items) ⊎ (new.lines.items ≡ old.lines.items ++ line ∷ [])

-- where notes are not wanted, there are the same, and none are wanted then
abbrev pub IsQuiet : Notes → Notes → Type 0
IsQuiet old new = old.wanted ≡ false → (new.wanted ≡ false) × (new.lines.items ≡ old.lines.items)
