-- The lines of an explanation as bytes.
use Rattle.std.specs.Prelude.{◌≡◌, ◌≢◌, ◌≤◌, ◌==◌, ◌||◌, ℕ, List, [], ◌∷◌, ◌++◌, All, codes, flat_map, if◌then◌else◌, map, nat_lt}
use Rattle.rd_explanations.specs.Lines.{line_text}
use Rattle.rd_explanations.specs.declared.line.Line.{Line}

-- a byte as a line shows it: a question mark (63) for a control byte of ASCII, below 32 and 127
abbrev pub shown_byte : ℕ → ℕ
shown_byte byte = if nat_lt byte 32 || (byte == 127) then 63 else byte

-- what a line says, between two blanks and a line feed
abbrev pub line_of : List ℕ → List ℕ
line_of body = codes "  " ++ (body ++ 10 ∷ [])

-- a line, as it is shown
abbrev pub shown_line : Line → List ℕ
shown_line line = line_of (map shown_byte (line_text line))

-- The bytes are lines: each is two blanks, bytes of which none is a control byte of ASCII, and a line feed.
pub record AreLines (bytes : List ℕ) : Type 0 where
  pub bodies : List (List ℕ)
  pub plain : All (λ body. All (λ byte. 32 ≤ byte) body) bodies
  pub no_delete : All (λ body. All (λ byte. byte ≢ 127) body) bodies
  pub are : bytes ≡ flat_map line_of bodies
