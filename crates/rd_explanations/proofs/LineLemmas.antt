-- What is true of the lines of an explanation.
use Rattle.std.proofs.Common.{◌≡◌, ◌≢◌, ◌≤◌, ◌++◌, ◌∷◌, [], ℕ, List, refl, ◌∙◌, ap, arith, map}
use Rattle.std.specs.Prelude.{All, flat_map, slice_index_or}
use Rattle.std.proofs.lemmas.Bool.Decides.{nat_tests}
use Rattle.std.proofs.lemmas.List.Elements.{All-nil, All-cons, All-map}
use Rattle.rd_explanations.specs.Explained.{AreLines, line_of, shown_byte, shown_line}
use Rattle.rd_explanations.specs.Lines.{line_text}
use Rattle.rd_explanations.specs.declared.line.Line.{Line}

-- no byte that is shown is below 32
shown_high : (byte : ℕ) → 32 ≤ shown_byte byte
shown_high byte = grind (arith, nat_tests)

-- nor is it 127
shown_plain : (byte : ℕ) → shown_byte byte ≢ 127
shown_plain byte = λ same. grind (arith, nat_tests)

-- the bodies of lines
abbrev bodies_of : List Line → List (List ℕ)
bodies_of lines = map (λ line. map shown_byte (line_text line)) lines

-- the lines are those of their bodies
flat_map-bodies : (lines : List Line) → flat_map shown_line lines ≡ flat_map line_of (bodies_of lines)
flat_map-bodies [] = refl
flat_map-bodies (line ∷ lines) = ap (λ rest. shown_line line ++ rest) (flat_map-bodies lines)

-- no byte that a body shows is below 32
body_high : (body : List ℕ) → All (λ byte. 32 ≤ byte) (map shown_byte body)
body_high body = All-map (λ (byte : ℕ). 32 ≤ byte) shown_byte body (λ k d inside. shown_high (slice_index_or body k d))

bodies_high : (lines : List Line) → All (λ body. All (λ byte. 32 ≤ byte) body) (bodies_of lines)
bodies_high [] = All-nil (λ (body : List ℕ). All (λ byte. 32 ≤ byte) body)
bodies_high (line ∷ lines) =
    All-cons (λ (body : List ℕ). All (λ byte. 32 ≤ byte) body) (map shown_byte (line_text line)) (bodies_of lines)
    (body_high (line_text line)) (bodies_high lines)

-- nor is it 127
body_plain : (body : List ℕ) → All (λ byte. byte ≢ 127) (map shown_byte body)
body_plain body = All-map (λ (byte : ℕ). byte ≢ 127) shown_byte body (λ k d inside. shown_plain (slice_index_or body k d))

bodies_plain : (lines : List Line) → All (λ body. All (λ byte. byte ≢ 127) body) (bodies_of lines)
bodies_plain [] = All-nil (λ (body : List ℕ). All (λ byte. byte ≢ 127) body)
bodies_plain (line ∷ lines) =
    All-cons (λ (body : List ℕ). All (λ byte. byte ≢ 127) body) (map shown_byte (line_text line)) (bodies_of lines)
    (body_plain (line_text line)) (bodies_plain lines)

-- the bytes of an explanation are lines
pub are_lines : (lines : List Line) (bytes : List ℕ) → bytes ≡ flat_map shown_line lines → AreLines bytes
are_lines lines bytes is = record {
  bodies = bodies_of lines;
  plain = bodies_high lines;
  no_delete = bodies_plain lines;
  are = is ∙ flat_map-bodies lines;
}
