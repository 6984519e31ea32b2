-- A page of a history, as the staff have it: JSON (RFC 8259) of the entries after a number, each with its sum.
use Rattle.std.specs.Prelude.{ℕ, ◌-◌, List, [], ◌∷◌, ◌++◌, codes, drop, length, take}
use Rattle.std.specs.Fmt.{decimal}
use Rattle.std.specs.List.{join_by}
use Rattle.hex.specs.Hex.{encode_lower}
use Rattle.rd_chain.specs.Chains.{FIRST_SUM, next_sum}
use Rattle.rd_chain.specs.Rows.{MOST_READ}
use Rattle.rd_chain.specs.declared.read.SummedLine.{SummedLine}

-- a line with its sum as the last member of its object: the brace at its end comes behind the sum
abbrev pub summed : List ℕ → List ℕ → List ℕ
summed line sum = take (length line - 1) line ++ codes ",\"sum\":\"" ++ encode_lower sum ++ codes "\"}"

-- lines with their sums, behind one whose sum this is
abbrev pub summed_after : List ℕ → List (List ℕ) → List (List ℕ)
summed_after sum [] = []
summed_after sum (line ∷ lines) = summed line (next_sum sum line) ∷ summed_after (next_sum sum line) lines

-- texts with commas between them
abbrev pub listed : List (List ℕ) → List ℕ
listed texts = join_by (λ text. text) (codes ",") texts

-- a list of texts, and behind it the number of the last entry
abbrev pub page_of : List (List ℕ) → ℕ → List ℕ
page_of texts last = codes "{\"entries\":[" ++ (listed texts ++ (codes "],\"last\":" ++ (decimal last ++ codes "}")))

-- the entries after a number, of more than 200 the first 200, and the number of the last that there is
abbrev pub page_text : ℕ → List (List ℕ) → List ℕ
page_text after lines = page_of (take MOST_READ (drop after (summed_after FIRST_SUM lines))) (length lines)

-- ---- inside

-- a line that was read, with its sum
abbrev pub shown : SummedLine → List ℕ
shown line = summed line.line.items line.sum
