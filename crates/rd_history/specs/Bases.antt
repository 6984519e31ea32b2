-- What a base lists of a store, accession by accession, and the lines of one.
use Rattle.std.specs.Prelude.{◌≡◌, ℕ, ℤ, List, [], ◌∷◌, IsUtf8, None, Option, Some, map}
use Rattle.std.specs.FinMap.{get}
use Rattle.std.specs.List.{AllByRecursion}
use Rattle.rd_holdings.specs.State.{Desk}
use Rattle.rd_holdings.specs.declared.rows.ImageRow.{ImageRow}
use Rattle.rd_history.specs.Histories.{AreNumbered, base_entries}
use Rattle.rd_history.specs.Lines.{line_of}
use Rattle.rd_history.specs.Standings.{image_put}
use Rattle.rd_history.specs.declared.entry.Change.{Change}

-- to take in what stands at an accession
abbrev pub puts_at : ℕ → Option ImageRow → List Change
puts_at acc None = []
puts_at acc (Some image) = image_put (acc, image) ∷ []

-- to take in the image of an accession, if it has one
abbrev pub image_puts : Desk → ℕ → List Change
image_puts desk acc = puts_at acc (get desk.images acc)

-- The lines, each of them UTF-8, are those of entries of a base, which are within their limits.
pub record AreBaseLines (moment : ℤ) (note : List ℕ) (number : ℕ) (changes : List Change) (lines : List (List ℕ)) : Type 0 where
  pub are : lines ≡ map line_of (base_entries moment note number changes)
  pub texts : AllByRecursion IsUtf8 lines
  pub numbered : AreNumbered number (base_entries moment note number changes)
