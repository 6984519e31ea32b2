-- Walking the rows of a table in the order of their rowids.
use Rattle.std.specs.Prelude.{◌≡◌, ℕ, ℤ, ◌+◌, Bool, true, List, [], ◌∷◌, ◌++◌, filter, length, get_or, Option, Some, None, IsPermutation, ⊤}
use Rattle.std.specs.Ordering.{is_gt}
use Rattle.sqlite.specs.declared.types.Value.TheVariants.{Int}
use Rattle.sqlite.specs.Order.{Row, value_cmp}
use Rattle.sqlite.specs.Tree.{rowid}
use Rattle.sqlite_trees.specs.View.{is_int}
use Rattle.sqlite_rules.specs.Edit.{id_in}
use Rattle.rd_tables.specs.Asked.{AreRising}

-- the rowid of a row is above this one; before the first row there is none, and each comes after
abbrev pub is_after : Option ℤ → Row → Bool
is_after None row = true
is_after (Some id) row = is_gt (value_cmp (rowid row) (Int id))

-- The row comes next: its rowid is a number, and of the rows after that place all others are above it.
pub record ComesNext (table : List Row) (place : Option ℤ) (row : Row) : Type 0 where
  pub number : is_int (rowid row) ≡ true
  pub above : is_after place row ≡ true
  pub rest : IsPermutation (filter (is_after place) table) (row ∷ filter (is_after (Some (id_in (rowid row)))) table)

-- What is shown is of the rows that come next after a place, one after the other.
abbrev pub AreNext : (Row → Row) → List Row → Option ℤ → List Row → Type 0
AreNext shows table place [] = ⊤
AreNext shows table place (shown ∷ more) = (row : Row) × ComesNext table place row × (shown ≡ shows row) × AreNext shows table (Some (id_in (rowid row))) more

-- These rows were walked, as far as this place: their rowids are numbers that rise, and all others come after it.
pub record IsWalked (table done : List Row) (place : Option ℤ) : Type 0 where
  pub all : IsPermutation table (done ++ filter (is_after place) table)
  pub rising : AreRising done
  pub last : (k : ℕ) → k + 1 ≡ length done → place ≡ Some (id_in (rowid (get_or done k [])))
