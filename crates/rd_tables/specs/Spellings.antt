-- How the rows of a table spell a finite map: each row spells one entry, and no two rows one key.
use Rattle.std.specs.Prelude.{◌≡◌, ℕ, ℤ, pos, negsuc, List, map, Some, IsTrue}
use Rattle.std.specs.List.{AllByRecursion, IsDistinct}
use Rattle.std.specs.declared.cmp.Ordering.{Ordering}
use Rattle.std.specs.declared.cmp.Ordering.TheVariants.{Equal}
use Rattle.std.specs.Ordering.{eq_by_cmp}
use Rattle.std.specs.FinMap.{FinMap, from_entries, get}
use Rattle.sqlite.specs.declared.types.Value.{Value}
use Rattle.sqlite.specs.Order.{Row, column, value_cmp}
use Rattle.sqlite.specs.Tree.{rowid}
use Rattle.sqlite_trees.specs.View.{is_int}
use Rattle.sqlite_rules.specs.Lists.{Has}
use Rattle.sqlite_rules.specs.Edit.{id_in}

-- How the rows of one table are read: where the columns stand in a row, which columns spell an entry of a key and a
-- value, which entry columns spell, and the order of the keys.
pub record Spelling (K X : Type 0) : Type 0 where
  -- where the columns stand in a row
  pub places : List ℕ
  -- the order of the keys
  pub cmp : K → K → Ordering
  -- the columns that spell an entry, and the entry that columns spell
  pub columns : K × X → Row
  pub entry : Row → K × X

-- the columns of a row at these places
abbrev pub seen : List ℕ → Row → Row
seen places row = map (λ at. column row at) places

-- the entry that a row spells
abbrev pub entry_of : {K X : Type 0} → Spelling K X → Row → K × X
entry_of spelling row = spelling.entry (seen spelling.places row)

-- the columns of the row are those that spell its entry
abbrev pub IsSpelled : {K X : Type 0} → Spelling K X → Row → Type 0
IsSpelled spelling row = seen spelling.places row ≡ spelling.columns (entry_of spelling row)

-- The rows spell a map: each has the columns of its entry, and no two have the same key.
pub record Spells {K X : Type 0} (spelling : Spelling K X) (rows : List Row) : Type 0 where
  pub spelled : AllByRecursion (IsSpelled spelling) rows
  pub apart : IsDistinct (eq_by_cmp spelling.cmp) (map (λ row. (entry_of spelling row).0) rows)

-- the map that they spell
abbrev pub map_of : {K X : Type 0} (spelling : Spelling K X) → List Row → FinMap spelling.cmp X
map_of spelling rows = from_entries (map (entry_of spelling) rows)

-- They spell a map, and this is true of each of its entries.
pub record SpellLawful {K X : Type 0} (spelling : Spelling K X) (P : K × X → Type 0) (rows : List Row) : Type 0 where
  pub spells : Spells spelling rows
  pub lawful : (key : K) (value : X) → get (map_of spelling rows) key ≡ Some value → P (key, value)

-- The rowids are numbers, and no two rows have the same one. A DELETE goes by the rowid.
pub record HaveRowids (rows : List Row) : Type 0 where
  pub keyed : (row : Row) → Has rows row → IsTrue (is_int (rowid row))
  pub apart : (row other : Row) → Has rows row → Has rows other → value_cmp (rowid row) (rowid other) ≡ Equal → row ≡ other

-- ---- values

-- a whole number, and 0 where it is negative
abbrev pub natural_of : ℤ → ℕ
natural_of (pos n) = n
natural_of (negsuc n) = 0

-- the natural number in a column, 0 where it has none
abbrev pub natural : Value → ℕ
natural value = natural_of (id_in value)
