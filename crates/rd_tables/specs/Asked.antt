-- What a query over one table shows.
use Rattle.std.specs.Prelude.{◌≡◌, ℕ, ◌+◌, ◌<◌, pos, negsuc, true, false, List, [], ◌∷◌, map, filter, length, take, All, get_or, int_lt, None, IsPermutation, IsSorted}
use Rattle.std.specs.List.{list_all}
use Rattle.sqlite.specs.declared.types.Value.TheVariants.{Int}
use Rattle.sqlite.specs.Order.{Row, column}
use Rattle.sqlite_trees.specs.View.{is_int}
use Rattle.sqlite_rules.specs.Edit.{id_in}
use Rattle.sqlite_sql.specs.Term.{Term, lit, col, op2, holds}
use Rattle.sqlite_sql.specs.declared.ops.BinaryOp.TheVariants.{Compare}
use Rattle.sqlite_sql.specs.declared.ops.CompareOp.TheVariants.{Eq, Ge, Gt, Le}
use Rattle.sqlite.specs.Query.{Query, inner, end, Output, output, output_cmp}
use Rattle.sqlite.specs.Collation.TheVariants.{Binary}
use Rattle.sqlite_value.specs.declared.keys.Key.{Key}

-- the rows of one table that pass each test, with the columns shown and in the order given
abbrev pub asks_of : ℕ → List Term → List Term → List (Term × Key) → Query
asks_of tree tests shown order = record {
  from = inner tree end;
  filter = tests;
  group = None;
  project = shown;
  distinct = false;
  collations = [];
  order = order;
  limit = lit (Int (negsuc 0));
  offset = lit (Int (pos 0));
}

-- ascending, by bytes
abbrev pub rising : Key
rising = record { collation = Binary; descending = false }

-- the column at a place equals a parameter
abbrev pub equals : ℕ → ℕ → Term
equals place parameter = op2 (Compare Eq Binary) (col 1 place) (col 0 parameter)

-- the column at a place is greater than a parameter
abbrev pub greater : ℕ → ℕ → Term
greater place parameter = op2 (Compare Gt Binary) (col 1 place) (col 0 parameter)

-- the column at a place is a parameter or greater
abbrev pub at_least : ℕ → ℕ → Term
at_least place parameter = op2 (Compare Ge Binary) (col 1 place) (col 0 parameter)

-- the column at a place is a parameter or less
abbrev pub no_more : ℕ → ℕ → Term
no_more place parameter = op2 (Compare Le Binary) (col 1 place) (col 0 parameter)

-- the same query, which shows no more rows than these
abbrev pub at_most : ℕ → Query → Query
at_most most query = record query { limit = lit (Int (pos most)) }

-- the rows that pass, each with what it is sorted by and what is shown of it
abbrev pub picked : Query → Row → List Row → List Output
picked query params table = map (λ row. output query (params ∷ row ∷ [])) (filter (λ row. list_all (holds (params ∷ row ∷ [])) query.filter) table)

-- The answer is what is shown of those rows, in an order that ORDER BY allows.
pub record IsPicked (query : Query) (params : Row) (table rows : List Row) : Type 0 where
  pub ordered : List Output
  pub same : IsPermutation (picked query params table) ordered
  pub sorted : IsSorted (output_cmp query) ordered
  pub shown : rows ≡ map (λ out. out.1) ordered

-- The answer is the first of those, and no more than this many.
pub record IsStart (query : Query) (most : ℕ) (params : Row) (table rows : List Row) : Type 0 where
  pub all : List Row
  pub picks : IsPicked query params table all
  pub first : rows ≡ take most all

-- The first column of each row is a number, above that of the row before.
pub record AreRising (rows : List Row) : Type 0 where
  pub numbers : All (λ row. is_int (column row 0) ≡ true) rows
  pub rise : (k : ℕ) → k + 1 < length rows → int_lt (id_in (column (get_or rows k []) 0)) (id_in (column (get_or rows (k + 1) []) 0)) ≡ true

-- All rows of a table are shown, each with a rowid of its own first.
pub record IsListed (query : Query) (table rows : List Row) : Type 0 where
  pub picks : IsPicked query [] table rows
  pub rising : AreRising rows
