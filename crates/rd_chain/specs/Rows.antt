-- The one table of a chain as SQL understands it, by SQLite's documentation, and the rows of its lines.
use Rattle.std.specs.Prelude.{◌≡◌, ◌≤◌, ℕ, pos, ◌+◌, List, [], ◌∷◌, length, map, codes, true, false, IsPermutation}
use Rattle.std.specs.declared.cmp.Ordering.{Ordering}
use Rattle.sqlite.specs.Kind.TheVariants.{Integer, Text as Words, Blob as Bytes}
use Rattle.sqlite.specs.declared.types.Value.TheVariants.{Int, Text, Blob}
use Rattle.sqlite.specs.Order.{Row, column, value_cmp}
use Rattle.sqlite.specs.Schema.{Schema}
use Rattle.sqlite.specs.Table.{Table}
use Rattle.sqlite_schema.specs.declared.schema.Column.{Column}
use Rattle.sqlite.specs.Tree.{Trees}
use Rattle.sqlite.specs.Effect.{Database, IsDatabase}
use Rattle.sqlite_keyed.specs.Lists.{sort_by}
use Rattle.sqlite_value.specs.Order.{bytes}
use Rattle.rd_tables.specs.Schemas.{column_of, numbered}
use Rattle.rd_chain.specs.Chains.{FIRST_SUM, next_sum}
use Rattle.rd_chain.specs.declared.read.SummedLine.{SummedLine}

-- the columns of the table
abbrev pub history_columns : List Column
history_columns = column_of (codes "seq") Integer false ∷ column_of (codes "line") Words true ∷ column_of (codes "sum") Bytes true ∷ []

-- the table, whose rows are the first that the database has
abbrev pub history_table : Table
history_table = numbered (codes "history") 0 history_columns [] []

-- The table and nothing else, made by
--   CREATE TABLE history (seq INTEGER PRIMARY KEY, line TEXT NOT NULL, sum BLOB NOT NULL) STRICT
abbrev pub history_schema : Schema
history_schema = record { tables = history_table ∷ []; indexes = []; views = [] }

-- the most lines that a chain has
abbrev pub MOST_LINES : ℕ
MOST_LINES = 999999999

-- the most lines that are read at once
abbrev pub MOST_READ : ℕ
MOST_READ = 200

-- the columns of a line: its number, the line, and its sum
abbrev pub line_columns : ℕ → List ℕ → List ℕ → Row
line_columns number line sum = Int (pos number) ∷ Text line ∷ Blob sum ∷ []

-- those of lines that come after so many lines, and after this sum
abbrev pub columns_after : ℕ → List ℕ → List (List ℕ) → List Row
columns_after number sum [] = []
columns_after number sum (line ∷ lines) = line_columns (number + 1) line (next_sum sum line) ∷ columns_after (number + 1) (next_sum sum line) lines

-- those of all lines of a chain: numbers from 1 without a gap, and each sum over the one before and the line
abbrev pub columns_of : List (List ℕ) → List Row
columns_of lines = columns_after 0 FIRST_SUM lines

-- The columns of a row of the table. The number is its rowid, which stands first; in its own place such a column has
-- nothing.
abbrev pub seen : Row → Row
seen row = column row 0 ∷ column row 2 ∷ column row 3 ∷ []

-- the columns of a line that was read
abbrev pub row_of : SummedLine → Row
row_of line = line_columns line.number line.line.items line.sum

-- The database is the chain of these lines: it has the table, and its rows are theirs, in any order.
pub record IsChainOf (lines : List (List ℕ)) (db : Database) : Type 0 where
  pub schema : db.schema ≡ history_schema
  pub rows : IsPermutation (columns_of lines) (map seen (db.trees 0))
  pub few : length lines ≤ MOST_LINES
  pub sound : IsDatabase db

-- by the first column
abbrev pub by_number : Row → Row → Ordering
by_number row other = value_cmp (column row 0) (column other 0)

-- the lines of a chain: what stands in its rows, by number
abbrev pub lines_of : Trees → List (List ℕ)
lines_of trees = map (λ row. bytes (column row 1)) (sort_by by_number (map seen (trees 0)))

-- the database is the chain of its lines
abbrev pub IsChain : Database → Type 0
IsChain db = IsChainOf (lines_of db.trees) db
