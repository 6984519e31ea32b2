-- What private functions do to a connection, and what they read.
use Rattle.std.specs.Prelude.{◌≡◌, ◌+◌, ◌<◌, ◌≢◌, ℕ, pos, List, [], ◌∷◌, filter, length, map, take, false, Some, ⊤, IfErr, IfOk, IsPermutation, IsSorted, Result}
use Rattle.sqlite.specs.Tree.{Trees}
use Rattle.sqlite.specs.Store.{Ghosts}
use Rattle.sqlite.specs.Effect.{Database, IsDatabase}
use Rattle.sqlite.specs.Held.{Held, state}
use Rattle.sqlite.specs.Order.{Row, column}
use Rattle.sqlite.specs.Table.{Table}
use Rattle.sqlite.specs.declared.types.Value.TheVariants.{Int, Text, Blob}
use Rattle.sqlite_value.specs.Order.{bytes}
use Rattle.rd_tables.specs.Walks.{is_after}
use Rattle.rd_chain.specs.Chains.{FIRST_SUM, last_sum, next_sum}
use Rattle.rd_chain.specs.declared.faults.OpenFault.{OpenFault}
use Rattle.rd_chain.specs.declared.faults.OpenFault.TheVariants.{Broken, NotAChain}
use Rattle.rd_chain.specs.declared.sum.End.{End}
use Rattle.rd_tables.specs.Connections.{IsClean, IsOpen, LeavesOpen, Stays}
use Rattle.rd_chain.specs.Held.{lines}
use Rattle.rd_chain.specs.Rows.{IsChain, IsChainOf, MOST_LINES, MOST_READ, by_number, history_columns, history_table, seen}

-- where these lines end
abbrev pub end_of : List (List ℕ) → End
end_of lines = record { number = length lines; sum = last_sum FIRST_SUM lines }

-- where they end with one line more
abbrev pub next_end : End → List ℕ → End
next_end end line = record { number = end.number + 1; sum = next_sum end.sum line }

-- and with these lines more
abbrev pub end_with : End → List (List ℕ) → End
end_with end more = record { number = end.number + length more; sum = last_sum end.sum more }

-- the database is the chain of these lines, and they end here
abbrev pub EndsAt : End → List (List ℕ) → Database → Type 0
EndsAt end these db = IsChainOf these db × (end ≡ end_of these)

-- it is known where the lines end that an open connection shows
abbrev pub IsEndOf : {S : Type 0} → Ghosts S → Held S → End → Type 0
IsEndOf g h end = IsOpen g h → end ≡ end_of (lines g h)

-- nothing stands in it
pub record IsEmpty (db : Database) : Type 0 where
  pub schema : db.schema ≡ record { tables = []; indexes = []; views = [] }
  pub sound : IsDatabase db

-- ---- the table

-- Of the declaration of a table: it is the table by its name, its tree, its columns and its key.
pub record HasHistoryColumns (table : Table) : Type 0 where
  pub name : table.name ≡ history_table.name
  pub tree : table.tree ≡ 0
  pub columns : table.columns ≡ history_columns
  pub key : table.key ≡ Some 0
  pub primary : table.primary ≡ 0 ∷ []

-- It has no other constraints, and no defaults that are worked out.
pub record IsPlainTable (table : Table) : Type 0 where
  pub uniques : table.uniques ≡ []
  pub orders : table.orders ≡ []
  pub checks : table.checks ≡ []
  pub references : table.references ≡ []
  pub computed : table.computed ≡ []
  pub stamps : table.stamps ≡ history_table.stamps
  pub uncounted : table.is_counted ≡ false

-- ---- what is read

-- the columns that a row shows
abbrev pub shown : Row → Row
shown row = column row 0 ∷ column row 1 ∷ column row 2 ∷ []

-- the lines in rows that were read
abbrev pub lines_in : List Row → List (List ℕ)
lines_in rows = map (λ row. bytes (column row 1)) rows

-- Such a row is that of the line that comes next: it has the next number, a text, and the sum of it.
pub record IsNextRow (end : End) (row : Row) : Type 0 where
  pub few : end.number < MOST_LINES
  pub number : column row 0 ≡ Int (pos (end.number + 1))
  pub line : column row 1 ≡ Text (bytes (column row 1))
  pub sum : column row 2 ≡ Blob (next_sum end.sum (bytes (column row 1)))

-- such rows are those of the lines that come next
abbrev pub AreNextRows : End → List Row → Type 0
AreNextRows end [] = ⊤
AreNextRows end (row ∷ rows) = IsNextRow end row × AreNextRows (next_end end (bytes (column row 1))) rows

-- and of all lines of a chain
abbrev pub AreRowsOfLines : List Row → Type 0
AreRowsOfLines rows = AreNextRows (end_of []) rows

-- The answer shows all rows of the table, by number.
pub record AreAllRows (trees : Trees) (rows : List Row) : Type 0 where
  pub same : IsPermutation (map seen (trees 0)) rows
  pub sorted : IsSorted by_number rows

-- The answer shows the first rows after a number, by number.
pub record AreLaterRows (after : ℕ) (trees : Trees) (rows : List Row) : Type 0 where
  pub all : List Row
  pub first : rows ≡ take MOST_READ all
  pub same : IsPermutation (map seen (filter (is_after (Some (pos after))) (trees 0))) all
  pub sorted : IsSorted by_number all

-- A judging of the rows: after Ok they are those of a chain, and it is known where its lines end; after Broken they are
-- not.
pub record JudgesRows {S : Type 0} (g : Ghosts S) (old new : Held S) (result : Result End OpenFault) : Type 0 where
  pub stays : Stays g old new
  pub ok : IsOpen g new → IfOk result (λ end. IsChain (state g old).now × (end ≡ end_of (lines g old)))
  pub broken : IsOpen g new → IfErr result (λ fault. fault ≡ Broken → ¬ IsChain (state g old).now)
  pub named : IfErr result (λ fault. fault ≢ NotAChain)
  pub ends_open : LeavesOpen g new result
  pub refuses : IsClean g new → IfErr result (λ fault. fault ≡ Broken → IsOpen g new)
