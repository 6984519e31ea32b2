-- The tables of the desk as SQL understands their declarations. A column's place is one more than its
-- number, since the rowid stands first; a tree is where the rows of a table or of its index lie.
use Rattle.std.specs.Prelude.{◌≡◌, ℕ, ◌^◌, ◌==◌, nat_lt, Bool, true, false, List, [], ◌∷◌, take, slice_get, Option, Some, None, ◌&&◌, ◌||◌, not, codes, option_map, pos, unwrap_or}
use Rattle.std.specs.List.{list_any}
use Rattle.sqlite.specs.Collation.TheVariants.{Binary}
use Rattle.sqlite.specs.declared.types.Value.TheVariants.{Null, Int}
use Rattle.sqlite.specs.Table.{Table}
use Rattle.sqlite.specs.Schema.{Schema}
use Rattle.sqlite.specs.Kind.{Kind}
use Rattle.sqlite.specs.Kind.TheVariants.{Integer, Text, Blob}
use Rattle.sqlite_schema.specs.Names.{is_key, same_name}
use Rattle.sqlite_schema.specs.declared.schema.Column.{Column}
use Rattle.sqlite_schema.specs.declared.schema.Index.{Index}
use Rattle.sqlite_schema.specs.declared.schema.Reference.{Reference}
use Rattle.sqlite_schema.specs.declared.schema.View.{View}
use Rattle.sqlite_schema.specs.declared.schema.Action.TheVariants.{NoAction}
use Rattle.sqlite_sql.specs.Term.{Term, lit, col, op2}
use Rattle.sqlite_sql.specs.declared.ops.BinaryOp.TheVariants.{Compare, And}
use Rattle.sqlite_sql.specs.declared.ops.CompareOp.TheVariants.{Eq, Le, Ge}
use Rattle.sqlite_value.specs.Keys.{plain}
use Rattle.sqlite_value.specs.declared.keys.Order.{Order}

-- ---- parts of a declaration

-- a column of a STRICT table: its name, its type, and whether it is NOT NULL
abbrev pub column_of : List ℕ → Kind → Bool → Column
column_of name kind not_null = record { name = name; kind = kind; is_strict = true; not_null = not_null; default = Null; collation = Binary }

-- the value at a place is from one number to another
abbrev pub between : ℕ → ℕ → ℕ → Term
between place low high = op2 And (op2 (Compare Ge Binary) (col 1 place) (lit (Int (pos low)))) (op2 (Compare Le Binary) (col 1 place) (lit (Int (pos high))))

-- a table, by the parts of its declaration
abbrev pub table_of : List ℕ → ℕ → List Column → Option ℕ → List ℕ → List (List ℕ) → List Order → List Term → List Reference → Table
table_of name tree columns rowid primary uniques orders checks references = record {
  name = name;
  tree = tree;
  columns = columns;
  key = rowid;
  primary = primary;
  uniques = uniques;
  orders = orders;
  checks = checks;
  references = references;
  computed = [];
  stamps = record { places = []; terms = []; formats = [] };
  is_counted = false;
}

-- a table whose first column is its INTEGER PRIMARY KEY
abbrev pub numbered : List ℕ → ℕ → List Column → List Term → List Reference → Table
numbered name tree columns checks references = table_of name tree columns (Some 0) (0 ∷ []) [] [] checks references

-- a table whose PRIMARY KEY is the columns at these places
abbrev pub keyed : List ℕ → ℕ → List Column → List ℕ → List Term → Table
keyed name tree columns key checks = table_of name tree columns None key (key ∷ []) (plain ∷ []) checks []

-- the index that such a key has
abbrev pub index_of : List ℕ → ℕ → ℕ → List ℕ → Index
index_of name tree table key = record { name = name; tree = tree; table = table; columns = key; order = plain; is_unique = true }

-- ---- the tables

-- the desk's own table: the version, in the one row with the id 1
abbrev pub desk_table : ℕ → Table
desk_table tree = numbered (codes "desk") tree (column_of (codes "id") Integer false ∷ column_of (codes "version") Integer true ∷ [])
    (op2 (Compare Eq Binary) (col 1 0) (lit (Int (pos 1))) ∷ []) []

-- deeds by number
abbrev pub deed_table : ℕ → Table
deed_table tree = numbered (codes "deed") tree (column_of (codes "num") Integer false ∷ column_of (codes "donor") Text true ∷ column_of (codes "signed") Integer true ∷ []) [] []

-- an image belongs to a deed that stands
abbrev pub to_deed : Reference
to_deed = record { columns = 3 ∷ []; parent = codes "deed"; parent_columns = codes "num" ∷ []; on_delete = NoAction; on_update = NoAction; is_deferred = false }

-- images by accession
abbrev pub image_table : ℕ → Table
image_table tree = numbered (codes "image") tree
    (column_of (codes "acc") Integer false ∷ column_of (codes "kind") Integer true ∷ column_of (codes "deed") Integer true ∷ column_of (codes "digest") Blob true
    ∷ column_of (codes "bytes") Blob true ∷ [])
    (between 2 0 1 ∷ []) (to_deed ∷ [])

-- the PRIMARY KEY of the rules: the band, the scope and the rank
abbrev pub rule_key : List ℕ
rule_key = 1 ∷ 2 ∷ 3 ∷ []

-- rules by place
abbrev pub rule_table : ℕ → Table
rule_table tree = keyed (codes "rule") tree
    (column_of (codes "band") Integer true ∷ column_of (codes "scope") Integer true ∷ column_of (codes "rank") Integer true ∷ column_of (codes "audiences") Integer true
    ∷ column_of (codes "day_from") Integer false ∷ column_of (codes "day_until") Integer false ∷ column_of (codes "how") Integer true
    ∷ column_of (codes "number") Integer true ∷ column_of (codes "word") Text true ∷ column_of (codes "effect") Integer true ∷ [])
    rule_key (between 1 0 1 ∷ between 4 1 7 ∷ between 7 0 4 ∷ between 10 0 2 ∷ [])

-- the PRIMARY KEY of the desk keys: the digest
abbrev pub badge_key : List ℕ
badge_key = 1 ∷ []

-- desk keys by digest, for the room or the staff
abbrev pub badge_table : ℕ → Table
badge_table tree = keyed (codes "badge") tree (column_of (codes "digest") Blob true ∷ column_of (codes "audience") Integer true ∷ []) badge_key (between 2 1 2 ∷ [])

-- the PRIMARY KEY of the checks: the accession and the day
abbrev pub checked_key : List ℕ
checked_key = 1 ∷ 2 ∷ []

-- the outcomes of checks
abbrev pub checked_table : ℕ → Table
checked_table tree = keyed (codes "checked") tree (column_of (codes "acc") Integer true ∷ column_of (codes "day") Integer true ∷ column_of (codes "outcome") Integer true ∷ [])
    checked_key (between 3 0 1 ∷ [])

-- the PRIMARY KEY of the files: the accession and the slot
abbrev pub found_key : List ℕ
found_key = 1 ∷ 2 ∷ []

-- a file of an image
abbrev pub found_table : ℕ → Table
found_table tree = keyed (codes "found") tree
    (column_of (codes "acc") Integer true ∷ column_of (codes "slot") Integer true ∷ column_of (codes "name") Text true ∷ column_of (codes "ty") Text true
    ∷ column_of (codes "user_no") Integer false ∷ column_of (codes "served") Integer true ∷ column_of (codes "size") Integer false
    ∷ column_of (codes "faults") Integer true ∷ column_of (codes "units") Blob true ∷ column_of (codes "last_len") Integer true ∷ [])
    found_key (between 6 0 1 ∷ between 8 0 127 ∷ [])

-- the error bytes of an image
abbrev pub marks_table : ℕ → Table
marks_table tree = numbered (codes "marks") tree (column_of (codes "acc") Integer false ∷ column_of (codes "bytes") Blob true ∷ []) [] []

-- the index of the rules, under the name that SQLite gives it
abbrev pub rule_index : Index
rule_index = index_of (codes "sqlite_autoindex_rule_1") 4 3 rule_key

-- the index of the desk keys
abbrev pub badge_index : Index
badge_index = index_of (codes "sqlite_autoindex_badge_1") 6 5 badge_key

-- the index of the checks
abbrev pub checked_index : Index
checked_index = index_of (codes "sqlite_autoindex_checked_1") 8 7 checked_key

-- the index of the files
abbrev pub found_index : Index
found_index = index_of (codes "sqlite_autoindex_found_1") 10 9 found_key

-- the tables that each version has, and these after them
abbrev pub desk_with : List Table → Schema
desk_with more = record {
  tables = desk_table 0 ∷ deed_table 1 ∷ image_table 2 ∷ rule_table 3 ∷ badge_table 5 ∷ checked_table 7 ∷ found_table 9 ∷ more;
  indexes = rule_index ∷ badge_index ∷ checked_index ∷ found_index ∷ [];
  views = [];
}

-- the tables of version 1
abbrev pub first_schema : Schema
first_schema = desk_with []

-- the tables of a desk, in the order in which a new desk makes them: eight, with four indexes
abbrev pub desk_schema : Schema
desk_schema = desk_with (marks_table 11 ∷ [])

-- a table `desk` that is kept as it is, since something on it is not understood, as a trigger
abbrev pub is_foreign_desk : View → Bool
is_foreign_desk view = unwrap_or (option_map (λ owner. same_name owner (codes "desk")) view.foreign) false && same_name view.name (codes "desk") && not view.binds

-- such a table stands; its columns are not told, since SQL does not understand something on it, such as a trigger,
-- and keeps it as it is
abbrev pub has_foreign_desk : Schema → Bool
has_foreign_desk schema = list_any is_foreign_desk schema.views

-- a table `desk` stands, in small or capital letters
abbrev pub has_desk : Schema → Bool
has_desk schema = list_any (λ table. same_name table.name (codes "desk")) schema.tables || has_foreign_desk schema

-- the columns of a `desk`, in small or capital letters
abbrev pub are_desk_columns : List Column → Bool
are_desk_columns (id ∷ version ∷ []) = same_name id.name (codes "id") && same_name version.name (codes "version")
are_desk_columns _ = false

-- a table `desk` of exactly these columns stands
abbrev pub has_desk_columns : Schema → Bool
has_desk_columns schema = list_any (λ table. same_name table.name (codes "desk") && are_desk_columns table.columns) schema.tables

-- a table `desk` of these columns stands, or one whose columns are not told
abbrev pub may_be_desk : Schema → Bool
may_be_desk schema = has_desk_columns schema || has_foreign_desk schema

-- the table is named `desk`, in small or capital letters
abbrev pub is_named_desk : Table → Bool
is_named_desk table = same_name table.name (codes "desk")

-- the rows of a table are on this tree
abbrev pub has_tree : List Table → ℕ → Bool
has_tree tables tree = list_any (λ table. table.tree == tree) tables

-- the table has the columns of a `desk`, of which `id` is the rowid, and a tree that none of these tables has
abbrev pub tells_version : List Table → Table → Bool
tells_version others table =
    are_desk_columns table.columns && is_key table.key 0 && nat_lt table.tree (2 ^ 31) && not (has_tree others table.tree)

-- The first table named `desk` tells a version by its rows, which are on this tree; whatever else stands.
pub record TellsVersion (tree : ℕ) (schema : Schema) : Type 0 where
  pub at : ℕ
  pub table : Table
  pub here : slice_get schema.tables at ≡ Some table
  pub named : is_named_desk table ≡ true
  pub first : list_any is_named_desk (take at schema.tables) ≡ false
  pub tells : tells_version (take at schema.tables) table ≡ true
  pub on : table.tree ≡ tree

-- Nothing stands: no table, no view and no index.
pub record IsBlank (schema : Schema) : Type 0 where
  pub tables : schema.tables ≡ []
  pub indexes : schema.indexes ≡ []
  pub views : schema.views ≡ []
