-- The list of objects of a desk's database tells one schema.
use Rattle.rd_store.proofs.Common.{◌≡◌, ◌∙◌, inl, inr, ℕ, zero, suc, ◌+◌, ◌≤◌, List, [], ◌∷◌, length, filter, slice_get, Option, Some, Result, Ok, true, refl, sym, ap, ap₂, subst, arith, pos, AllByRecursion, AllZip, Value, Null, Int, Real, Text, Blob, Row, column, Table, Schema, Trees, rowid, IsDatabase, Has, desk_with}
use Rattle.sqlite_schema.specs.declared.schema.Index.{Index}
use Rattle.sqlite_schema.specs.declared.schema.View.{View}
use Rattle.sqlite_schema.specs.Names.{same_name}
use Rattle.sqlite_catalog.specs.Listing.{AreListed, IsDefined, IsIndexRow, IsTableRow, IsViewRow, automatic, is_index_row, is_table_row, is_view_row}
use Rattle.sqlite_catalog.proofs.StepLemmas.{named_once, same_itself}
use Rattle.sqlite_resolve.specs.Compile.{table_defined_by}

same_tree : (row : Row) (a b : ℕ) → rowid row ≡ Int (pos (a + 1)) → rowid row ≡ Int (pos (b + 1)) → a ≡ b
same_tree row a b x y = let e : a + 1 ≡ b + 1 = cc in omega (arith, e)

same_text : (value : Value) (a b : List ℕ) → value ≡ Text a → value ≡ Text b → a ≡ b
same_text value a b x y = cc

same_ok : {X Y : Type 0} (r : Result X Y) (a b : X) → r ≡ Ok a → r ≡ Ok b → a ≡ b
same_ok r a b x y = cc

same_some : {X : Type 0} (o : Option X) (a b : X) → o ≡ Some a → o ≡ Some b → a ≡ b
same_some o a b x y = cc

-- ---- tables

one_table : (row : Row) (a b : Table) → IsTableRow row a → IsTableRow row b → a ≡ b
one_table row a b x y =
    let tree = same_tree row a.tree b.tree x.described.id y.described.id in
    let sql = same_text (column row 4) x.sql y.sql x.sql_is y.sql_is in
    let made : x.defined.0 ≡ y.defined.0 = same_ok _ _ _ (ap table_defined_by (sym sql) ∙ x.defined.1) y.defined.1 in
    x.defined.2 ∙ (λ i. record (made i) { tree = tree i }) ∙ sym y.defined.2

same_tables : (rows : List Row) (olds news : List Table) → AllZip IsTableRow rows olds → AllZip IsTableRow rows news → olds ≡ news
same_tables [] [] [] x y = refl
same_tables [] [] (b ∷ news) x y = absurd y
same_tables [] (a ∷ olds) news x y = absurd x
same_tables (row ∷ rows) [] news x y = absurd x
same_tables (row ∷ rows) (a ∷ olds) [] x y = absurd y
same_tables (row ∷ rows) (a ∷ olds) (b ∷ news) x y = ap₂ (λ t ts. t ∷ ts) (one_table row a b x.0 y.0) (same_tables rows olds news x.1 y.1)

-- ---- indexes

-- each table has one key at most besides its rowid
abbrev pub HaveOneKey : List Table → Type 0
HaveOneKey = AllByRecursion (λ (t : Table). length t.uniques ≤ 1)

key_of : (tables : List Table) (t : Table) → HaveOneKey tables → Has tables t → length t.uniques ≤ 1
key_of [] t all has = absurd has
key_of (x ∷ xs) t all (inl is) = subst (λ (u : Table). length u.uniques ≤ 1) (sym is) all.0
key_of (x ∷ xs) t all (inr more) = key_of xs t all.1 more

one_key : (keys : List (List ℕ)) → length keys ≤ 1 → (a b : ℕ) (k l : List ℕ) → slice_get keys a ≡ Some k → slice_get keys b ≡ Some l → a ≡ b
one_key [] short a b k l x y = absurd cc
one_key (key ∷ []) short zero zero k l x y = refl
one_key (key ∷ []) short zero (suc b) k l x y = absurd cc
one_key (key ∷ []) short (suc a) b k l x y = absurd cc
one_key (key ∷ other ∷ more) short a b k l x y = absurd (omega (arith, short))

module _ (tables : List Table) (short : HaveOneKey tables) (once : (s t : Table) → Has tables s → Has tables t → s.name ≡ t.name → s ≡ t) where
  same_index : (table : Table) → Has tables table → (value : Value) (a b : Index) → a.tree ≡ b.tree → IsDefined table a value → IsDefined table b value → a ≡ b
  same_index table listed Null a b tree x y =
      let at = one_key table.uniques (key_of tables table short listed) x.0 y.0 x.1 y.1 x.2 y.2 in
      let key : x.1 ≡ y.1 = same_some _ _ _ x.2 (ap (slice_get table.uniques) at ∙ y.2) in
      x.3 ∙ (λ i. automatic table (at i) (key i) (tree i)) ∙ sym y.3
  same_index table listed (Int n) a b tree x y = absurd x
  same_index table listed (Real r) a b tree x y = absurd x
  same_index table listed (Text sql) a b tree x y =
      let made : x.0 ≡ y.0 = same_ok _ _ _ x.1 y.1 in
      x.2 ∙ (λ i. record (made i) { tree = tree i; table = table.tree }) ∙ sym y.2
  same_index table listed (Blob bytes) a b tree x y = absurd x

  one_index : (row : Row) (a b : Index) → IsIndexRow tables row a → IsIndexRow tables row b → a ≡ b
  one_index row a b x y =
      let tree = same_tree row a.tree b.tree x.described.id y.described.id in
      let name = same_text (column row 3) x.table.name y.table.name x.described.owner_is y.described.owner_is in
      let table = once x.table y.table x.listed y.listed name in
      same_index x.table x.listed (column row 4) a b tree x.defined (subst (λ (t : Table). IsDefined t b (column row 4)) (sym table) y.defined)

  same_indexes : (rows : List Row) (olds news : List Index) → AllZip (IsIndexRow tables) rows olds → AllZip (IsIndexRow tables) rows news → olds ≡ news
  same_indexes [] [] [] x y = refl
  same_indexes [] [] (b ∷ news) x y = absurd y
  same_indexes [] (a ∷ olds) news x y = absurd x
  same_indexes (row ∷ rows) [] news x y = absurd x
  same_indexes (row ∷ rows) (a ∷ olds) [] x y = absurd y
  same_indexes (row ∷ rows) (a ∷ olds) (b ∷ news) x y = ap₂ (λ t ts. t ∷ ts) (one_index row a b x.0 y.0) (same_indexes rows olds news x.1 y.1)

-- ---- views

no_views : (rows : List Row) (views : List View) → AllZip IsViewRow rows [] → AllZip IsViewRow rows views → views ≡ []
no_views [] [] x y = refl
no_views [] (view ∷ views) x y = absurd y
no_views (row ∷ rows) views x y = absurd x

-- ---- the whole

-- two schemas of one list, of which one has no view and no table with two keys
same_schema : (objects : List Row) (a b : Schema) → AreListed objects a → AreListed objects b → a.views ≡ [] → HaveOneKey a.tables → b ≡ a
same_schema objects a b x y none short =
    let tables : b.tables ≡ a.tables = same_tables (filter is_table_row objects) b.tables a.tables y.tables x.tables in
    let once = λ (s t : Table) (hs : Has a.tables s) (ht : Has a.tables t) (name : s.name ≡ t.name). named_once a.tables s t x.named hs ht (subst (λ n. same_name s.name n ≡ true) name (same_itself s.name)) in
    let indexes : b.indexes ≡ a.indexes = same_indexes a.tables short once (filter is_index_row objects) b.indexes a.indexes (subst (λ ts. AllZip (IsIndexRow ts) (filter is_index_row objects) b.indexes) tables y.indexes) x.indexes in
    let views : b.views ≡ a.views = no_views (filter is_view_row objects) b.views (subst (AllZip IsViewRow (filter is_view_row objects)) none x.views) y.views ∙ sym none in
    λ i. record { tables = tables i; indexes = indexes i; views = views i }

-- the tables of either version, and one more at most
pub one_schema : (more : List Table) → HaveOneKey more → (schema : Schema) (trees : Trees) → IsDatabase (record { schema = desk_with more; trees = trees }) → IsDatabase (record { schema = schema; trees = trees }) → schema ≡ desk_with more
one_schema more short schema trees one other =
    same_schema _ (desk_with more) schema one.lists.listed other.lists.listed refl
    (omega arith, (omega arith, (omega arith, (omega arith, (omega arith, (omega arith, (omega arith, short)))))))
