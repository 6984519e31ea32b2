-- What the text that asks for the version means, wherever the table `desk` stands.
use Rattle.rd_tables.proofs.Common.{◌≡◌, ◌∙◌, ℕ, zero, suc, ◌+◌, ◌-◌, ◌^◌, ◌<◌, ◌≤◌, ◌==◌, ◌||◌, ◌&&◌, not, Bool, true, false, List, [], ◌∷◌, ◌++◌, length, take, get_or, slice_get, codes, Option, Some, None, refl, sym, ap, subst, arith, nat_le, nat_lt, eq-eqb, eqb-true, is_ok, Ok, Err, negsuc, nat_tests, list_any, position_from, Table, Schema, column_named, is_key, place_of, Int, lit, col, TellsVersion, are_desk_columns, desk_table, desk_with, has_tree, is_named_desk, tells_version, version_text, version_query}
use Rattle.rd_tables.proofs.ListLemmas.{both, negated, or_true}
use Rattle.std.specs.List.{find}
use Rattle.sqlite.specs.Listing.{understood}
use Rattle.sqlite_value.specs.declared.keys.Collation.{Collation}
use Rattle.sqlite_schema.specs.declared.schema.Column.{Column}
use Rattle.sqlite_schema.specs.declared.command.Command.TheVariants as command
use Rattle.sqlite_schema.specs.declared.program.Table.{Table as Let}
use Rattle.sqlite_schema.specs.declared.program.Program.{Program}
use Rattle.sqlite_schema.specs.Names.{same_name}
use Rattle.sqlite_tied.specs.Compute.{everything}
use Rattle.sqlite_sql.specs.Term.{Term}
use Rattle.sqlite_draft.specs.declared.join.Step.TheVariants.{Inner}
use Rattle.sqlite_draft.specs.declared.query.Draft.{Draft}
use Rattle.sqlite_draft.specs.Join.{chain}
use Rattle.sqlite_draft.specs.Query.{query_of}
use Rattle.sqlite_ast.specs.declared.Core.{Core, out-Core}
use Rattle.sqlite_ast.specs.declared.Select.{Select, out-Select}
use Rattle.sqlite_ast.specs.declared.Expr.{Expr, out-Expr}
use Rattle.sqlite_ast.specs.declared.Expr.TheOpen.{Expr-F, Shown-F}
use Rattle.sqlite_ast.specs.declared.Origin.TheVariants as origin
use Rattle.sqlite_ast.specs.declared.Shown.{Shown as ShownColumn, out-Shown}
use Rattle.sqlite_ast.specs.declared.Source.{Source, out-Source}
use Rattle.sqlite_ast.specs.declared.Sort.{Sort}
use Rattle.sqlite_ast.specs.declared.Statement.{Statement}
use Rattle.sqlite_ast.specs.declared.Statement.TheVariants as written
use Rattle.sqlite_syntax.specs.declared.statement.Parsed.{Parsed}
use Rattle.sqlite_resolve.specs.declared.state.Carried.{Carried}
use Rattle.sqlite_resolve.specs.declared.state.State.{State}
use Rattle.sqlite_resolve.specs.declared.scope.Bound.{Bound}
use Rattle.sqlite_resolve.specs.declared.scope.Output.{Output}
use Rattle.sqlite_resolve.specs.declared.body.Body.{Body}
use Rattle.sqlite_resolve.specs.Lowering.{Checked, Lowering, begin, finish, fresh, max_budget, nothing, spend, take_slot}
use Rattle.sqlite_resolve.specs.declared.scope.Found.TheVariants as found
use Rattle.sqlite_resolve.specs.Scope as scope
use Rattle.sqlite_resolve.specs.Scope.{Context, Name, column, column_at, column_in, find as find_name, hit, in_level, is_among, only, term_of}
use Rattle.sqlite_resolve.specs.Body.{body, bound, bounds, declared, heading, inner_join, is_column, join, joins, matching, outputs, result, shared, shown, table_in, tests, within}
use Rattle.sqlite_resolve.specs.Order.{keys, sorts}
use Rattle.sqlite_resolve.specs.Expr.{lower, lower_to, node, opened, passes}
use Rattle.sqlite_resolve.specs.Terms.{number}
use Rattle.sqlite_resolve.specs.Select as one
use Rattle.sqlite_resolve.specs.Program.{Building, Shown, alone, level, program, query, query_to, single, sources, viewing, whole, with}
use Rattle.sqlite_resolve.specs.Compile.{command as command_in, compiled, first, meaning, planned, read, returning, timed}
use Rattle.sqlite_catalog.proofs.SoundLemmas.{lowered}
use Rattle.rd_tables.proofs.QueryTexts.{AsksOver}

-- ---- tests

some_same : {X : Type 0} (x y : X) → ◌≡◌ {A = Option X} (Some x) (Some y) → x ≡ y
some_same x y is = cc

or_first : (a b : Bool) → (a || b) ≡ false → a ≡ false
or_first true b is = is
or_first false b is = refl

or_rest : (a b : Bool) → (a || b) ≡ false → b ≡ false
or_rest true b is = absurd cc
or_rest false b is = is

-- ---- places of a list

pub item_at : {X : Type 0} (x : X) (xs : List X) (at : ℕ) → at < length xs → x ≡ get_or xs at x → slice_get xs at ≡ Some x
item_at x [] at low is = absurd (omega (arith, low))
item_at x (y ∷ ys) zero low is = ap Some (sym is)
item_at x (y ∷ ys) (suc at) low is = item_at x ys at (omega (arith, low)) is

pub all_taken : {X : Type 0} (xs : List X) (at : ℕ) → length xs ≤ at → take at xs ≡ xs
all_taken [] zero most = refl
all_taken [] (suc at) most = refl
all_taken (x ∷ xs) zero most = absurd (omega (arith, most))
all_taken (x ∷ xs) (suc at) most = ap (λ more. x ∷ more) (all_taken xs at (omega (arith, most)))

-- ---- the first item that passes

module _ {X : Type 0} (p : X → Bool) (x : X) (passes : p x ≡ true) where
  position_first : (xs : List X) (at i : ℕ) → slice_get xs at ≡ Some x → list_any p (take at xs) ≡ false → position_from p i xs ≡ Some (i + at)
  position_first [] at i here none = absurd cc
  position_first (y ∷ ys) zero i here none =
      let test : p y ≡ true = ap p (some_same y x here) ∙ passes in
      let place : i ≡ i + zero = omega arith in
      rw test (ap Some place)
  position_first (y ∷ ys) (suc at) i here none =
      let test : p y ≡ false = or_first (p y) _ none in
      let place : i + 1 + at ≡ i + suc at = omega arith in
      rw test (position_first ys at (i + 1) here (or_rest (p y) _ none) ∙ ap Some place)

  found_first : (xs : List X) (at : ℕ) → slice_get xs at ≡ Some x → list_any p (take at xs) ≡ false → find p xs ≡ Some x
  found_first [] at here none = absurd cc
  found_first (y ∷ ys) zero here none = let test : p y ≡ true = ap p (some_same y x here) ∙ passes in rw test here
  found_first (y ∷ ys) (suc at) here none = let test : p y ≡ false = or_first (p y) _ none in rw test (found_first ys at here (or_rest (p y) _ none))

  some_passes : (xs : List X) (at : ℕ) → slice_get xs at ≡ Some x → list_any p xs ≡ true
  some_passes [] at here = absurd cc
  some_passes (y ∷ ys) zero here = let test : p y ≡ true = ap p (some_same y x here) ∙ passes in rw test refl
  some_passes (y ∷ ys) (suc at) here = or_true (p y) _ (some_passes ys at here)

-- ---- from one SELECT over stored tables to the command

module _ (subquery : Schema → Select → Building Shown) (outer : Schema) (core : Core) (order : List Sort) (page : Term × Term) where
  met_once : (more : ℕ) (schema : Schema) (shown : Shown) → one.named schema core order page ≡ Ok shown → (lets : List Let) → viewing subquery outer core order page (suc more) schema lets ≡ Ok ((shown, schema), lets)
  unfolding viewing
  met_once more schema shown is lets = rw is refl

module _ (subquery : Schema → Select → Building Shown) (schema : Schema) (s : Select) (page : Term × Term) (shown : Shown) (no_with : with subquery schema (out-Select s).with [] ≡ Ok (schema, []))
    (no_others : (out-Select s).others ≡ []) (stored : sources subquery schema (out-Core (out-Select s).first).from [] ≡ Ok (schema, [])) (paged : one.paging schema s ≡ Ok page)
    (is : one.named schema (out-Select s).first (out-Select s).order page ≡ Ok shown) where
  one_level : level subquery schema s [] ≡ Ok (shown, [])
  unfolding level whole alone single
  one_level = rw (no_with, paged, no_others, stored, met_once subquery schema (out-Select s).first (out-Select s).order page 63 schema shown is []) refl

module _ (schema : Schema) (text : List ℕ) (p : Parsed) (s : Select) (d : Draft) (names : List Name) (by : List (Option Collation)) (made : Program) (is_first : first text ≡ Ok p) (is_select : p.statement ≡ written.Select s)
    (no_names : p.names ≡ []) (no_formats : p.formats ≡ []) (asked : query schema s ≡ Ok ((d, names, by), [])) (is_made : program schema [] d ≡ Ok made) where
  one_command : compiled schema text ≡ Ok (record { command = command.Select made names; returning = None; names = []; formats = []; start = p.start; end = p.end; tail = p.tail })
  unfolding compiled planned meaning timed returning command_in read
  one_command = rw (is_first, is_select, no_names, no_formats, asked, is_made) refl

-- ---- the text

parsed_of : (r : Checked Parsed) → is_ok r ≡ true → (p : Parsed) × (r ≡ Ok p)
parsed_of (Ok p) ok = (p, refl)
parsed_of (Err e) ok = absurd cc

text_parsed : (p : Parsed) × (first version_text ≡ Ok p)
unfolding everything
text_parsed = parsed_of (first version_text) refl

is_select : Statement → Bool
is_select (written.Select s) = true
is_select _ = false

select_of : (statement : Statement) → is_select statement ≡ true → (s : Select) × (statement ≡ written.Select s)
unfolding is_select
select_of (written.Select s) is = (s, refl)
select_of _ is = absurd cc

-- what the text selects
selected : (s : Select) × (text_parsed.0.statement ≡ written.Select s)
unfolding everything parsed_of text_parsed is_select
selected = select_of text_parsed.0.statement refl

abbrev core : Core
core = (out-Select selected.0).first

-- the columns that it names
columns : (x : ShownColumn) × (y : ShownColumn) × ((out-Core core).shown ≡ x ∷ y ∷ [])
unfolding everything parsed_of text_parsed is_select select_of selected
columns = (_, _, refl)

id_shown : (e : Expr) × (text : Name) × (out-Shown columns.0 ≡ Shown-F.One e None text)
unfolding everything parsed_of text_parsed is_select select_of selected columns
id_shown = (_, _, refl)

id_named : out-Expr id_shown.0 ≡ Expr-F.Column None (codes "id")
unfolding everything parsed_of text_parsed is_select select_of selected columns id_shown
id_named = refl

version_shown : (e : Expr) × (text : Name) × (out-Shown columns.1 ≡ Shown-F.One e None text)
unfolding everything parsed_of text_parsed is_select select_of selected columns
version_shown = (_, _, refl)

version_named : out-Expr version_shown.0 ≡ Expr-F.Column None (codes "version")
unfolding everything parsed_of text_parsed is_select select_of selected columns version_shown
version_named = refl

-- the table that it names
desk_source : (source : Source) × ((out-Core core).from ≡ source ∷ [])
unfolding everything parsed_of text_parsed is_select select_of selected
desk_source = (_, refl)

desk_named : out-Source desk_source.0 ≡ record { is_left = false; origin = origin.Table (codes "desk"); alias = None; on = None; using = [] }
unfolding everything parsed_of text_parsed is_select select_of selected desk_source
desk_named = refl

no_filter : (out-Core core).filter ≡ None
unfolding everything parsed_of text_parsed is_select select_of selected
no_filter = refl

no_group : (out-Core core).group ≡ []
unfolding everything parsed_of text_parsed is_select select_of selected
no_group = refl

no_having : (out-Core core).having ≡ None
unfolding everything parsed_of text_parsed is_select select_of selected
no_having = refl

no_distinct : (out-Core core).distinct ≡ false
unfolding everything parsed_of text_parsed is_select select_of selected
no_distinct = refl

no_order : (out-Select selected.0).order ≡ []
unfolding everything parsed_of text_parsed is_select select_of selected
no_order = refl

-- a table with two columns, of which the first is the rowid
abbrev told : Column → Column → ℕ → Table → Table
told id version tree t = record t { columns = id ∷ version ∷ []; key = Some 0; tree = tree }

abbrev draft : ℕ → Draft
draft tree = record { from = chain (Inner tree ∷ []); filter = []; group = None; project = col 1 0 ∷ col 1 2 ∷ []; distinct = false; collations = []; order = []; limit = lit (Int (negsuc 0)); offset = number 0 }

-- what is read of it on the way
abbrev bound_at : ℕ → Bound
bound_at at = record { name = codes "desk"; table = at; slot = 1; shared = [] }

abbrev state : ℕ → Carried → State
state budget carried = record { next = 2; steps = []; aggregates = []; budget = budget; written = None; last = carried }

abbrev collated : Column → Carried
collated version = record { collation = Some version.collation; is_written = false }

abbrev id_output : Column → Output
id_output id = record { name = id.name; is_alias = false; is_column = true; term = col 1 0; carried = nothing }

abbrev version_output : Column → Output
version_output version = record { name = version.name; is_alias = false; is_column = true; term = col 1 2; carried = collated version }

abbrev read_body : ℕ → ℕ → Column → Column → Body
read_body at tree id version = record { level = record { tables = bound_at at ∷ []; shown = id_output id ∷ version_output version ∷ [] }; steps = Inner tree ∷ []; filter = [] }

-- in a query over one table
abbrev inside : Schema → ℕ → Context
inside s at = within (one.outermost s) (record { tables = bound_at at ∷ []; shown = [] }) true

abbrev output_of : Table → ℕ → Column → Output
output_of t k c = record { name = c.name; is_alias = false; is_column = true; term = col 1 (place_of t k); carried = scope.declared t k c }

module _ (s : Schema) (at : ℕ) (t : Table) (here : slice_get s.tables at ≡ Some t) (name : Name) (k : ℕ) (c : Column) (called : column_named t name ≡ Some k) (there : slice_get t.columns k ≡ Some c) where
  finds_column : find_name (inside s at) None name ≡ Ok (found.Column 1 at k)
  unfolding find_name in_level only hit column_in is_among
  finds_column = rw (here, called) refl

  reads_column : (budget : ℕ) → column (inside s at) None name (state budget nothing) ≡ Ok (col 1 (place_of t k), state budget (scope.declared t k c))
  unfolding column term_of column_at
  reads_column budget = rw (finds_column, here, there) refl

  module _ (depth budget : ℕ) (carried : Carried) (e : Expr) (is : out-Expr e ≡ Expr-F.Column None name) (spends : nat_lt 1 budget ≡ true) where
    lowers_column : lower_to (suc depth) (inside s at) e (state budget carried) ≡ Ok (col 1 (place_of t k), state (budget - 1) (scope.declared t k c))
    unfolding lower_to node opened spend begin finish passes
    lowers_column = rw (spends, is, reads_column (budget - 1)) refl

    shows_column : (done : List Output) (text : Name) (x : ShownColumn) → out-Shown x ≡ Shown-F.One e None text
        → shown (lower_to (suc depth)) (inside s at) (bound_at at ∷ []) done x (state budget carried) ≡ Ok (done ++ output_of t k c ∷ [], state (budget - 1) (scope.declared t k c))
    unfolding shown heading is_column declared
    shows_column done text x as_one = rw (as_one, lowers_column, is, finds_column, here, there) refl

module _ (s : Schema) (at : ℕ) (named : position_from is_named_desk 0 s.tables ≡ Some at) (source : Source) (is : out-Source source ≡ record { is_left = false; origin = origin.Table (codes "desk"); alias = None; on = None; using = [] }) where
  binds_desk : bounds s (source ∷ []) (fresh 1 max_budget) ≡ Ok (bound_at at ∷ [], state 100000 nothing)
  unfolding bounds bound take_slot table_in
  binds_desk = rw (is, named) refl

module _ (s : Schema) (at : ℕ) (t : Table) (here : slice_get s.tables at ≡ Some t) (source : Source) (is : out-Source source ≡ record { is_left = false; origin = origin.Table (codes "desk"); alias = None; on = None; using = [] }) where
  joins_desk : (into : Context → Expr → Lowering Term) (cx : Context) → cx.schema ≡ s → (held : State) → joins into cx (bound_at at ∷ []) (source ∷ []) held ≡ Ok (record { steps = Inner t.tree ∷ []; filter = [] }, held)
  unfolding joins join shared inner_join tests
  joins_desk into cx over held = rw (is, over, here) refl

module _ (s : Schema) (at tree : ℕ) (t : Table) (id version : Column) (named : position_from is_named_desk 0 s.tables ≡ Some at)
    (here : slice_get s.tables at ≡ Some (told id version tree t)) (typed : find (λ o. o.tree == tree) s.tables ≡ Some (told id version tree t)) (low : nat_le (2 ^ 31) tree ≡ false)
    (is_id : same_name id.name (codes "id") ≡ true) (not_version : same_name id.name (codes "version") ≡ false) (is_version : same_name version.name (codes "version") ≡ true) where
  id_called : column_named (told id version tree t) (codes "id") ≡ Some 0
  id_called = rw is_id refl

  version_called : column_named (told id version tree t) (codes "version") ≡ Some 1
  version_called = rw (not_version, is_version) refl

  table_bound : bounds s (out-Core core).from (fresh 1 max_budget) ≡ Ok (bound_at at ∷ [], state 100000 nothing)
  table_bound = rw desk_source.1 (binds_desk s at named desk_source.0 desk_named)

  shows_id : shown lower (inside s at) (bound_at at ∷ []) [] columns.0 (state 100000 nothing) ≡ Ok (id_output id ∷ [], state 99999 nothing)
  shows_id = shows_column s at (told id version tree t) here (codes "id") 0 id id_called refl 699 100000 nothing id_shown.0 id_named refl [] id_shown.1 columns.0 id_shown.2

  shows_version : shown lower (inside s at) (bound_at at ∷ []) (id_output id ∷ []) columns.1 (state 99999 nothing) ≡ Ok (id_output id ∷ version_output version ∷ [], state 99998 (collated version))
  shows_version =
      shows_column s at (told id version tree t) here (codes "version") 1 version version_called refl 699 99999 nothing version_shown.0 version_named refl (id_output id ∷ []) version_shown.1 columns.1 version_shown.2

  shows_both : result lower (one.outermost s) (record { tables = bound_at at ∷ []; shown = [] }) core (state 100000 nothing) ≡ Ok (id_output id ∷ version_output version ∷ [], state 99998 (collated version))
  unfolding result outputs
  shows_both = rw (columns.2, shows_id, shows_version) refl

  joins_one : matching lower (one.outermost s) (record { tables = bound_at at ∷ []; shown = id_output id ∷ version_output version ∷ [] }) core (state 99998 (collated version)) ≡ Ok (record { steps = Inner tree ∷ []; filter = [] }, state 99998 (collated version))
  unfolding matching tests
  joins_one =
      let cx = within (one.outermost s) (record { tables = bound_at at ∷ []; shown = id_output id ∷ version_output version ∷ [] }) false in
      rw (desk_source.1, joins_desk s at (told id version tree t) here desk_source.0 desk_named lower cx refl (state 99998 (collated version)), no_filter) refl

  one_body : body lower (one.outermost s) core (fresh 1 max_budget) ≡ Ok (read_body at tree id version, state 99998 (collated version))
  unfolding body
  one_body = rw (table_bound, shows_both, joins_one) refl

  all_parts : one.parts s core (out-Select selected.0).order (fresh 1 max_budget)
      ≡ Ok (record { body = read_body at tree id version; is_grouped = false; keys = []; collations = []; having = []; order = [] }, state 99998 (collated version))
  unfolding one.parts one.having tests keys sorts
  all_parts = rw (one_body, no_group, no_having, no_order) refl

  -- one SELECT
  one_select : one.named s core (out-Select selected.0).order (lit (Int (negsuc 0)), number 0) ≡ Ok (draft tree, id.name ∷ version.name ∷ [], None ∷ Some version.collation ∷ [])
  unfolding one.named one.assembled one.ungrouped
  one_select = rw (all_parts, no_distinct) refl

  one_program : program s [] (draft tree) ≡ Ok (record { lets = []; body = query_of (draft tree) })
  unfolding everything
  one_program = rw (low, typed) refl

  one_page : one.paging s selected.0 ≡ Ok (lit (Int (negsuc 0)), number 0)
  unfolding everything parsed_of text_parsed is_select select_of selected
  one_page = refl

  no_with : (subquery : Schema → Select → Building Shown) → with subquery s (out-Select selected.0).with [] ≡ Ok (s, [])
  unfolding everything parsed_of text_parsed is_select select_of selected
  no_with subquery = refl

  no_others : (out-Select selected.0).others ≡ []
  unfolding everything parsed_of text_parsed is_select select_of selected
  no_others = refl

  all_stored : (subquery : Schema → Select → Building Shown) → sources subquery s (out-Core (out-Select selected.0).first).from [] ≡ Ok (s, [])
  unfolding everything parsed_of text_parsed is_select select_of selected
  all_stored subquery = refl

  one_query : query s selected.0 ≡ Ok ((draft tree, id.name ∷ version.name ∷ [], None ∷ Some version.collation ∷ []), [])
  unfolding query query_to
  one_query = one_level (query_to 15) s selected.0 (lit (Int (negsuc 0)), number 0) (draft tree, id.name ∷ version.name ∷ [], None ∷ Some version.collation ∷ []) (no_with (query_to 15)) no_others (all_stored (query_to 15)) one_page one_select

  no_names : text_parsed.0.names ≡ []
  unfolding everything parsed_of text_parsed
  no_names = refl

  no_formats : text_parsed.0.formats ≡ []
  unfolding everything parsed_of text_parsed
  no_formats = refl

  desk_asks : AsksOver s version_text tree [] (version_query tree).project []
  unfolding understood
  desk_asks =
      let p = text_parsed.0 in
      let means = one_command s version_text p selected.0 (draft tree) (id.name ∷ version.name ∷ []) (None ∷ Some version.collation ∷ []) (record { lets = []; body = query_of (draft tree) }) text_parsed.1 selected.1 no_names no_formats one_query one_program in
      record { names = id.name ∷ version.name ∷ []; means = rw means refl; plain = rw means (refl, refl); stored = rw means refl; here = λ trees. rw low refl }

-- ---- the table `desk` of a schema

-- the columns of a `desk` by name
module _ (id version : Column) (are : (same_name id.name (codes "id") && same_name version.name (codes "version")) ≡ true) where
  first_id : same_name id.name (codes "id") ≡ true
  first_id = (both _ _ are).0

  then_version : same_name version.name (codes "version") ≡ true
  then_version = (both _ _ are).1

  apart : same_name id.name (codes "version") ≡ false
  unfolding same_name
  apart = rw ((lowered id.name (codes "id")).0 first_id) refl

key_of : (key : Option ℕ) → is_key key 0 ≡ true → key ≡ Some 0
key_of None is = absurd cc
key_of (Some k) is = ap Some (eqb-true k 0 is)

abbrev Tells : List Table → Table → Type 0
Tells others t = (are_desk_columns t.columns ≡ true) × (is_key t.key 0 ≡ true) × (nat_lt t.tree (2 ^ 31) ≡ true) × (has_tree others t.tree ≡ false)

told_parts : (others : List Table) (t : Table) → tells_version others t ≡ true → Tells others t
told_parts others t is =
    let alone = both (are_desk_columns t.columns && is_key t.key 0 && nat_lt t.tree (2 ^ 31)) (not (has_tree others t.tree)) is in
    let low = both (are_desk_columns t.columns && is_key t.key 0) (nat_lt t.tree (2 ^ 31)) alone.0 in
    let sides = both (are_desk_columns t.columns) (is_key t.key 0) low.0 in
    (sides.0, sides.1, low.1, negated _ alone.1)

module _ (s : Schema) where
  place_of_desk : (tree : ℕ) (d : TellsVersion tree s) → position_from is_named_desk 0 s.tables ≡ Some (0 + d.at)
  place_of_desk tree d = position_first is_named_desk d.table d.named s.tables d.at 0 d.here d.first

  one_place : (tree at : ℕ) (table : Table) → TellsVersion tree s → slice_get s.tables at ≡ Some table → is_named_desk table ≡ true → list_any is_named_desk (take at s.tables) ≡ false → tells_version (take at s.tables) table ≡ true
  one_place tree at table d here named first =
      let places : 0 + d.at ≡ 0 + at = some_same _ _ (sym (place_of_desk tree d) ∙ position_first is_named_desk table named s.tables at 0 here first) in
      let place : d.at ≡ at = omega (arith, places) in
      let same : d.table ≡ table = some_same _ _ (sym d.here ∙ ap (slice_get s.tables) place ∙ here) in
      subst (λ i. tells_version (take i s.tables) table ≡ true) place (subst (λ t. tells_version (take d.at s.tables) t ≡ true) same d.tells)

  -- where the first of that name does not, none tells a version
  pub none_told : (at : ℕ) (table : Table) → slice_get s.tables at ≡ Some table → is_named_desk table ≡ true → list_any is_named_desk (take at s.tables) ≡ false → tells_version (take at s.tables) table ≡ false
      → ¬ ((tree : ℕ) × TellsVersion tree s)
  none_told at table here named first fails = λ (tree, d). let tells = one_place tree at table d here named first in cc

  pub none_named : list_any is_named_desk s.tables ≡ false → ¬ ((tree : ℕ) × TellsVersion tree s)
  none_named none = λ (tree, d). let some = some_passes is_named_desk d.table d.named s.tables d.at d.here in cc

  -- it has one tree
  pub one_tree : (tree other : ℕ) → TellsVersion tree s → TellsVersion other s → tree ≡ other
  one_tree tree other d e =
      let places : 0 + d.at ≡ 0 + e.at = some_same _ _ (sym (place_of_desk tree d) ∙ place_of_desk other e) in
      let place : d.at ≡ e.at = omega (arith, places) in
      let table : d.table ≡ e.table = some_same _ _ (sym d.here ∙ ap (slice_get s.tables) place ∙ e.here) in
      sym d.on ∙ ap (λ (t : Table). t.tree) table ∙ e.on

  -- the text asks for its rows
  pub version_asks : (tree : ℕ) → TellsVersion tree s → AsksOver s version_text tree [] (version_query tree).project []
  version_asks tree d = by_columns d.table d.here d.named (told_parts (take d.at s.tables) d.table d.tells) d.on d.table.columns refl
    where
      by_columns : (t : Table) → slice_get s.tables d.at ≡ Some t → is_named_desk t ≡ true → Tells (take d.at s.tables) t → t.tree ≡ tree → (columns : List Column) → t.columns ≡ columns
          → AsksOver s version_text tree [] (version_query tree).project []
      by_columns t here named tells on [] is = let e = subst (λ cs. are_desk_columns cs ≡ true) is tells.0 in absurd cc
      by_columns t here named tells on (id ∷ []) is = let e = subst (λ cs. are_desk_columns cs ≡ true) is tells.0 in absurd cc
      by_columns t here named tells on (id ∷ version ∷ []) is =
          let are = subst (λ cs. are_desk_columns cs ≡ true) is tells.0 in
          let key : t.key ≡ Some 0 = key_of t.key tells.1 in
          let same : t ≡ told id version tree t = λ i. record t { columns = is i; key = key i; tree = on i } in
          let first : 0 + d.at ≡ d.at = omega arith in
          let alone : has_tree (take d.at s.tables) tree ≡ false = subst (λ n. has_tree (take d.at s.tables) n ≡ false) on tells.3 in
          let there : (t.tree == tree) ≡ true = eq-eqb t.tree tree on in
          let low : nat_le (2 ^ 31) tree ≡ false = subst (λ n. nat_le (2 ^ 31) n ≡ false) on (grind (arith, nat_tests, tells.2)) in
          desk_asks s d.at tree t id version (position_first is_named_desk t named s.tables d.at 0 here d.first ∙ ap Some first) (here ∙ ap Some same)
          (found_first (λ (o : Table). o.tree == tree) t there s.tables d.at here alone ∙ ap Some same) low (first_id id version are) (apart id version are) (then_version id version are)
      by_columns t here named tells on (id ∷ version ∷ third ∷ rest) is = let e = subst (λ cs. are_desk_columns cs ≡ true) is tells.0 in absurd cc

-- in the tables of each version it is the first
pub desk_first : (more : List Table) (tree : ℕ) → TellsVersion tree (desk_with more) → tree ≡ 0
unfolding same_name
desk_first more tree d = one_tree (desk_with more) tree 0 d (record { at = 0; table = desk_table 0; here = refl; named = refl; first = refl; tells = refl; on = refl })
