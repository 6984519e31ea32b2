-- What the statements mean over the one table, and what they make of it.
use Rattle.rd_chain.proofs.Common.{◌≡◌, ◌∙◌, ◌++◌, ◌<◌, ◌≤◌, ◌∷◌, ℕ, pos, List, [], arith, codes, map, refl, sym, ap, subst, false, Option, Ok, Result, Row, Term, Table, Task, Tally, Schema, Database, Does, Command, CreateTable, Insert, Enforced, Null, Int, Text, Blob, IsPermutation, IsPermutation-refl, lacks_sequence, statement_of, put_row, IsWrite, Makes, plain_mode, EndsAt, IsChainOf, IsEmpty, End, MOST_LINES, columns_of, history_schema, history_table, next_end, seen}
use Rattle.rd_chain.proofs.LineLemmas.{columns_put, end_more}
use Rattle.rd_tables.proofs.CreateTexts.{Creates}
use Rattle.sqlite.specs.Listing.{understood}
use Rattle.std.proofs.Common.{None}
use Rattle.sqlite.specs.Change.{created, next_tree}
use Rattle.sqlite.specs.Compile.{table_defined_by}
use Rattle.sqlite.specs.Source.TheVariants.{Values}
use Rattle.sqlite.specs.Term.{lit, col}
use Rattle.sqlite_tied.specs.Compute.{everything}
use Rattle.rd_tables.proofs.Common.{Chosen, cast_row, is_taken, with_rowid}
use Rattle.rd_tables.proofs.DatabaseSteps.{concluded}
use Rattle.rd_tables.proofs.TableSteps.{inserts, same_value, went}
use Rattle.rd_tables.proofs.Values.{cast_int, cast_null}

-- ---- the table

abbrev empty_schema : Schema
empty_schema = record { tables = []; indexes = []; views = [] }

abbrev pub create_text : List ℕ
create_text = codes "CREATE TABLE history (seq INTEGER PRIMARY KEY, line TEXT NOT NULL, sum BLOB NOT NULL) STRICT"

defined : table_defined_by create_text ≡ Ok history_table
unfolding everything
defined = refl

creates : Creates empty_schema create_text history_schema
unfolding understood everything
creates = record { command = refl; plain = (refl, refl); whole = refl; table = history_table; defined = defined; is = refl; unsequenced = refl }

pub create_writes : IsWrite empty_schema create_text CreateTable
create_writes = record { is = creates.command; plain = creates.plain; writes = λ old new statement params count h. h; no_commit = λ e. absurd cc; no_release = λ name e. absurd cc }

-- the table is made, without rows
made : (limit : Option ℕ) (db now : Database) (tally : Tally) → db.schema ≡ empty_schema → Does limit plain_mode [] db create_text None CreateTable (Ok (tally, now)) → (now.schema ≡ history_schema) × (now.trees 0 ≡ [])
made limit db now tally has h =
    let all = went h in
    let first = went all.1 in
    let made = first.1 in
    let defined : ◌≡◌ {A = Result Table _} (Ok made.table) (Ok history_table) = sym made.defined ∙ defined in
    let same : made.table ≡ history_table = same_value defined in
    let schema : first.0.schema ≡ history_schema = made.is ∙ ap (λ x. created x made.table) has ∙ ap (created empty_schema) same in
    let none : lacks_sequence first.0.schema ≡ false = ap lacks_sequence schema ∙ creates.unsequenced in
    let is : now ≡ first.0 = ap (λ (p : Tally × Database). p.1) (same_value all.2) ∙ same_value (rw none at first.2) in
    let fresh : first.0.trees 0 ≡ [] = subst (λ x. first.0.trees (next_tree x) ≡ []) has made.empty in
    (ap (λ (d : Database). d.schema) is ∙ schema, subst (λ (d : Database). d.trees 0 ≡ []) (sym is) fresh)

pub makes_table : Makes empty_schema create_text CreateTable create_writes [] IsEmpty (IsChainOf [])
makes_table limit db after tally empty does sound =
    let it = made limit db after tally empty.schema (subst (λ text. Does limit plain_mode [] db text None CreateTable (Ok (tally, after))) creates.whole does) in
    record { schema = it.0; rows = subst (λ rows. IsPermutation [] (map seen rows)) (sym it.1) (IsPermutation-refl []); few = omega arith; sound = sound }

-- ---- a line

abbrev pub put_text : List ℕ
put_text = codes "INSERT INTO history (seq, line, sum) VALUES (?1, ?2, ?3)"

abbrev pub put_line : Command
put_line = Insert 0 (Values (col 0 0 ∷ lit Null ∷ col 0 1 ∷ col 0 2 ∷ []) 4)

pub put_writes : IsWrite history_schema put_text put_line
unfolding understood everything
put_writes = record { is = refl; plain = (refl, refl); writes = λ old new statement params count h. h; no_commit = λ e. absurd cc; no_release = λ name e. absurd cc }

module _ (end : End) (line : List ℕ) where
  abbrev pub params : Row
  params = Int (pos end.number) ∷ Text line ∷ Blob end.sum ∷ []

  abbrev new_row : Row
  new_row = Int (pos end.number) ∷ Null ∷ Text line ∷ Blob end.sum ∷ []

  -- the row is put in, whose rowid was free
  puts : (statement : List ℕ) (limit : Option ℕ) (db after : Database) (tally : Tally) → db.schema ≡ history_schema → Does limit plain_mode params db statement None put_line (Ok (tally, after))
      → (is_taken (db.trees 0) new_row ≡ false) × (after.schema ≡ history_schema) × (after.trees 0 ≡ put_row new_row (db.trees 0))
  puts statement limit db after tally schema h =
      let task : Task = record { limit = limit; keys = Enforced; schema = history_schema; table = history_table; params = params } in
      let over = subst (λ s. Does limit plain_mode params (record db { schema = s }) statement None put_line (Ok (tally, after))) schema h in
      let done = went over in
      let ends = concluded task plain_mode done.0 (tally, after) done.2 in
      let terms : List Term = col 0 0 ∷ lit Null ∷ col 0 1 ∷ col 0 2 ∷ [] in
      let is : with_rowid Chosen (db.trees 0) (cast_row history_table new_row) ≡ new_row = rw (cast_int (pos end.number), cast_null) refl in
      let it = inserts task (λ olds. refl) (λ olds row. refl) refl terms 4 new_row db.trees done.0 refl done.1 new_row is in
      (it.0, ap (λ (d : Database). d.schema) ends, ap (λ (d : Database). d.trees 0) ends ∙ it.1.now)

pub makes_line : (end : End) (line : List ℕ) (before : List (List ℕ)) → end.number < MOST_LINES → Makes history_schema put_text put_line put_writes (params (next_end end line) line) (EndsAt end before) (EndsAt (next_end end line) (before ++ line ∷ []))
makes_line end line before few limit db after tally ends does sound =
    let next = next_end end line in
    let is = end_more end before line ends.1 in
    let low : next.number ≤ MOST_LINES = omega (arith, few) in
    let it = puts next line (statement_of put_text (understood history_schema put_text)) limit db after tally ends.0.schema does in (
      record {
        schema = it.1;
        rows = subst (λ rows. IsPermutation (columns_of (before ++ line ∷ [])) (map seen rows)) (sym it.2) (columns_put before line next (new_row next line) (db.trees 0) is refl it.0 ends.0.rows);
        few = subst (λ (e : End). e.number ≤ MOST_LINES) is low;
        sound = sound;
      },
      is,
    )

pub ends_schema : (end : End) (these : List (List ℕ)) (db : Database) → EndsAt end these db → db.schema ≡ history_schema
ends_schema end these db ends = ends.0.schema

pub empty_is : (db : Database) → IsEmpty db → db.schema ≡ empty_schema
empty_is db empty = empty.schema
