-- What each statement makes of the rows of its table.
use Rattle.rd_tables.proofs.Common.{◌≡◌, ℕ, ℤ, pos, List, [], ◌∷◌, filter, Bool, true, false, not, Option, None, Ok, refl, ap, subst, ◌∙◌, is_eq, list_all, eq_by_cmp_equiv, Null, Int, Text, Blob, Row, value_cmp, put_row, has_rowid, without_rowid, with_rowid, next_rowid, is_taken, Database, Tally, Does, Task, Table, Term, cast_row, Chosen, or_null, Command, Enforced, value_cmp_total, HaveRowids, desk_schema, desk_table, deed_table, image_table, rule_table, badge_table, checked_table, found_table, marks_table, put_version, version_then, set_version, put_deed, by_number, deed_then, set_deed, put_image, put_rule, drop_rule, by_place, put_key, drop_key, by_digest, put_check, drop_check, by_checkup, put_file, put_marks}
use Rattle.sqlite.specs.Order.{column}
use Rattle.sqlite.specs.Term.{lit, col, holds}
use Rattle.rd_tables.proofs.ListLemmas.{filter_true}
use Rattle.rd_tables.proofs.Values.{cast_int, cast_null, cast_or_null}
use Rattle.rd_tables.proofs.RemovedRows.{removed_rows}
use Rattle.rd_tables.proofs.TableSteps.{SetsRows, went, inserts}
use Rattle.rd_tables.proofs.UpdateLemmas.{updates}
use Rattle.rd_tables.proofs.DeleteLemmas.{deletes}
use Rattle.rd_tables.proofs.StatementRuns.{plain_mode}
use Rattle.rd_tables.proofs.DatabaseSteps.{Sets, sets_rows, concluded}

-- the command, run with these parameters on a database of the desk, gave this one
abbrev pub Runs : List ℕ → Option ℕ → Row → Command → Database → Database → Tally → Type 0
Runs statement limit params command db after tally = Does limit plain_mode params db statement None command (Ok (tally, after))

-- over the tables of a desk
over_desk : (statement : List ℕ) (limit : Option ℕ) (params : Row) (command : Command) (db after : Database) (tally : Tally) → db.schema ≡ desk_schema → Runs statement limit params command db after tally
    → Runs statement limit params command (record db { schema = desk_schema }) after tally
over_desk statement limit params command db after tally schema h = subst (λ s. Runs statement limit params command (record db { schema = s }) after tally) schema h

abbrev task_on : Option ℕ → Table → Row → Task
task_on limit table params = record { limit = limit; keys = Enforced; schema = desk_schema; table = table; params = params }

-- a row was put in, whose rowid was free
abbrev pub PutsIn : ℕ → Database → Database → (List Row → Row) → Type 0
PutsIn tree db after new = (is_taken (db.trees tree) (new (db.trees tree)) ≡ false) × Sets tree db after (put_row (new (db.trees tree)) (db.trees tree))

-- the rows that pass a test were taken out
abbrev pub TakesOut : ℕ → Database → Database → (Row → Bool) → Type 0
TakesOut tree db after test = Sets tree db after (filter (λ row. not (test row)) (db.trees tree))

-- ---- the one row of the desk

abbrev pub version_row : Row
version_row = Int (pos 1) ∷ Null ∷ Int (pos 2) ∷ []

version_cast : cast_row (desk_table 0) version_row ≡ version_row
version_cast = rw (cast_int (pos 1), cast_int (pos 2), cast_null) refl

pub puts_version : (statement : List ℕ) (limit : Option ℕ) (db after : Database) (tally : Tally) → db.schema ≡ desk_schema → Runs statement limit [] put_version db after tally → PutsIn 0 db after (λ _. version_row)
puts_version statement limit db after tally schema h =
    let task = task_on limit (desk_table 0) [] in
    let done = went (over_desk statement limit [] put_version db after tally schema h) in
    let end = concluded task plain_mode done.0 (tally, after) done.2 in
    let terms : List Term = lit (Int (pos 1)) ∷ lit Null ∷ lit (Int (pos 2)) ∷ [] in
    let is : with_rowid Chosen (db.trees 0) (cast_row (desk_table 0) version_row) ≡ version_row = ap (with_rowid Chosen (db.trees 0)) version_cast in
    let it = inserts task (λ olds. refl) (λ olds row. refl) refl terms 3 version_row db.trees done.0 refl done.1 version_row is in
    (it.0, sets_rows 0 db after done.0.trees (put_row version_row (db.trees 0)) it.1 end)

-- where there is one row, with the id 1, it has the version 2 then
pub sets_version : (statement : List ℕ) (limit : Option ℕ) (db after : Database) (tally : Tally) → db.schema ≡ desk_schema → (row : Row) → db.trees 0 ≡ row ∷ [] → column row 0 ≡ Int (pos 1)
    → Runs statement limit [] set_version db after tally → Sets 0 db after (version_row ∷ [])
sets_version statement limit db after tally schema row one id h =
    let task = task_on limit (desk_table 0) [] in
    let done = went (over_desk statement limit [] set_version db after tally schema h) in
    let end = concluded task plain_mode done.0 (tally, after) done.2 in
    let passes : filter (λ (r : Row). true) (db.trees 0) ≡ row ∷ [] = filter_true (db.trees 0) ∙ one in
    let becomes = ap (λ v. v ∷ v ∷ Null ∷ Int (pos 2) ∷ []) id in
    let it = updates task (λ olds new. refl) [] version_then [] (λ trees. refl) db.trees done.0 row version_row (pos 1) passes becomes version_cast done.1 in
    let gone : without_rowid (pos 1) (db.trees 0) ≡ [] = ap (without_rowid (pos 1)) one ∙ dropped (pos 1) row (ap (λ v. is_eq (value_cmp v (Int (pos 1)))) id ∙ (eq_by_cmp_equiv value_cmp_total).refl (Int (pos 1))) in
    sets_rows 0 db after done.0.trees (version_row ∷ []) (subst (λ rows. SetsRows desk_schema 0 db.trees done.0.trees (put_row version_row rows)) gone it) end
  where
    dropped : (n : ℤ) (r : Row) → has_rowid n r ≡ true → without_rowid n (r ∷ []) ≡ []
    dropped n r is = rw is refl

-- ---- deeds

module _ (num : ℕ) (donor : List ℕ) (signed : ℤ) where
  abbrev pub deed_params : Row
  deed_params = Int (pos num) ∷ Text donor ∷ Int signed ∷ []

  abbrev pub deed_row : Row
  deed_row = Int (pos num) ∷ Null ∷ Text donor ∷ Int signed ∷ []

  deed_cast : cast_row (deed_table 1) deed_row ≡ deed_row
  deed_cast = rw (cast_int (pos num), cast_int signed, cast_null) refl

  pub puts_deed : (statement : List ℕ) (limit : Option ℕ) (db after : Database) (tally : Tally) → db.schema ≡ desk_schema → Runs statement limit deed_params put_deed db after tally → PutsIn 1 db after (λ _. deed_row)
  puts_deed statement limit db after tally schema h =
      let task = task_on limit (deed_table 1) deed_params in
      let done = went (over_desk statement limit deed_params put_deed db after tally schema h) in
      let end = concluded task plain_mode done.0 (tally, after) done.2 in
      let terms : List Term = col 0 0 ∷ lit Null ∷ col 0 1 ∷ col 0 2 ∷ [] in
      let is : with_rowid Chosen (db.trees 1) (cast_row (deed_table 1) deed_row) ≡ deed_row = ap (with_rowid Chosen (db.trees 1)) deed_cast in
      let it = inserts task (λ olds. refl) (λ olds row. refl) refl terms 4 deed_row db.trees done.0 refl done.1 deed_row is in
      (it.0, sets_rows 1 db after done.0.trees (put_row deed_row (db.trees 1)) it.1 end)

  -- the row is that of the number
  abbrev pub has_number : Row → Bool
  has_number row = list_all (holds (deed_params ∷ row ∷ [])) by_number

  -- where one row is, it is that of the deed then
  pub sets_deed : (statement : List ℕ) (limit : Option ℕ) (db after : Database) (tally : Tally) → db.schema ≡ desk_schema → (row : Row) → filter has_number (db.trees 1) ≡ row ∷ [] → column row 0 ≡ Int (pos num)
      → Runs statement limit deed_params set_deed db after tally → Sets 1 db after (put_row deed_row (without_rowid (pos num) (db.trees 1)))
  sets_deed statement limit db after tally schema row one id h =
      let task = task_on limit (deed_table 1) deed_params in
      let done = went (over_desk statement limit deed_params set_deed db after tally schema h) in
      let end = concluded task plain_mode done.0 (tally, after) done.2 in
      let becomes = ap (λ v. v ∷ v ∷ Null ∷ Text donor ∷ Int signed ∷ []) id in
      let it = updates task (λ olds new. refl) by_number deed_then deed_params (λ trees. refl) db.trees done.0 row deed_row (pos num) one becomes deed_cast done.1 in
      sets_rows 1 db after done.0.trees _ it end

-- ---- images

module _ (acc kind deed : ℕ) (digest bytes : List ℕ) where
  abbrev pub image_params : Row
  image_params = Int (pos acc) ∷ Int (pos kind) ∷ Int (pos deed) ∷ Blob digest ∷ Blob bytes ∷ []

  abbrev pub image_row : Row
  image_row = Int (pos acc) ∷ Null ∷ Int (pos kind) ∷ Int (pos deed) ∷ Blob digest ∷ Blob bytes ∷ []

  pub puts_image : (statement : List ℕ) (limit : Option ℕ) (db after : Database) (tally : Tally) → db.schema ≡ desk_schema → Runs statement limit image_params put_image db after tally → PutsIn 2 db after (λ _. image_row)
  puts_image statement limit db after tally schema h =
      let task = task_on limit (image_table 2) image_params in
      let done = went (over_desk statement limit image_params put_image db after tally schema h) in
      let end = concluded task plain_mode done.0 (tally, after) done.2 in
      let terms : List Term = col 0 0 ∷ lit Null ∷ col 0 1 ∷ col 0 2 ∷ col 0 3 ∷ col 0 4 ∷ [] in
      let is : with_rowid Chosen (db.trees 2) (cast_row (image_table 2) image_row) ≡ image_row = rw (cast_int (pos acc), cast_int (pos kind), cast_int (pos deed), cast_null) refl in
      let it = inserts task (λ olds. refl) (λ olds row. refl) refl terms 6 image_row db.trees done.0 refl done.1 image_row is in
      (it.0, sets_rows 2 db after done.0.trees (put_row image_row (db.trees 2)) it.1 end)

-- ---- rules

module _ (band scope rank : ℕ) where
  abbrev pub place_params : Row
  place_params = Int (pos band) ∷ Int (pos scope) ∷ Int (pos rank) ∷ []

  abbrev pub has_place : Row → Bool
  has_place row = list_all (holds (place_params ∷ row ∷ [])) by_place

  pub drops_rule : (statement : List ℕ) (limit : Option ℕ) (db after : Database) (tally : Tally) → db.schema ≡ desk_schema → HaveRowids (db.trees 3) → Runs statement limit place_params drop_rule db after tally → TakesOut 3 db after has_place
  drops_rule statement limit db after tally schema rowids h =
      let task = task_on limit (rule_table 3) place_params in
      let done = went (over_desk statement limit place_params drop_rule db after tally schema h) in
      let end = concluded task plain_mode done.0 (tally, after) done.2 in
      let it = deletes 3 by_place place_params (λ trees. refl) task (λ olds. refl) refl refl db.trees done.0 done.1 in
      let left = removed_rows has_place (db.trees 3) it.0 rowids it.1 in
      sets_rows 3 db after done.0.trees _ (subst (λ rows. SetsRows desk_schema 3 db.trees done.0.trees rows) left it.2) end

  module _ (audiences : ℕ) (from until : Option ℤ) (how number : ℕ) (word : List ℕ) (effect : ℕ) where
    abbrev pub rule_params : Row
    rule_params = Int (pos band) ∷ Int (pos scope) ∷ Int (pos rank) ∷ Int (pos audiences) ∷ or_null Int from ∷ or_null Int until ∷ Int (pos how) ∷ Int (pos number) ∷ Text word ∷ Int (pos effect) ∷ []

    abbrev pub rule_row : List Row → Row
    rule_row rows = Int (next_rowid rows) ∷ rule_params

    pub puts_rule : (statement : List ℕ) (limit : Option ℕ) (db after : Database) (tally : Tally) → db.schema ≡ desk_schema → Runs statement limit rule_params put_rule db after tally → PutsIn 3 db after rule_row
    puts_rule statement limit db after tally schema h =
        let task = task_on limit (rule_table 3) rule_params in
        let done = went (over_desk statement limit rule_params put_rule db after tally schema h) in
        let end = concluded task plain_mode done.0 (tally, after) done.2 in
        let rows = db.trees 3 in
        let terms : List Term = lit Null ∷ col 0 0 ∷ col 0 1 ∷ col 0 2 ∷ col 0 3 ∷ col 0 4 ∷ col 0 5 ∷ col 0 6 ∷ col 0 7 ∷ col 0 8 ∷ col 0 9 ∷ [] in
        let is : with_rowid Chosen rows (cast_row (rule_table 3) (Null ∷ rule_params)) ≡ rule_row rows =
        rw (cast_null, cast_int (pos band), cast_int (pos scope), cast_int (pos rank), cast_int (pos audiences), cast_or_null from, cast_or_null until, cast_int (pos how), cast_int (pos number), cast_int (pos effect)) refl in
        let it = inserts task (λ olds. refl) (λ olds row. refl) refl terms 11 (Null ∷ rule_params) db.trees done.0 refl done.1 (rule_row rows) is in
        (it.0, sets_rows 3 db after done.0.trees (put_row (rule_row rows) rows) it.1 end)

-- ---- desk keys

module _ (digest : List ℕ) where
  abbrev pub digest_params : Row
  digest_params = Blob digest ∷ []

  abbrev pub has_digest : Row → Bool
  has_digest row = list_all (holds (digest_params ∷ row ∷ [])) by_digest

  pub drops_key : (statement : List ℕ) (limit : Option ℕ) (db after : Database) (tally : Tally) → db.schema ≡ desk_schema → HaveRowids (db.trees 5) → Runs statement limit digest_params drop_key db after tally → TakesOut 5 db after has_digest
  drops_key statement limit db after tally schema rowids h =
      let task = task_on limit (badge_table 5) digest_params in
      let done = went (over_desk statement limit digest_params drop_key db after tally schema h) in
      let end = concluded task plain_mode done.0 (tally, after) done.2 in
      let it = deletes 5 by_digest digest_params (λ trees. refl) task (λ olds. refl) refl refl db.trees done.0 done.1 in
      let left = removed_rows has_digest (db.trees 5) it.0 rowids it.1 in
      sets_rows 5 db after done.0.trees _ (subst (λ rows. SetsRows desk_schema 5 db.trees done.0.trees rows) left it.2) end

  module _ (audience : ℕ) where
    abbrev pub key_params : Row
    key_params = Blob digest ∷ Int (pos audience) ∷ []

    abbrev pub key_row : List Row → Row
    key_row rows = Int (next_rowid rows) ∷ key_params

    pub puts_key : (statement : List ℕ) (limit : Option ℕ) (db after : Database) (tally : Tally) → db.schema ≡ desk_schema → Runs statement limit key_params put_key db after tally → PutsIn 5 db after key_row
    puts_key statement limit db after tally schema h =
        let task = task_on limit (badge_table 5) key_params in
        let done = went (over_desk statement limit key_params put_key db after tally schema h) in
        let end = concluded task plain_mode done.0 (tally, after) done.2 in
        let rows = db.trees 5 in
        let terms : List Term = lit Null ∷ col 0 0 ∷ col 0 1 ∷ [] in
        let is : with_rowid Chosen rows (cast_row (badge_table 5) (Null ∷ key_params)) ≡ key_row rows = rw (cast_null, cast_int (pos audience)) refl in
        let it = inserts task (λ olds. refl) (λ olds row. refl) refl terms 3 (Null ∷ key_params) db.trees done.0 refl done.1 (key_row rows) is in
        (it.0, sets_rows 5 db after done.0.trees (put_row (key_row rows) rows) it.1 end)

-- ---- checks

module _ (acc : ℕ) (day : ℤ) where
  abbrev pub checkup_params : Row
  checkup_params = Int (pos acc) ∷ Int day ∷ []

  abbrev pub has_checkup : Row → Bool
  has_checkup row = list_all (holds (checkup_params ∷ row ∷ [])) by_checkup

  pub drops_check : (statement : List ℕ) (limit : Option ℕ) (db after : Database) (tally : Tally) → db.schema ≡ desk_schema → HaveRowids (db.trees 7) → Runs statement limit checkup_params drop_check db after tally → TakesOut 7 db after has_checkup
  drops_check statement limit db after tally schema rowids h =
      let task = task_on limit (checked_table 7) checkup_params in
      let done = went (over_desk statement limit checkup_params drop_check db after tally schema h) in
      let end = concluded task plain_mode done.0 (tally, after) done.2 in
      let it = deletes 7 by_checkup checkup_params (λ trees. refl) task (λ olds. refl) refl refl db.trees done.0 done.1 in
      let left = removed_rows has_checkup (db.trees 7) it.0 rowids it.1 in
      sets_rows 7 db after done.0.trees _ (subst (λ rows. SetsRows desk_schema 7 db.trees done.0.trees rows) left it.2) end

  module _ (outcome : ℕ) where
    abbrev pub check_params : Row
    check_params = Int (pos acc) ∷ Int day ∷ Int (pos outcome) ∷ []

    abbrev pub check_row : List Row → Row
    check_row rows = Int (next_rowid rows) ∷ check_params

    pub puts_check : (statement : List ℕ) (limit : Option ℕ) (db after : Database) (tally : Tally) → db.schema ≡ desk_schema → Runs statement limit check_params put_check db after tally → PutsIn 7 db after check_row
    puts_check statement limit db after tally schema h =
        let task = task_on limit (checked_table 7) check_params in
        let done = went (over_desk statement limit check_params put_check db after tally schema h) in
        let end = concluded task plain_mode done.0 (tally, after) done.2 in
        let rows = db.trees 7 in
        let terms : List Term = lit Null ∷ col 0 0 ∷ col 0 1 ∷ col 0 2 ∷ [] in
        let is : with_rowid Chosen rows (cast_row (checked_table 7) (Null ∷ check_params)) ≡ check_row rows = rw (cast_null, cast_int (pos acc), cast_int day, cast_int (pos outcome)) refl in
        let it = inserts task (λ olds. refl) (λ olds row. refl) refl terms 4 (Null ∷ check_params) db.trees done.0 refl done.1 (check_row rows) is in
        (it.0, sets_rows 7 db after done.0.trees (put_row (check_row rows) rows) it.1 end)

-- ---- files

module _ (acc slot : ℕ) (name type : List ℕ) (user : Option ℤ) (served : ℕ) (size : Option ℤ) (faults : ℕ) (units : List ℕ) (last : ℕ) where
  abbrev pub file_params : Row
  file_params = Int (pos acc) ∷ Int (pos slot) ∷ Text name ∷ Text type ∷ or_null Int user ∷ Int (pos served) ∷ or_null Int size ∷ Int (pos faults) ∷ Blob units ∷ Int (pos last) ∷ []

  abbrev pub file_row : List Row → Row
  file_row rows = Int (next_rowid rows) ∷ file_params

  pub puts_file : (statement : List ℕ) (limit : Option ℕ) (db after : Database) (tally : Tally) → db.schema ≡ desk_schema → Runs statement limit file_params put_file db after tally → PutsIn 9 db after file_row
  puts_file statement limit db after tally schema h =
      let task = task_on limit (found_table 9) file_params in
      let done = went (over_desk statement limit file_params put_file db after tally schema h) in
      let end = concluded task plain_mode done.0 (tally, after) done.2 in
      let rows = db.trees 9 in
      let terms : List Term = lit Null ∷ col 0 0 ∷ col 0 1 ∷ col 0 2 ∷ col 0 3 ∷ col 0 4 ∷ col 0 5 ∷ col 0 6 ∷ col 0 7 ∷ col 0 8 ∷ col 0 9 ∷ [] in
      let is : with_rowid Chosen rows (cast_row (found_table 9) (Null ∷ file_params)) ≡ file_row rows =
      rw (cast_null, cast_int (pos acc), cast_int (pos slot), cast_or_null user, cast_int (pos served), cast_or_null size, cast_int (pos faults), cast_int (pos last)) refl in
      let it = inserts task (λ olds. refl) (λ olds row. refl) refl terms 11 (Null ∷ file_params) db.trees done.0 refl done.1 (file_row rows) is in
      (it.0, sets_rows 9 db after done.0.trees (put_row (file_row rows) rows) it.1 end)

-- ---- error bytes

module _ (acc : ℕ) (bytes : List ℕ) where
  abbrev pub marks_params : Row
  marks_params = Int (pos acc) ∷ Blob bytes ∷ []

  abbrev pub marks_row : Row
  marks_row = Int (pos acc) ∷ Null ∷ Blob bytes ∷ []

  pub puts_marks : (statement : List ℕ) (limit : Option ℕ) (db after : Database) (tally : Tally) → db.schema ≡ desk_schema → Runs statement limit marks_params put_marks db after tally → PutsIn 11 db after (λ _. marks_row)
  puts_marks statement limit db after tally schema h =
      let task = task_on limit (marks_table 11) marks_params in
      let done = went (over_desk statement limit marks_params put_marks db after tally schema h) in
      let end = concluded task plain_mode done.0 (tally, after) done.2 in
      let terms : List Term = col 0 0 ∷ lit Null ∷ col 0 1 ∷ [] in
      let is : with_rowid Chosen (db.trees 11) (cast_row (marks_table 11) marks_row) ≡ marks_row = rw (cast_int (pos acc), cast_null) refl in
      let it = inserts task (λ olds. refl) (λ olds row. refl) refl terms 3 marks_row db.trees done.0 refl done.1 marks_row is in
      (it.0, sets_rows 11 db after done.0.trees (put_row marks_row (db.trees 11)) it.1 end)
