-- The statements that make and change the tables of the desk, and the commands that their texts mean.
use Rattle.std.specs.Prelude.{ℕ, zero, suc, pos, List, [], ◌∷◌, codes}
use Rattle.sqlite.specs.declared.types.Value.TheVariants.{Null, Int}
use Rattle.sqlite.specs.Schema.{Schema}
use Rattle.sqlite.specs.Term.{Term, lit, col}
use Rattle.sqlite.specs.Query.{Query}
use Rattle.sqlite.specs.Source.TheVariants.{Values}
use Rattle.sqlite.specs.Command.{Command}
use Rattle.sqlite.specs.Command.TheVariants.{Insert, Update, Delete}
use Rattle.rd_tables.specs.Asked.{asks_of, equals}
use Rattle.rd_tables.specs.Schemas.{desk_table, deed_table, image_table, rule_table, badge_table, checked_table, rule_index, badge_index, checked_index, first_schema, desk_schema}

-- ---- CREATE TABLE

-- the desk's own table: the version, in the one row with the id 1
abbrev pub desk_text : List ℕ
desk_text = codes "CREATE TABLE desk (id INTEGER PRIMARY KEY CHECK (id = 1), version INTEGER NOT NULL) STRICT"

-- deeds by number
abbrev pub deed_text : List ℕ
deed_text = codes "CREATE TABLE deed (num INTEGER PRIMARY KEY, donor TEXT NOT NULL, signed INTEGER NOT NULL) STRICT"

-- images by accession
abbrev pub image_text : List ℕ
image_text = codes "CREATE TABLE image (acc INTEGER PRIMARY KEY, kind INTEGER NOT NULL CHECK (kind BETWEEN 0 AND 1), deed INTEGER NOT NULL REFERENCES deed (num), digest BLOB NOT NULL, bytes BLOB NOT NULL) STRICT"

-- rules by band, scope and rank
abbrev pub rule_text : List ℕ
rule_text = codes "CREATE TABLE rule (band INTEGER NOT NULL CHECK (band BETWEEN 0 AND 1), scope INTEGER NOT NULL, rank INTEGER NOT NULL, audiences INTEGER NOT NULL CHECK (audiences BETWEEN 1 AND 7), day_from INTEGER, day_until INTEGER, how INTEGER NOT NULL CHECK (how BETWEEN 0 AND 4), number INTEGER NOT NULL, word TEXT NOT NULL, effect INTEGER NOT NULL CHECK (effect BETWEEN 0 AND 2), PRIMARY KEY (band, scope, rank)) STRICT"

-- desk keys by digest, for the room or the staff
abbrev pub badge_text : List ℕ
badge_text = codes "CREATE TABLE badge (digest BLOB NOT NULL PRIMARY KEY, audience INTEGER NOT NULL CHECK (audience BETWEEN 1 AND 2)) STRICT"

-- the outcomes of checks, by accession and day
abbrev pub checked_text : List ℕ
checked_text = codes "CREATE TABLE checked (acc INTEGER NOT NULL, day INTEGER NOT NULL, outcome INTEGER NOT NULL CHECK (outcome BETWEEN 0 AND 1), PRIMARY KEY (acc, day)) STRICT"

-- the files of the images, by accession and slot
abbrev pub found_text : List ℕ
found_text = codes "CREATE TABLE found (acc INTEGER NOT NULL, slot INTEGER NOT NULL, name TEXT NOT NULL, ty TEXT NOT NULL, user_no INTEGER, served INTEGER NOT NULL CHECK (served BETWEEN 0 AND 1), size INTEGER, faults INTEGER NOT NULL CHECK (faults BETWEEN 0 AND 127), units BLOB NOT NULL, last_len INTEGER NOT NULL, PRIMARY KEY (acc, slot)) STRICT"

-- error bytes by accession
abbrev pub marks_text : List ℕ
marks_text = codes "CREATE TABLE marks (acc INTEGER PRIMARY KEY, bytes BLOB NOT NULL) STRICT"

-- in the order in which a new desk makes them
abbrev pub create_texts : List (List ℕ)
create_texts = desk_text ∷ deed_text ∷ image_text ∷ rule_text ∷ badge_text ∷ checked_text ∷ found_text ∷ marks_text ∷ []

-- the tables once so many are made
abbrev pub schema_after : ℕ → Schema
schema_after zero = record { tables = []; indexes = []; views = [] }
schema_after (suc zero) = record { tables = desk_table 0 ∷ []; indexes = []; views = [] }
schema_after (suc (suc zero)) = record { tables = desk_table 0 ∷ deed_table 1 ∷ []; indexes = []; views = [] }
schema_after (suc (suc (suc zero))) = record { tables = desk_table 0 ∷ deed_table 1 ∷ image_table 2 ∷ []; indexes = []; views = [] }
schema_after (suc (suc (suc (suc zero)))) = record { tables = desk_table 0 ∷ deed_table 1 ∷ image_table 2 ∷ rule_table 3 ∷ []; indexes = rule_index ∷ []; views = [] }
schema_after (suc (suc (suc (suc (suc zero))))) =
    record { tables = desk_table 0 ∷ deed_table 1 ∷ image_table 2 ∷ rule_table 3 ∷ badge_table 5 ∷ []; indexes = rule_index ∷ badge_index ∷ []; views = [] }
schema_after (suc (suc (suc (suc (suc (suc zero)))))) =
    record { tables = desk_table 0 ∷ deed_table 1 ∷ image_table 2 ∷ rule_table 3 ∷ badge_table 5 ∷ checked_table 7 ∷ []; indexes = rule_index ∷ badge_index ∷ checked_index ∷ []; views = [] }
schema_after (suc (suc (suc (suc (suc (suc (suc zero))))))) = first_schema
schema_after (suc (suc (suc (suc (suc (suc (suc (suc count)))))))) = desk_schema

-- ---- INSERT, UPDATE and DELETE

-- the rowids of the rows that pass each test
abbrev pub rowids_of : ℕ → List Term → Query
rowids_of tree tests = asks_of tree tests (col 1 0 ∷ []) []

-- a new desk has version 2
abbrev pub put_version_text : List ℕ
put_version_text = codes "INSERT INTO desk (id, version) VALUES (1, 2)"

-- the command that the text means
abbrev pub put_version : Command
put_version = Insert 0 (Values (lit (Int (pos 1)) ∷ lit Null ∷ lit (Int (pos 2)) ∷ []) 3)

-- a desk of version 1 becomes one of version 2
abbrev pub set_version_text : List ℕ
set_version_text = codes "UPDATE desk SET version = 2"

-- the rowid of a row, and the row as it is then
abbrev pub version_then : List Term
version_then = col 1 0 ∷ col 1 0 ∷ lit Null ∷ lit (Int (pos 2)) ∷ []

-- each row has the version 2 then
abbrev pub set_version : Command
set_version = Update 0 (record { lets = []; body = asks_of 0 [] version_then [] })

-- a new deed
abbrev pub put_deed_text : List ℕ
put_deed_text = codes "INSERT INTO deed (num, donor, signed) VALUES (?1, ?2, ?3)"

-- the command that the text means
abbrev pub put_deed : Command
put_deed = Insert 1 (Values (col 0 0 ∷ lit Null ∷ col 0 1 ∷ col 0 2 ∷ []) 4)

-- another donor and day for a deed that stands
abbrev pub set_deed_text : List ℕ
set_deed_text = codes "UPDATE deed SET donor = ?2, signed = ?3 WHERE num = ?1"

-- the test that a row is that of the deed with a number
abbrev pub by_number : List Term
by_number = equals 0 0 ∷ []

-- the rowid of a deed, and its row as it is then
abbrev pub deed_then : List Term
deed_then = col 1 0 ∷ col 1 0 ∷ lit Null ∷ col 0 1 ∷ col 0 2 ∷ []

-- the deed with the number has this donor and this day then
abbrev pub set_deed : Command
set_deed = Update 1 (record { lets = []; body = asks_of 1 by_number deed_then [] })

-- a new image, without its error bytes
abbrev pub put_image_text : List ℕ
put_image_text = codes "INSERT INTO image (acc, kind, deed, digest, bytes) VALUES (?1, ?2, ?3, ?4, ?5)"

-- the command that the text means
abbrev pub put_image : Command
put_image = Insert 2 (Values (col 0 0 ∷ lit Null ∷ col 0 1 ∷ col 0 2 ∷ col 0 3 ∷ col 0 4 ∷ []) 6)

-- a new rule
abbrev pub put_rule_text : List ℕ
put_rule_text = codes "INSERT INTO rule (band, scope, rank, audiences, day_from, day_until, how, number, word, effect) VALUES (?1, ?2, ?3, ?4, ?5, ?6, ?7, ?8, ?9, ?10)"

-- the command that the text means
abbrev pub put_rule : Command
put_rule = Insert 3 (Values (lit Null ∷ col 0 0 ∷ col 0 1 ∷ col 0 2 ∷ col 0 3 ∷ col 0 4 ∷ col 0 5 ∷ col 0 6 ∷ col 0 7 ∷ col 0 8 ∷ col 0 9 ∷ []) 11)

-- the rule at a place goes
abbrev pub drop_rule_text : List ℕ
drop_rule_text = codes "DELETE FROM rule WHERE band = ?1 AND scope = ?2 AND rank = ?3"

-- the tests that a row is that of the rule at a place
abbrev pub by_place : List Term
by_place = equals 1 0 ∷ equals 2 1 ∷ equals 3 2 ∷ []

-- the command that the text means
abbrev pub drop_rule : Command
drop_rule = Delete 3 (record { lets = []; body = rowids_of 3 by_place })

-- a new desk key
abbrev pub put_key_text : List ℕ
put_key_text = codes "INSERT INTO badge (digest, audience) VALUES (?1, ?2)"

-- the command that the text means
abbrev pub put_key : Command
put_key = Insert 4 (Values (lit Null ∷ col 0 0 ∷ col 0 1 ∷ []) 3)

-- the desk key with a digest goes
abbrev pub drop_key_text : List ℕ
drop_key_text = codes "DELETE FROM badge WHERE digest = ?1"

-- the test that a row is that of the desk key with a digest
abbrev pub by_digest : List Term
by_digest = equals 1 0 ∷ []

-- the command that the text means
abbrev pub drop_key : Command
drop_key = Delete 4 (record { lets = []; body = rowids_of 5 by_digest })

-- the outcome of a new check
abbrev pub put_check_text : List ℕ
put_check_text = codes "INSERT INTO checked (acc, day, outcome) VALUES (?1, ?2, ?3)"

-- the command that the text means
abbrev pub put_check : Command
put_check = Insert 5 (Values (lit Null ∷ col 0 0 ∷ col 0 1 ∷ col 0 2 ∷ []) 4)

-- the check of an accession on a day goes
abbrev pub drop_check_text : List ℕ
drop_check_text = codes "DELETE FROM checked WHERE acc = ?1 AND day = ?2"

-- the tests that a row is that of the check of an accession on a day
abbrev pub by_checkup : List Term
by_checkup = equals 1 0 ∷ equals 2 1 ∷ []

-- the command that the text means
abbrev pub drop_check : Command
drop_check = Delete 5 (record { lets = []; body = rowids_of 7 by_checkup })

-- a file of an image, for the index
abbrev pub put_file_text : List ℕ
put_file_text = codes "INSERT INTO found (acc, slot, name, ty, user_no, served, size, faults, units, last_len) VALUES (?1, ?2, ?3, ?4, ?5, ?6, ?7, ?8, ?9, ?10)"

-- the command that the text means
abbrev pub put_file : Command
put_file = Insert 6 (Values (lit Null ∷ col 0 0 ∷ col 0 1 ∷ col 0 2 ∷ col 0 3 ∷ col 0 4 ∷ col 0 5 ∷ col 0 6 ∷ col 0 7 ∷ col 0 8 ∷ col 0 9 ∷ []) 11)

-- the error bytes of an image
abbrev pub put_marks_text : List ℕ
put_marks_text = codes "INSERT INTO marks (acc, bytes) VALUES (?1, ?2)"

-- the command that the text means
abbrev pub put_marks : Command
put_marks = Insert 7 (Values (col 0 0 ∷ lit Null ∷ col 0 1 ∷ []) 3)
