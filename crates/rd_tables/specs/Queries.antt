-- The questions that the store asks of its tables, and the queries that their texts mean.
use Rattle.std.specs.Prelude.{ℕ, List, [], ◌∷◌, codes}
use Rattle.sqlite.specs.Term.{Term, col, op1}
use Rattle.sqlite_sql.specs.declared.ops.UnaryOp.TheVariants.{Length, TypeOf}
use Rattle.sqlite.specs.Query.{Query}
use Rattle.rd_tables.specs.Asked.{asks_of, at_least, equals, greater, no_more, rising}
use Rattle.rd_tables.specs.Statements.{by_digest}

-- ---- the entry of one key

-- the deed with a number
abbrev pub deed_text : List ℕ
deed_text = codes "SELECT donor, signed FROM deed WHERE num = ?1"

-- the query that the text means
abbrev pub deed_query : Query
deed_query = asks_of 1 (equals 0 0 ∷ []) (col 1 2 ∷ col 1 3 ∷ []) []

-- the image of an accession, without its error bytes
abbrev pub image_text : List ℕ
image_text = codes "SELECT kind, deed, digest, bytes FROM image WHERE acc = ?1"

-- the query that the text means
abbrev pub image_query : Query
image_query = asks_of 2 (equals 0 0 ∷ []) (col 1 2 ∷ col 1 3 ∷ col 1 4 ∷ col 1 5 ∷ []) []

-- the error bytes of an image
abbrev pub marks_text : List ℕ
marks_text = codes "SELECT bytes FROM marks WHERE acc = ?1"

-- the query that the text means
abbrev pub marks_query : Query
marks_query = asks_of 11 (equals 0 0 ∷ []) (col 1 2 ∷ []) []

-- the audience of a key, by its digest
abbrev pub audience_text : List ℕ
audience_text = codes "SELECT audience FROM badge WHERE digest = ?1"

-- the query that the text means
abbrev pub audience_query : Query
audience_query = asks_of 5 by_digest (col 1 2 ∷ []) []

-- the columns of a file, its slot first, without its accession
abbrev pub file_columns : List Term
file_columns = col 1 2 ∷ col 1 3 ∷ col 1 4 ∷ col 1 5 ∷ col 1 6 ∷ col 1 7 ∷ col 1 8 ∷ col 1 9 ∷ col 1 10 ∷ []

-- the file of an accession at a slot
abbrev pub file_text : List ℕ
file_text = codes "SELECT slot, name, ty, user_no, served, size, faults, units, last_len FROM found WHERE acc = ?1 AND slot = ?2"

-- the query that the text means
abbrev pub file_query : Query
file_query = asks_of 9 (equals 1 0 ∷ equals 2 1 ∷ []) file_columns []

-- ---- many entries, in the order of their keys

-- the files of an accession, by slot
abbrev pub files_text : List ℕ
files_text = codes "SELECT slot, name, ty, user_no, served, size, faults, units, last_len FROM found WHERE acc = ?1 ORDER BY slot"

-- the query that the text means
abbrev pub files_query : Query
files_query = asks_of 9 (equals 1 0 ∷ []) file_columns ((col 1 2, rising) ∷ [])

-- the rules of a band about an accession or a deed, by rank
abbrev pub rules_text : List ℕ
rules_text = codes "SELECT band, scope, rank, audiences, day_from, day_until, how, number, word, effect FROM rule WHERE band = ?1 AND scope = ?2 ORDER BY rank"

-- the query that the text means
abbrev pub rules_query : Query
rules_query = asks_of 3 (equals 1 0 ∷ equals 2 1 ∷ [])
    (col 1 1 ∷ col 1 2 ∷ col 1 3 ∷ col 1 4 ∷ col 1 5 ∷ col 1 6 ∷ col 1 7 ∷ col 1 8 ∷ col 1 9 ∷ col 1 10 ∷ []) ((col 1 3, rising) ∷ [])

-- all rules: takedowns before those of deeds, then the lower number, then the lower rank
abbrev pub placed_rules_text : List ℕ
placed_rules_text = codes "SELECT band, scope, rank, audiences, day_from, day_until, how, number, word, effect FROM rule ORDER BY band, scope, rank"

-- the query that the text means
abbrev pub placed_rules_query : Query
placed_rules_query = asks_of 3 []
    (col 1 1 ∷ col 1 2 ∷ col 1 3 ∷ col 1 4 ∷ col 1 5 ∷ col 1 6 ∷ col 1 7 ∷ col 1 8 ∷ col 1 9 ∷ col 1 10 ∷ []) ((col 1 1, rising) ∷ (col 1 2, rising) ∷ (col 1 3, rising) ∷ [])

-- the files of the accessions from one to another, each with its accession last
abbrev pub batch_text : List ℕ
batch_text = codes "SELECT slot, name, ty, user_no, served, size, faults, units, last_len, acc FROM found WHERE acc >= ?1 AND acc <= ?2 ORDER BY acc, slot"

-- the query that the text means
abbrev pub batch_query : Query
batch_query = asks_of 9 (at_least 1 0 ∷ no_more 1 1 ∷ [])
    (col 1 2 ∷ col 1 3 ∷ col 1 4 ∷ col 1 5 ∷ col 1 6 ∷ col 1 7 ∷ col 1 8 ∷ col 1 9 ∷ col 1 10 ∷ col 1 1 ∷ []) ((col 1 1, rising) ∷ (col 1 2, rising) ∷ [])

-- the desk keys, by digest
abbrev pub keys_text : List ℕ
keys_text = codes "SELECT digest, audience FROM badge ORDER BY digest"

-- the query that the text means
abbrev pub keys_query : Query
keys_query = asks_of 5 [] (col 1 1 ∷ col 1 2 ∷ []) ((col 1 1, rising) ∷ [])

-- ---- all rows, each with its rowid first

-- the deeds; the number of a deed is the rowid
abbrev pub all_deeds_text : List ℕ
all_deeds_text = codes "SELECT num, donor, signed FROM deed ORDER BY num"

-- the query that the text means
abbrev pub all_deeds_query : Query
all_deeds_query = asks_of 1 [] (col 1 0 ∷ col 1 2 ∷ col 1 3 ∷ []) ((col 1 0, rising) ∷ [])

-- the rules
abbrev pub all_rules_text : List ℕ
all_rules_text = codes "SELECT rowid, band, scope, rank, audiences, day_from, day_until, how, number, word, effect FROM rule ORDER BY rowid"

-- the query that the text means
abbrev pub all_rules_query : Query
all_rules_query = asks_of 3 []
    (col 1 0 ∷ col 1 1 ∷ col 1 2 ∷ col 1 3 ∷ col 1 4 ∷ col 1 5 ∷ col 1 6 ∷ col 1 7 ∷ col 1 8 ∷ col 1 9 ∷ col 1 10 ∷ []) ((col 1 0, rising) ∷ [])

-- the desk keys
abbrev pub all_keys_text : List ℕ
all_keys_text = codes "SELECT rowid, digest, audience FROM badge ORDER BY rowid"

-- the query that the text means
abbrev pub all_keys_query : Query
all_keys_query = asks_of 5 [] (col 1 0 ∷ col 1 1 ∷ col 1 2 ∷ []) ((col 1 0, rising) ∷ [])

-- the checks
abbrev pub all_checks_text : List ℕ
all_checks_text = codes "SELECT rowid, acc, day, outcome FROM checked ORDER BY rowid"

-- the query that the text means
abbrev pub all_checks_query : Query
all_checks_query = asks_of 7 [] (col 1 0 ∷ col 1 1 ∷ col 1 2 ∷ col 1 3 ∷ []) ((col 1 0, rising) ∷ [])

-- of a file its accession
abbrev pub all_files_text : List ℕ
all_files_text = codes "SELECT rowid, acc FROM found ORDER BY rowid"

-- the query that the text means
abbrev pub all_files_query : Query
all_files_query = asks_of 9 [] (col 1 0 ∷ col 1 1 ∷ []) ((col 1 0, rising) ∷ [])

-- of the error bytes the length and the type
abbrev pub all_marks_text : List ℕ
all_marks_text = codes "SELECT acc, length(bytes), typeof(bytes) FROM marks ORDER BY acc"

-- the query that the text means
abbrev pub all_marks_query : Query
all_marks_query = asks_of 11 [] (col 1 0 ∷ op1 Length (col 1 2) ∷ op1 TypeOf (col 1 2) ∷ []) ((col 1 0, rising) ∷ [])

-- ---- the images, one after the other

-- of the bytes the length and the type, and then themselves
abbrev pub image_columns : List Term
image_columns = col 1 0 ∷ col 1 2 ∷ col 1 3 ∷ col 1 4 ∷ op1 Length (col 1 5) ∷ op1 TypeOf (col 1 5) ∷ col 1 5 ∷ []

-- all images; of these the eight that come first are asked for
abbrev pub first_images_text : List ℕ
first_images_text = codes "SELECT acc, kind, deed, digest, length(bytes), typeof(bytes), bytes FROM image ORDER BY acc LIMIT 8"

-- the query for all images
abbrev pub all_images_query : Query
all_images_query = asks_of 2 [] image_columns ((col 1 0, rising) ∷ [])

-- those after an accession, and again eight
abbrev pub next_images_text : List ℕ
next_images_text = codes "SELECT acc, kind, deed, digest, length(bytes), typeof(bytes), bytes FROM image WHERE acc > ?1 ORDER BY acc LIMIT 8"

-- the query for all of those
abbrev pub later_images_query : Query
later_images_query = asks_of 2 (greater 0 0 ∷ []) image_columns ((col 1 0, rising) ∷ [])

-- ---- the version, whatever other tables stand

-- the version of the desk
abbrev pub version_text : List ℕ
version_text = codes "SELECT id, version FROM desk"

-- the query that the text means, where the rows of the table lie on this tree
abbrev pub version_query : ℕ → Query
version_query tree = asks_of tree [] (col 1 0 ∷ col 1 2 ∷ []) []
