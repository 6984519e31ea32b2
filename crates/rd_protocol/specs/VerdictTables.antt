-- The tables of verdicts and of rehearsals: CSV as the crate `csv` writes it with its defaults.
use Rattle.std.specs.Prelude.{ℕ, List, [], ◌∷◌, ◌++◌, codes}
use Rattle.std.specs.Fmt.{decimal}
use Rattle.std.specs.List.{flat_map}
use Rattle.csv.specs.Writing.{default_writer, row_text}
use Rattle.rd_geometry.specs.Kinds.{word_of}
use Rattle.rd_policy.specs.Audiences.{audience_word}
use Rattle.rd_policy.specs.Rules.{effect_word}
use Rattle.rd_policy.specs.Verdicts.{label_text}
use Rattle.rd_protocol.specs.Catalogues.{faults_text, number_text}
use Rattle.rd_protocol.specs.declared.response.FileVerdicts.{FileVerdicts}
use Rattle.rd_protocol.specs.declared.response.Difference.{Difference}
use Rattle.rd_protocol.specs.declared.response.Verdicts.{Verdicts}

-- the names of the columns of verdicts
abbrev pub VERDICT_COLUMNS : List (List ℕ)
VERDICT_COLUMNS =
    codes "accession" ∷ codes "deed" ∷ codes "kind" ∷ codes "slot" ∷ codes "user" ∷ codes "name" ∷ codes "type" ∷ codes "size" ∷ codes "faults"
    ∷ codes "public" ∷ codes "public_rule" ∷ codes "room" ∷ codes "room_rule" ∷ codes "staff" ∷ codes "staff_rule" ∷ []

-- the record of a file of an accession
abbrev pub verdict_record : Verdicts → FileVerdicts → List (List ℕ)
verdict_record one file =
    decimal one.accession ∷ decimal one.deed ∷ word_of one.kind ∷ decimal file.file.slot ∷ number_text file.file.user
    ∷ file.file.name ∷ file.file.ty ∷ number_text file.file.size ∷ faults_text one.kind file.file.faults
    ∷ effect_word file.public.effect ∷ label_text file.public.label ∷ effect_word file.room.effect ∷ label_text file.room.label
    ∷ effect_word file.staff.effect ∷ label_text file.staff.label ∷ []

-- the records of an accession's files
abbrev pub verdict_records : Verdicts → List ℕ
verdict_records one = flat_map (λ file. row_text default_writer (verdict_record one file)) one.files

-- the names of the columns, and then the records of each accession
unfoldable pub verdicts_text : List Verdicts → List ℕ
verdicts_text verdicts = row_text default_writer VERDICT_COLUMNS ++ flat_map verdict_records verdicts

-- the names of the columns of a rehearsal
abbrev pub DIFFERENCE_COLUMNS : List (List ℕ)
DIFFERENCE_COLUMNS =
    codes "accession" ∷ codes "slot" ∷ codes "name" ∷ codes "audience" ∷ codes "effect" ∷ codes "rule" ∷ codes "then_effect" ∷ codes "then_rule" ∷ []

-- the record of a file and an audience
abbrev pub difference_record : Difference → List (List ℕ)
difference_record difference =
    decimal difference.accession ∷ decimal difference.slot ∷ difference.name ∷ audience_word difference.audience ∷ effect_word difference.before.effect ∷ label_text difference.before.label
    ∷ effect_word difference.after.effect ∷ label_text difference.after.label ∷ []

-- the names of the columns, and then the record of each difference
unfoldable pub differences_text : List Difference → List ℕ
differences_text differences = row_text default_writer DIFFERENCE_COLUMNS ++ flat_map (λ difference. row_text default_writer (difference_record difference)) differences
