-- The table of all listed files: CSV as the crate `csv` writes it with its defaults.
use Rattle.std.specs.Prelude.{ℕ, List, [], ◌∷◌, ◌++◌, Option, Some, None, codes}
use Rattle.std.specs.Fmt.{decimal}
use Rattle.std.specs.List.{flat_map, join_by}
use Rattle.csv.specs.Writing.{default_writer, row_text}
use Rattle.rd_geometry.specs.Kinds.{word_of}
use Rattle.rd_geometry.specs.declared.kind.Kind.{Kind}
pub use Rattle.rd_policy.specs.Rules.{effect_word}
use Rattle.rd_policy.specs.Verdicts.{label_text}
use Rattle.rd_volume.specs.Words.{words_of}
use Rattle.rd_protocol.specs.declared.response.Line.{Line}
use Rattle.rd_protocol.specs.declared.response.Listing.{Listing}

-- a number, or nothing if there is none
abbrev pub number_text : Option ℕ → List ℕ
number_text None = []
number_text (Some n) = decimal n

-- the words of faults, with one blank between each
abbrev pub faults_text : Kind → ℕ → List ℕ
faults_text kind faults = join_by (λ word. word) (codes " ") (words_of kind faults)

-- the names of the columns
abbrev pub COLUMNS : List (List ℕ)
COLUMNS =
    codes "accession" ∷ codes "deed" ∷ codes "kind" ∷ codes "slot" ∷ codes "user" ∷ codes "name" ∷ codes "type" ∷ codes "size" ∷ codes "faults"
    ∷ codes "rule" ∷ codes "effect" ∷ []

-- the record of a file of an accession
abbrev pub record_of : Listing → Line → List (List ℕ)
record_of listing line =
    decimal listing.accession ∷ decimal listing.deed ∷ word_of listing.kind ∷ decimal line.file.slot ∷ number_text line.file.user
    ∷ line.file.name ∷ line.file.ty ∷ number_text line.file.size ∷ faults_text listing.kind line.file.faults
    ∷ label_text line.verdict.label ∷ effect_word line.verdict.effect ∷ []

-- the records of an accession's files
abbrev pub records_text : Listing → List ℕ
records_text listing = flat_map (λ line. row_text default_writer (record_of listing line)) listing.files

-- the names of the columns, and then the records of each accession, each as the crate `csv` writes it with its
-- defaults; what is missing is an empty field
unfoldable pub catalogue_text : List Listing → List ℕ
catalogue_text listings = row_text default_writer COLUMNS ++ flat_map records_text listings
