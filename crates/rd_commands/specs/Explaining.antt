-- What the program writes of an explanation, and the first fault of a row.
use Rattle.std.specs.Prelude.{◌≡◌, ◌≢◌, ℕ, List, None, Option, Some}
use Rattle.std.specs.String.{string_bytes}
use Rattle.rd_geometry.specs.Kinds.{size_of}
use Rattle.rd_geometry.specs.declared.kind.Kind.{Kind}
use Rattle.rd_explanations.specs.Explained.{AreLines}
use Rattle.rd_explanations.specs.declared.line.Line.{Line}
use Rattle.rd_explanations.specs.declared.line.Line.TheVariants as line
use Rattle.rd_explanations.specs.declared.words.Column.{Column}
use Rattle.rd_explanations.specs.declared.words.Column.TheVariants as column
use Rattle.rd_commands.specs.Output.{AppendsPart}
use Rattle.rd_commands.specs.declared.remembered.RowNote.{RowNote}
use Rattle.rd_commands.specs.declared.remembered.RowNote.TheVariants as note
use Rattle.rd_commands.specs.Sheets.{digest_at, kind_at, path_at, scope_at}

-- a writer has gained lines, each of which begins with two blanks, or a front part of them
abbrev pub GainsLines : Option (List ℕ) → Option (List ℕ) → Type 0
GainsLines old new = (text : List ℕ) × AreLines text × AppendsPart old new text

-- the field of this column is missing or badly written
abbrev pub IsBadAt : List (List ℕ) → Column → Type 0
IsBadAt fields column.Accession = scope_at 0 fields ≡ None
IsBadAt fields column.Kind = kind_at 1 fields ≡ None
IsBadAt fields column.Deed = scope_at 2 fields ≡ None
IsBadAt fields column.Digest = digest_at 3 fields ≡ None
IsBadAt fields column.File = path_at 4 fields ≡ None

-- the line says of this row how many bytes the file at this path has, and which kind was wanted
abbrev pub IsSizeOf : ℕ → List ℕ → ℕ → Kind → Line → Type 0
IsSizeOf row file found kind (line.RowSize number path bytes wanted) =
    (number ≡ row) × (string_bytes path ≡ file) × (bytes ≡ found) × (wanted ≡ kind)
IsSizeOf row file found kind (line.RowTooLong number path wanted) = (number ≡ row) × (string_bytes path ≡ file) × (wanted ≡ kind)
IsSizeOf row file found kind _ = ⊥

-- the line says that the file of this row cannot be read
abbrev pub IsUnreadOf : ℕ → Line → Type 0
IsUnreadOf row (line.Unread number path said) = number ≡ row
IsUnreadOf row _ = ⊥

-- the line says of this row what was noted of it
abbrev pub IsLineOf : ℕ → RowNote → Line → Type 0
IsLineOf row (note.Bad column) noted = noted ≡ line.Field row column
IsLineOf row (note.Refused acc reason) noted = noted ≡ line.Row row acc reason
IsLineOf row (note.Size file found kind) noted = IsSizeOf row file.now found kind noted
IsLineOf row note.Unread noted = IsUnreadOf row noted

-- the line names a kind whose images have so many bytes, as the file of this row, or says that no kind has such images
abbrev pub IsFitOf : ℕ → ℕ → Line → Type 0
IsFitOf row found (line.RowFits number kind) = (number ≡ row) × (size_of kind ≡ found)
IsFitOf row found (line.RowFitsNone number) = (number ≡ row) × ((kind : Kind) → size_of kind ≢ found)
IsFitOf row found _ = ⊥

-- a row whose file has another size than an image of its kind has a second line, which says what fits; no other has one
abbrev pub IsNextLine : ℕ → RowNote → Option Line → Type 0
IsNextLine row (note.Size file found kind) (Some next) = IsFitOf row found next
IsNextLine row (note.Size file found kind) None = ⊥
IsNextLine row _ next = next ≡ None
