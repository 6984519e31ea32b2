-- A sheet: a table as CSV, with a row for each image to take in.
use Rattle.std.specs.Prelude.{◌≡◌, ◌≢◌, ◌⊎◌, ℕ, List, [], ◌∷◌, Option, Some, None, codes, false, if◌then◌else◌, length, option_and_then}
use Rattle.std.specs.Borrow.{Bor}
use Rattle.std.specs.Str.{is_utf8}
use Rattle.csv.specs.Reading.{TookRecord, expected_len, is_flexible}
use Rattle.csv.specs.Records.{field_at}
use Rattle.csv.specs.declared.error.ErrorKind.{ErrorKind}
use Rattle.csv.specs.declared.error.ErrorKind.TheVariants as kind
use Rattle.csv.specs.declared.reader.Reader.{Reader}
use Rattle.rd_geometry.specs.declared.kind.Kind.{Kind}
use Rattle.rd_protocol.specs.Parts.{digest_of, kind_of, scope_of}
use Rattle.rd_policy.specs.Rules.{IsScope}
use Rattle.rd_commands.specs.declared.refusal.Refusal.{Refusal}
use Rattle.rd_commands.specs.declared.refusal.Refusal.TheVariants.{BadSheet, Device, NoMemory}
use Rattle.rd_commands.specs.declared.sheet.SheetRow.{SheetRow}

-- the names of the columns
abbrev pub header : List (List ℕ)
header = codes "accession" ∷ codes "kind" ∷ codes "deed" ∷ codes "sha256" ∷ codes "file" ∷ []

-- a text, if it is UTF-8
abbrev pub text_of : List ℕ → Option (List ℕ)
text_of field = if is_utf8 field then Some field else None

-- the text of the field at a place, if there is one and it is UTF-8
abbrev pub text_at : ℕ → List (List ℕ) → Option (List ℕ)
text_at place fields = option_and_then text_of (field_at fields place)

-- the number of an accession or a deed that the field at a place writes
abbrev pub scope_at : ℕ → List (List ℕ) → Option ℕ
scope_at place fields = option_and_then scope_of (text_at place fields)

-- the kind that it names
abbrev pub kind_at : ℕ → List (List ℕ) → Option Kind
kind_at place fields = option_and_then kind_of (text_at place fields)

-- the digest that it writes
abbrev pub digest_at : ℕ → List (List ℕ) → Option (List ℕ)
digest_at place fields = option_and_then digest_of (text_at place fields)

-- a path that is not empty
abbrev pub path_of : List ℕ → Option (List ℕ)
path_of [] = None
path_of (byte ∷ bytes) = Some (byte ∷ bytes)

-- the path that it is
abbrev pub path_at : ℕ → List (List ℕ) → Option (List ℕ)
path_at place fields = option_and_then path_of (text_at place fields)

-- The fields say what the row has: the numbers of the accession and the deed, the kind and the
-- digest, written as in paths of HTTP, and the path of the image's file.
pub record Says (fields : List (List ℕ)) (row : SheetRow) : Type 0 where
  pub acc : scope_at 0 fields ≡ Some row.acc
  pub kind : kind_at 1 fields ≡ Some row.kind
  pub deed : scope_at 2 fields ≡ Some row.deed
  pub digest : digest_at 3 fields ≡ Some row.digest
  pub file : path_at 4 fields ≡ Some row.file.now

-- a field is missing, is not UTF-8, or is badly written
abbrev pub IsBad : List (List ℕ) → Type 0
IsBad fields =
    (scope_at 0 fields ≡ None) ⊎ ((kind_at 1 fields ≡ None) ⊎ ((scope_at 2 fields ≡ None)
    ⊎ ((digest_at 3 fields ≡ None) ⊎ (path_at 4 fields ≡ None))))

-- the numbers are within their limits
abbrev pub IsWithin : SheetRow → Type 0
IsWithin row = IsScope row.acc × IsScope row.deed

-- why a row is not read: it has another length, the device failed, or memory ran out
abbrev pub IsReadRefusal : Refusal → Type 0
IsReadRefusal refusal = (refusal ≡ BadSheet) ⊎ ((refusal ≡ Device) ⊎ (refusal ≡ NoMemory))

-- the refusal for an error of the reader
abbrev pub refusal_of : ErrorKind → Refusal
refusal_of (kind.UnequalLengths pos expected len) = BadSheet
refusal_of kind.OutOfMemory = NoMemory
refusal_of (kind.Io error) = Device
refusal_of (kind.Utf8 pos error) = Device
refusal_of (kind.Serialize text) = Device
refusal_of (kind.Deserialize pos error) = Device

-- The next row has another number of fields than the first.
pub record HasOtherLength (old new : Reader (Bor (List ℕ))) : Type 0 where
  pub expected : ℕ
  pub fields : List (List ℕ)
  pub strict : is_flexible old ≡ false
  pub first : expected_len old ≡ Some expected
  pub took : TookRecord (λ rest. Some rest.now) old new fields
  pub other : expected ≢ length fields
