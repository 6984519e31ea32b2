-- How the queries show entries.
use Rattle.std.specs.Prelude.{◌≡◌, ◌≢◌, ℕ, pos, List, [], ◌∷◌}
use Rattle.sqlite.specs.declared.types.Value.TheVariants.{Int, Text, Blob}
use Rattle.sqlite.specs.Order.{Row}
use Rattle.rd_policy.specs.declared.audience.Audience.{Audience}
use Rattle.rd_policy.specs.declared.audience.Audience.TheVariants.{Staff}
use Rattle.rd_store.specs.declared.images.Heading.{Heading}
use Rattle.rd_holdings.specs.declared.rows.DeedRow.{DeedRow}
use Rattle.rd_holdings.specs.declared.rows.ImageRow.{ImageRow}
use Rattle.rd_store.specs.Codes.{kind_code, kind_in, audience_code}
use Rattle.rd_store.specs.Spelled.{key_spelling}

-- the columns for a deed: its donor, and the day on which they signed it
abbrev pub deed_shown : DeedRow → Row
deed_shown deed = Text deed.donor ∷ Int deed.signed ∷ []

-- the columns for an image: its kind, its deed, its digest and its bytes
abbrev pub image_shown : ImageRow → Row
image_shown image = Int (pos (kind_code image.kind)) ∷ Int (pos image.deed) ∷ Blob image.digest ∷ Blob image.bytes ∷ []

-- an image as its row tells it: with error bytes or without them it is a D64
abbrev pub as_row : ImageRow → ImageRow
as_row image = record image { kind = kind_in (kind_code image.kind) }

-- error bytes, in one column
abbrev pub marks_shown : List ℕ → Row
marks_shown marks = Blob marks ∷ []

-- an image without its bytes
abbrev pub heading_of : ImageRow → Heading
heading_of image = record { kind = image.kind; deed = image.deed; digest = image.digest }

-- an image of this heading and these bytes
abbrev pub image_with : Heading → List ℕ → ImageRow
image_with heading bytes = record { kind = heading.kind; deed = heading.deed; digest = heading.digest; bytes = bytes }

-- the column for a key: its audience
abbrev pub audience_shown : Audience → Row
audience_shown audience = Int (pos (audience_code audience)) ∷ []

-- a key of the staff with another digest
abbrev pub IsOtherKey : List ℕ → List ℕ × Audience → Type 0
IsOtherKey digest key = (key.0 ≢ digest) × (key.1 ≡ Staff)

-- a row shows such a key
abbrev pub ShowsOther : List ℕ → Row → Type 0
ShowsOther digest row = IsOtherKey digest (key_spelling.entry row)
