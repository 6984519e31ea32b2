-- The register in memory: of each accession what is asked of its image beside its bytes.
use Rattle.std.specs.Prelude.{◌≡◌, ◌<◌, ℕ, List, [], map, slice_index_or, option_map, Option, Some, None, Result, Ok, Err, Vec, vec_len, vec_capacity}
use Rattle.std.specs.declared.alloc.Global.{Global}
use Rattle.std.specs.List.{insert as insert_at}
use Rattle.std.specs.Ordering.{nat_cmp}
use Rattle.std.specs.FinMap.{FinMap, entries, get, insert}
use Rattle.sqlite.specs.Store.{Ghosts}
use Rattle.sqlite.specs.Held.{Held}
use Rattle.sqlite.specs.Order.{Row, column}
use Rattle.sqlite_value.specs.Order.{bytes}
use Rattle.rd_tables.specs.Spellings.{natural}
use Rattle.rd_store.specs.declared.images.Heading.{Heading}
use Rattle.rd_store.specs.declared.register.Register.{Register}
use Rattle.rd_holdings.specs.declared.rows.Accession.{Accession}
use Rattle.rd_holdings.specs.declared.rows.ImageRow.{ImageRow}
use Rattle.rd_store.specs.RowColumns.{is_one_of}
use Rattle.rd_store.specs.Codes.{kind_in}
use Rattle.rd_store.specs.Marks.{kind_with}
use Rattle.rd_store.specs.Shown.{heading_of}
use Rattle.rd_store.specs.Held.{IsOpen, desk}

-- a register that has no place yet is empty
abbrev pub listed_in : Option (Vec (ℕ × Heading) Global) → List (ℕ × Heading)
listed_in None = []
listed_in (Some entries) = entries.items

-- what a register lists: of each accession the kind of its image, the deed and the digest
abbrev pub listed : Register → List (ℕ × Heading)
listed register = listed_in register.entries

-- an accession, with what is kept of its image
abbrev pub entry_for : ℕ × ImageRow → ℕ × Heading
entry_for e = (e.0, heading_of e.1)

-- the register of these images, ascending
abbrev pub register_of : FinMap nat_cmp ImageRow → List (ℕ × Heading)
register_of images = map entry_for (entries images)

-- while the connection is open, the register is that of the desk
abbrev pub IsRegisterOf : {S : Type 0} → Ghosts S → Held S → Register → Type 0
IsRegisterOf g h register = IsOpen g h → listed register ≡ register_of (desk g h).images

-- the same kind, deed and digest
abbrev pub IsSameHeading : Heading → Heading → Type 0
IsSameHeading one other = (one.kind ≡ other.kind) × (one.deed ≡ other.deed) × (one.digest ≡ other.digest)

-- ---- kind and deed of an accession

-- its number alone
abbrev pub number_of : ℕ × Heading → ℕ
number_of entry = entry.0

-- its kind and its deed
abbrev pub accession_of_heading : Heading → Accession
accession_of_heading heading = record { kind = heading.kind; deed = heading.deed }

-- its number, its kind and its deed
abbrev pub numbered_accession : ℕ × Heading → ℕ × Accession
numbered_accession entry = (entry.0, accession_of_heading entry.1)

-- ---- how it is made and searched

-- the entry of an image that a row of its listing shows; `marked` are the accessions with error bytes, ascending
abbrev pub entry_in : List ℕ → Row → ℕ × Heading
entry_in marked row = (
  natural (column row 0),
  record { kind = kind_with (is_one_of marked (column row 0)) (kind_in (natural (column row 1))); deed = natural (column row 2); digest = bytes (column row 3) },
)

-- there is room for one more
abbrev pub HasRoomIn : Option (Vec (ℕ × Heading) Global) → Type 0
HasRoomIn None = ⊥
HasRoomIn (Some entries) = vec_len entries < vec_capacity entries

-- a register has room for one more
abbrev pub HasRoom : Register → Type 0
HasRoom register = HasRoomIn register.entries

-- where an accession is, or where it would go
abbrev pub IsPlaceIn : FinMap nat_cmp ImageRow → ℕ → Result ℕ ℕ → Type 0
IsPlaceIn images acc (Ok at) = (d : ℕ × Heading) → option_map heading_of (get images acc) ≡ Some (slice_index_or (register_of images) at d).1
IsPlaceIn images acc (Err at) = (get images acc ≡ None) × ((image : ImageRow) → insert_at (register_of images) at (entry_for (acc, image)) ≡ register_of (insert images acc image))
