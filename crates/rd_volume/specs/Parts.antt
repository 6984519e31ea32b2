-- The ranges of an image that hold the bytes of a file.
use Rattle.std.specs.Prelude.{◌+◌, ℕ, List, slice_range}
use Rattle.rd_geometry.specs.Blocks.{place_of_block}
use Rattle.rd_geometry.specs.Places.{place_of_cpm_unit}
use Rattle.rd_geometry.specs.declared.kind.Kind.{Kind}
use Rattle.rd_geometry.specs.declared.kind.Kind.TheVariants.{Cpm8, D64, D64e}
use Rattle.rd_volume.specs.Kinds.{room_of}
use Rattle.rd_volume.specs.Lists.{map_last_apart}

-- A range of an image: so many bytes, from a place on.
pub record ByteRange : Type 0 where
  pub start : ℕ
  pub count : ℕ

-- the bytes of a range of an image
abbrev pub bytes_of_range : List ℕ → ByteRange → List ℕ
bytes_of_range image range = slice_range image range.start (range.start + range.count)

-- the place from which a unit holds bytes of a file: its own on a CP/M disk, and on a 1541 disk that
-- behind the two bytes of its link
abbrev pub place_of_body : Kind → ℕ → ℕ
place_of_body Cpm8 unit = place_of_cpm_unit unit
place_of_body D64 unit = place_of_block unit + 2
place_of_body D64e unit = place_of_block unit + 2

-- the range from which a unit gives so many bytes of a file
abbrev pub range_of_unit : Kind → ℕ → ℕ → ByteRange
range_of_unit kind unit count = record { start = place_of_body kind unit; count = count }

-- the ranges that hold the bytes of a file, one for each of its units: of each unit but the last all that
-- it holds of a file, and of the last one the first `last` bytes of that
abbrev pub ranges_of : Kind → List ℕ → ℕ → List ByteRange
ranges_of kind units last =
    map_last_apart (λ unit. range_of_unit kind unit (room_of kind)) (λ unit. range_of_unit kind unit last) units
