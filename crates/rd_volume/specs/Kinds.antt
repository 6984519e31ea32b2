-- What the units of a disk hold, by its kind. The blocks of a 1541 disk are the same with error bytes as
-- without.
use Rattle.std.specs.Prelude.{ℕ}
use Rattle.rd_geometry.specs.declared.kind.Kind.{Kind}
use Rattle.rd_geometry.specs.declared.kind.Kind.TheVariants.{Cpm8, D64, D64e}
use Rattle.rd_geometry.specs.Blocks.{CBM_BLOCKS}
use Rattle.rd_geometry.specs.Places.{CPM_UNITS, CPM_UNIT_LENGTH}

-- how many units a disk of a kind has
abbrev pub unit_count_of : Kind → ℕ
unit_count_of Cpm8 = CPM_UNITS
unit_count_of D64 = CBM_BLOCKS
unit_count_of D64e = CBM_BLOCKS

-- how many bytes of a file a unit holds at most: all of a CP/M sector, and all of a 1541 block but the
-- two of its link
abbrev pub room_of : Kind → ℕ
room_of Cpm8 = CPM_UNIT_LENGTH
room_of D64 = 254
room_of D64e = 254
