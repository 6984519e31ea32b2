-- What an iterator over the pieces of a file still has to give.
use Rattle.std.specs.Prelude.{ℕ, List}
use Rattle.rd_volume.specs.Disks.{disk_bytes, disk_kind}
use Rattle.rd_volume.specs.Volumes.{pieces_of}
use Rattle.rd_volume.specs.declared.slices.Pieces.{Pieces}

-- the pieces that are left
abbrev pub pieces_left : Pieces → List (List ℕ)
pieces_left pieces = pieces_of (disk_kind pieces.disk) (disk_bytes pieces.disk) pieces.units.now pieces.last_len
