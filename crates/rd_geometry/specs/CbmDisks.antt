-- An image as that of a 1541 disk.
use Rattle.std.specs.Prelude.{ℕ, List}
use Rattle.rd_geometry.specs.declared.kind.Kind.{Kind}
use Rattle.rd_geometry.specs.declared.cbm_disk.CbmDisk.{CbmDisk}

-- the kind of a 1541 disk's image
abbrev pub cbm_kind : CbmDisk → Kind
cbm_kind disk = disk.kind

-- the bytes of a 1541 disk's image, its error bytes among them, as many as an image of its kind has: the
-- type `CbmDisk` keeps that
abbrev pub cbm_bytes : CbmDisk → List ℕ
cbm_bytes disk = disk.bytes.now
