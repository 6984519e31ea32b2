-- A disk of either kind: a CP/M disk, or a 1541 disk, whose image has error bytes or none.
use Rattle.std.specs.Prelude.{ℕ, List}
use Rattle.rd_geometry.specs.CbmDisks.{cbm_bytes, cbm_kind}
use Rattle.rd_geometry.specs.CpmDisks.{cpm_bytes}
use Rattle.rd_geometry.specs.declared.kind.Kind.{Kind}
use Rattle.rd_geometry.specs.declared.kind.Kind.TheVariants.{Cpm8}
use Rattle.rd_volume.specs.declared.disk.Disk.{Disk}
use Rattle.rd_volume.specs.declared.disk.Disk.TheVariants.{Cpm, Cbm}

-- the kind of a disk's image
abbrev pub disk_kind : Disk → Kind
disk_kind (Cpm disk) = Cpm8
disk_kind (Cbm disk) = cbm_kind disk

-- the bytes of a disk's image
abbrev pub disk_bytes : Disk → List ℕ
disk_bytes (Cpm disk) = cpm_bytes disk
disk_bytes (Cbm disk) = cbm_bytes disk
