-- An image as that of a CP/M disk.
use Rattle.std.specs.Prelude.{ℕ, List}
use Rattle.rd_geometry.specs.declared.cpm_disk.CpmDisk.{CpmDisk}

-- the bytes of a CP/M disk's image; the type `CpmDisk` ensures that there are as many as such an
-- image has
abbrev pub cpm_bytes : CpmDisk → List ℕ
cpm_bytes disk = disk.bytes.now
