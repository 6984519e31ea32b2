use Rattle.std.proofs.Common.{◌≡◌, ◌*◌, take}
use Rattle.rd_cpm.specs.Contents.{bytes_of_sectors}
use Rattle.rd_geometry.specs.CpmDisks.{cpm_bytes}
use Rattle.rd_volume.proofs.cpm.copy_sectors.Given as goal

-- what the sectors so far hold stands at the front
abbrev pub invariant-loop-at : goal.invariant-loop-at
invariant-loop-at l = take (128 * l.at) l.into ≡ bytes_of_sectors (cpm_bytes l.disk) (take l.at l.sectors)
