use Rattle.std.proofs.Common.{◌≡◌, ◌*◌, flat_map, take}
use Rattle.rd_geometry.specs.CbmDisks.{cbm_bytes, cbm_kind}
use Rattle.rd_volume.specs.Volumes.{body_of}
use Rattle.rd_volume.proofs.cbm.copy_blocks.Given as goal

-- what the blocks so far hold stands at the front
abbrev pub invariant-loop-at : goal.invariant-loop-at
invariant-loop-at l = take (254 * l.at) l.into ≡ flat_map (body_of (cbm_kind l.disk) (cbm_bytes l.disk)) (take l.at l.blocks)
