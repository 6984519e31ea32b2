use Rattle.std.proofs.Common.{◌∙◌, ap, arith, length}
use Rattle.rd_geometry.specs.CpmDisks.{cpm_bytes}
use Rattle.rd_geometry.specs.Places.{cpm_unit}
use Rattle.rd_volume.proofs.FrontLemmas.{body_more}
use Rattle.rd_volume.proofs.cpm.copy_sectors.Goals as goal

pub loop-at-preserved : goal.loop-at-preserved
loop-at-preserved c =
    let written = c.copy_from_slice.ensures.after in
    body_more (cpm_unit (cpm_bytes c.args.disk.now)) c.loop-at.at _ _ _ c.loop-at.into c.args.sectors.now
    c.copy_from_slice.new.self (omega arith) (omega (arith, ap length written, c.unit.ensures.sized)) (omega arith)
    (written ∙ c.unit.ensures.value) c.loop-at.invariant
