use Rattle.std.proofs.Common.{◌∙◌, ap, arith, length}
use Rattle.rd_geometry.specs.CbmDisks.{cbm_bytes, cbm_kind}
use Rattle.rd_volume.specs.Volumes.{body_of}
use Rattle.rd_volume.proofs.FrontLemmas.{body_more}
use Rattle.rd_volume.proofs.cbm.copy_blocks.Goals as goal

pub loop-at-preserved : goal.loop-at-preserved
loop-at-preserved c =
    let disk = c.args.disk.now in
    let written = c.copy_from_slice.ensures.after in
    body_more (body_of (cbm_kind disk) (cbm_bytes disk)) c.loop-at.at _ _ _ c.loop-at.into c.args.blocks.now
    c.copy_from_slice.new.self (omega arith) (omega (arith, ap length written, c.body.ensures.sized)) (omega arith)
    (written ∙ c.body.ensures.value) c.loop-at.invariant
