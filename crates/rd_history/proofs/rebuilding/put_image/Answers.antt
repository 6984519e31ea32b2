use Rattle.std.proofs.Common.{◌∙◌, Ok, ap, length}
use Rattle.sha2.specs.Sha256.{sha256}
use Rattle.rd_geometry.specs.Kinds.{size_of}
use Rattle.rd_holdings.specs.declared.rows.ImageRow.{ImageRow}
use Rattle.rd_history.specs.declared.entry.Change.TheVariants.{Image}
use Rattle.rd_history.proofs.Rebuilds.{carries_so, image_put}
use Rattle.rd_history.proofs.rebuilding.put_image.Goals as goal

pub returns-in-Ok-put_image-clause-carries : goal.returns-in-Ok-put_image-clause-carries
returns-in-Ok-put_image-clause-carries g c =
    let this = rw c.in-Some.is at c.in-Ok.ensures.this in
    let image : ImageRow = record { kind = c.args.kind; deed = c.args.deed; digest = c.args.digest.now; bytes = c.as_slice.result.now } in
    carries_so g.S.Store c.args.store.now c.put_image.new.self (Image c.args.acc c.args.kind c.args.deed c.args.digest.now) tt tt
    (image_put g.S.Store c.args.store.now c.put_image.new.self (Ok tt) c.args.acc image (record { size = ap length c.as_slice.ensures ∙ this.2.size ∙ ap size_of this.0; sound = ap sha256 c.as_slice.ensures ∙ this.2.sound ∙ this.1 }) c.in-Ok-put_image.ensures.changes)
