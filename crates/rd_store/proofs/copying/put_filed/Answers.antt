use Rattle.rd_store.proofs.Common.{with_new_image, image_with}
use Rattle.rd_store.proofs.DatabaseSteps.{filed_whole}
use Rattle.rd_tables.proofs.TransactionSteps.{and_then, moves_to, stopped}
use Rattle.rd_store.proofs.copying.put_filed.Goals as goal

pub returns-clause-moves : goal.returns-clause-moves
returns-clause-moves g c before =
    let image = image_with c.args.heading.now c.args.bytes.now in
    let after = with_new_image c.args.acc image before in
    and_then g.S.Store (c.in_ok-insert_image.ensures.moves before c.args.files.now) (moves_to g.S.Store (filed_whole c.args.acc image before c.args.files.now c.requires.files) (c.insert_files.ensures.moves after before.images))

pub returns-in_err-insert_image-clause-moves : goal.returns-in_err-insert_image-clause-moves
returns-in_err-insert_image-clause-moves g c before = stopped g.S.Store c.from_residual.result c.from_residual.ensures.0 (c.in_err-insert_image.ensures.moves before c.args.files.now)
