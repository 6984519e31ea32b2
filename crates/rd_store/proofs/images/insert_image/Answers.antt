use Rattle.rd_store.proofs.Common.{ℕ, rules, subst, Error, ImageRow, IsDeskWith, LacksImage, Moves, IsFiledTo, with_new_image, image_with}
use Rattle.rd_store.proofs.MarkedImages.{plain_as_row}
use Rattle.rd_store.proofs.images.insert_image.Goals as goal

pub returns-clause-moves : goal.returns-clause-moves
returns-clause-moves g c before files =
    let acc = c.args.acc in
    subst (λ (i : ImageRow). Moves {T = ℕ} {X = Error} g.S.Store c.args.tx.now.conn.now c.insert_row.new.tx.conn.now (LacksImage acc before) (IsDeskWith (with_new_image acc i before) (IsFiledTo before.images acc files 0)) c.insert_row.result)
    (plain_as_row (image_with c.args.heading.now c.args.bytes.now) (search rules)) (c.insert_row.ensures.moves before files)
