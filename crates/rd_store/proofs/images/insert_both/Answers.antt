use Rattle.rd_store.proofs.Common.{◌≡◌, ◌++◌, ◌∙◌, ℕ, Some, ap, sym, subst, insert, Error, D64, get_inserted, kind_code, kind_in, IsDeskWith, LacksImage, Moves, IsFiledTo, with_new_image, with_marks, as_row, image_with, Desk}
use Rattle.rd_tables.proofs.TransactionSteps.{and_then, stopped}
use Rattle.rd_store.proofs.MarkedImages.{image_again}
use Rattle.rd_store.proofs.Orders.{number_order}
use Rattle.rd_store.proofs.images.insert_both.Goals as goal

pub returns-in_err-insert_row-clause-moves : goal.returns-in_err-insert_row-clause-moves
returns-in_err-insert_row-clause-moves g c before files = stopped g.S.Store c.from_residual.result c.from_residual.ensures.0 (c.in_err-insert_row.ensures.moves before files)

pub returns-clause-moves : goal.returns-clause-moves
returns-clause-moves g c before files =
    let acc = c.args.acc in
    let blocks = c.split_at.result.0.now in
    let marks = c.split_at.result.1.now in
    let image = image_with c.args.heading.now c.args.bytes.now in
    let row = as_row (image_with c.args.heading.now blocks) in
    let whole : blocks ++ marks ≡ c.args.bytes.now = sym c.split_at.ensures.by_index.0 in
    let is : with_marks (Some marks) row ≡ image = λ i. record { kind = sym c.requires.kind i; deed = c.args.heading.now.deed; digest = c.args.heading.now.digest; bytes = whole i } in
    let kind : row.kind ≡ D64 = ap (λ k. kind_in (kind_code k)) c.requires.kind in
    let same : with_new_image acc (with_marks (Some marks) row) (with_new_image acc row before) ≡ with_new_image acc image before =
    λ i. record before { images = (ap (λ x. insert (insert before.images acc row) acc x) is ∙ image_again before.images acc row image) i } in
    subst (λ (d : Desk). Moves {T = ℕ} {X = Error} g.S.Store c.args.tx.now.conn.now c.insert_marks.new.tx.conn.now (LacksImage acc before) (IsDeskWith d (IsFiledTo before.images acc files 0)) c.insert_marks.result) same
    (and_then g.S.Store (c.in_ok-insert_row.ensures.moves before files) (c.insert_marks.ensures.moves (with_new_image acc row before) before.images files 0 row (get_inserted _ number_order before.images acc row) kind))
