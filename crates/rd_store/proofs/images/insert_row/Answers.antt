use Rattle.rd_store.proofs.Common.{image_params, put_image_writes, kind_code, image_with}
use Rattle.rd_tables.proofs.TransactionSteps.{moves}
use Rattle.rd_store.proofs.DatabaseSteps.{makes_image, lacks_schema}
use Rattle.rd_store.proofs.images.insert_row.Goals as goal

pub returns-clause-moves : goal.returns-clause-moves
returns-clause-moves g c before files =
    let image = image_with c.args.heading.now c.args.bytes.now in
    moves put_image_writes (image_params c.args.acc (kind_code image.kind) image.deed image.digest image.bytes) (lacks_schema c.args.acc image before) (makes_image c.args.acc image before files) g.S.Store c.args.tx.now.conn.now c.execute.new.self.conn.now c.execute.result c.execute.ensures.ended
    (rw (c.params-to_sql.ensures, c.params-to_sql-2.ensures, c.params-to_sql-3.ensures, c.params-to_sql-4.ensures, c.params-to_sql-5.ensures, c.of_kind-code.ensures, c.as_slice-sum.ensures) at c.execute.ensures.runs) c.execute.ensures.survives
