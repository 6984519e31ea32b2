use Rattle.rd_store.proofs.Common.{rules, desk, with_new_image, image_with}
use Rattle.rd_tables.proofs.TransactionSteps.{and_then, moves_to, step_done, step_failed, stopped}
use Rattle.rd_store.proofs.DatabaseSteps.{filed_whole}
use Rattle.rd_store.proofs.DepositLemmas.{lacks, deposited}
use Rattle.rd_store.proofs.images.write_image.Goals as goal

pub returns-in_err-insert_image : goal.returns-in_err-insert_image
returns-in_err-insert_image g c =
    let image = image_with c.args.heading.now c.args.bytes.now in
    let d = desk g.S.Store c.args.conn.now in
    deposited g.S.Store (record { settles = g.met.S.Store.settled; shuts = g.met.S.Store.shut_if_dirty }) c.args.conn.now c.requires.holds c.args.acc image c.requires.free c.from_residual.result c.requires.image c.requires.deed (step_failed g.S.Store (record { settles = g.met.S.Store.settled; shuts = g.met.S.Store.shut_if_dirty }) c.args.conn.now _ c.transaction-tx.ensures.begun (lacks g.S.Store (record { settles = g.met.S.Store.settled; shuts = g.met.S.Store.shut_if_dirty }) c.args.conn.now c.requires.holds c.args.acc image c.requires.free) c.drop-tx.new.self.0 c.conn-1.given.0 (search rules)
    (stopped g.S.Store c.from_residual.result c.from_residual.ensures.0 (c.in_err-insert_image.ensures.moves d c.args.files.now)) c.drop-tx.ensures.undone c.drop-tx.ensures.survives c.from_residual.result c.from_residual.ensures.0)

pub returns-in_err-insert_files : goal.returns-in_err-insert_files
returns-in_err-insert_files g c =
    let image = image_with c.args.heading.now c.args.bytes.now in
    let d = desk g.S.Store c.args.conn.now in
    deposited g.S.Store (record { settles = g.met.S.Store.settled; shuts = g.met.S.Store.shut_if_dirty }) c.args.conn.now c.requires.holds c.args.acc image c.requires.free c.from_residual-in_err-insert_files.result c.requires.image c.requires.deed (step_failed g.S.Store (record { settles = g.met.S.Store.settled; shuts = g.met.S.Store.shut_if_dirty }) c.args.conn.now _ c.transaction-tx.ensures.begun (lacks g.S.Store (record { settles = g.met.S.Store.settled; shuts = g.met.S.Store.shut_if_dirty }) c.args.conn.now c.requires.holds c.args.acc image c.requires.free) c.drop-tx-in_err-insert_files.new.self.0 c.conn-in_err-insert_files-1.given.0 (search rules)
    (and_then g.S.Store (c.in_ok-insert_image.ensures.moves d c.args.files.now) (moves_to g.S.Store (filed_whole c.args.acc image d c.args.files.now c.requires.files) (c.in_err-insert_files.ensures.moves (with_new_image c.args.acc image d) d.images)))
    c.drop-tx-in_err-insert_files.ensures.undone c.drop-tx-in_err-insert_files.ensures.survives c.from_residual-in_err-insert_files.result c.from_residual-in_err-insert_files.ensures.0)

pub returns : goal.returns
returns g c =
    let image = image_with c.args.heading.now c.args.bytes.now in
    let d = desk g.S.Store c.args.conn.now in
    deposited g.S.Store (record { settles = g.met.S.Store.settled; shuts = g.met.S.Store.shut_if_dirty }) c.args.conn.now c.requires.holds c.args.acc image c.requires.free c.commit.result c.requires.image c.requires.deed (step_done g.S.Store (record { settles = g.met.S.Store.settled; shuts = g.met.S.Store.shut_if_dirty }) c.args.conn.now _ c.transaction-tx.ensures.begun (lacks g.S.Store (record { settles = g.met.S.Store.settled; shuts = g.met.S.Store.shut_if_dirty }) c.args.conn.now c.requires.holds c.args.acc image c.requires.free) c.commit.new.self.0 c.conn-2-1.given.0 (search rules)
    (and_then g.S.Store (c.in_ok-insert_image.ensures.moves d c.args.files.now) (moves_to g.S.Store (filed_whole c.args.acc image d c.args.files.now c.requires.files) (c.in_ok-insert_files.ensures.moves (with_new_image c.args.acc image d) d.images)))
    c.commit.ensures.survives c.commit.result c.commit.ensures.ok c.commit.ensures.err)
