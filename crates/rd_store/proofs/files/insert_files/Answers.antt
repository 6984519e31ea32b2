use Rattle.rd_store.proofs.Common.{◌≡◌, ◌∙◌, Ok, length, subst, arith, Error, IsDeskWith, Moves, IsFiledTo}
use Rattle.rd_tables.proofs.TransactionSteps.{and_then, stopped, then_told}
use Rattle.rd_store.proofs.files.insert_files.Goals as goal

pub returns-in_err-insert_file-clause-moves : goal.returns-in_err-insert_file-clause-moves
returns-in_err-insert_file-clause-moves g c desk images = stopped g.S.Store c.from_residual.result c.from_residual.ensures.0 (and_then g.S.Store (c.loop-at.invariant.1 desk images) (c.in_err-insert_file.ensures.moves desk images))

pub loop-at-preserved : goal.loop-at-preserved
loop-at-preserved g c = (
  c.insert_file.ensures.same_reference ∙ c.loop-at.invariant.0,
  λ desk images. then_told g.S.Store (c.loop-at.invariant.1 desk images) (c.in_ok-insert_file.ensures.moves desk images),
)

pub returns-clause-moves : goal.returns-clause-moves
returns-clause-moves g c desk images =
    let is : c.loop-at.at ≡ length c.args.files.now = omega (arith, c.loop-at-test.false, c.loop-at.auto.at-end) in
    subst (λ count. Moves {T = Unit {0}} {X = Error} g.S.Store c.args.tx.now.conn.now c.loop-at.tx.conn.now (IsDeskWith desk (IsFiledTo images c.args.acc c.args.files.now 0)) (IsDeskWith desk (IsFiledTo images c.args.acc c.args.files.now count)) (Ok tt)) is (c.loop-at.invariant.1 desk images)
