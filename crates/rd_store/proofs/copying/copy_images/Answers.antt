use Rattle.rd_store.proofs.Common.{◌∙◌, ap, arith, refl, Desk, desk, Err}
use Rattle.rd_store.proofs.CopyLemmas.{keeps_then, unmoved}
use Rattle.rd_store.proofs.ImageCopies.{puts_all, puts_next, puts_none, puts_stop}
use Rattle.rd_store.proofs.copying.copy_images.Goals as goal

pub returns-in_default-clause-moves : goal.returns-in_default-clause-moves
returns-in_default-clause-moves g c before none = unmoved g.S.Store c.args.tx.now.conn.now _ _ (Err _) refl

pub loop-at-init : goal.loop-at-init
loop-at-init g c = (
  refl,
  c.in-Ok.ensures.reads.keeps,
  c.in-Ok.ensures.reads.ends_open,
  λ clean. c.in-Ok.ensures.reads.answer (c.in-Ok.ensures.reads.ends_open clean),
  λ before none. puts_none g.S.Store c.args.tx.now.conn.now before (desk g.S.Store c.args.from.now).images c.accessions.new.self none,
)

pub loop-at-preserved : goal.loop-at-preserved
loop-at-preserved g c = (
  c.copy_image.ensures.same_reference ∙ c.loop-at.invariant.0,
  keeps_then g.S.Store c.args.from.now c.loop-at.from c.copy_image.new.from c.loop-at.invariant.1 c.loop-at.invariant.2 c.copy_image.ensures.keeps,
  c.in_ok-copy_image.ensures.read_open,
  λ clean. c.loop-at.invariant.3 (c.copy_image.ensures.keeps.lasts.clean clean),
  λ before none.
      let was = c.copy_image.ensures.keeps.lasts.clean in
      puts_next g.S.Store c.args.tx.now.conn.now before (desk g.S.Store c.args.from.now).images c.loop-at.from c.copy_image.new.from c.loop-at.tx.conn.now c.copy_image.new.tx.conn.now was c.in-Ok.accessions.items c.loop-at.at c.index.result.now
      (λ clean. c.loop-at.invariant.3 (was clean)) (λ clean. ap (λ (d : Desk). d.images) (c.loop-at.invariant.1.same (c.loop-at.invariant.2 (was clean)))) (omega (arith, c.loop-at-test.true)) c.index.ensures (c.loop-at.invariant.4 before none)
      c.in_ok-copy_image.field-0 (c.in_ok-copy_image.ensures.moves _ _),
)

pub returns-in_err-copy_image-clause-keeps : goal.returns-in_err-copy_image-clause-keeps
returns-in_err-copy_image-clause-keeps g c = keeps_then g.S.Store c.args.from.now c.loop-at.from c.copy_image.new.from c.loop-at.invariant.1 c.loop-at.invariant.2 c.copy_image.ensures.keeps

pub returns-in_err-copy_image-clause-moves : goal.returns-in_err-copy_image-clause-moves
returns-in_err-copy_image-clause-moves g c before none =
    let was = c.copy_image.ensures.keeps.lasts.clean in
    puts_stop g.S.Store c.args.tx.now.conn.now before (desk g.S.Store c.args.from.now).images c.loop-at.from c.copy_image.new.from c.loop-at.tx.conn.now c.copy_image.new.tx.conn.now was c.in-Ok.accessions.items c.loop-at.at c.index.result.now
    (λ clean. c.loop-at.invariant.3 (was clean)) (λ clean. ap (λ (d : Desk). d.images) (c.loop-at.invariant.1.same (c.loop-at.invariant.2 (was clean)))) (omega (arith, c.loop-at-test.true)) c.index.ensures (c.loop-at.invariant.4 before none)
    c.in_err-copy_image.field-0.0 (c.in_err-copy_image.ensures.moves _ _) c.from_residual.result c.from_residual.ensures.0

pub returns-clause-keeps : goal.returns-clause-keeps
returns-clause-keeps g c = c.loop-at.invariant.1

pub returns-clause-read_open : goal.returns-clause-read_open
returns-clause-read_open g c = c.loop-at.invariant.2

pub returns-clause-moves : goal.returns-clause-moves
returns-clause-moves g c before none =
    puts_all g.S.Store c.args.tx.now.conn.now before (desk g.S.Store c.args.from.now).images c.loop-at.from c.loop-at.tx.conn.now c.in-Ok.accessions.items c.loop-at.at c.loop-at.invariant.3 (omega (arith, c.loop-at-test.false, c.loop-at.auto.at-end)) (c.loop-at.invariant.4 before none)
