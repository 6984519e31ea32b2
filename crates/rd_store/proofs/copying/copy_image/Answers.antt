use Rattle.rd_store.proofs.Common.{◌∙◌, sym, ImageRow, IsOf, with_new_image}
use Rattle.rd_store.proofs.CopyLemmas.{of_told, some_same, unmoved}
use Rattle.rd_store.proofs.copying.copy_image.Goals as goal

pub returns-in_err-image-clause-moves : goal.returns-in_err-image-clause-moves
returns-in_err-image-clause-moves g c before image = unmoved g.S.Store c.args.tx.now.conn.now _ _ c.from_residual.result c.from_residual.ensures.0

pub returns-clause-moves : goal.returns-clause-moves
returns-clause-moves g c before image =
    of_told g.S.Store (λ (i : ImageRow). IsOf (with_new_image c.args.acc i before)) (λ db held. (held.1.1, some_same (sym (c.in_ok-image.ensures.reads.answer (c.in_ok-image.ensures.reads.ends_open held.0)) ∙ held.1.0))) (c.put_image.ensures.moves before)
