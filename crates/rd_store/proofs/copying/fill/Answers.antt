use Rattle.rd_store.proofs.Common.{◌∙◌, inl, inr, refl, with_deeds, with_images, empty_desk, desk}
use Rattle.rd_store.proofs.CopyLemmas.{and_clean, both_clean}
use Rattle.rd_tables.proofs.TransactionSteps.{and_then, stopped}
use Rattle.rd_store.proofs.copying.fill.Goals as goal

pub returns-in_err-make_empty-clause-keeps : goal.returns-in_err-make_empty-clause-keeps
returns-in_err-make_empty-clause-keeps g c = inl refl

pub returns-in_err-copy_deeds-clause-keeps : goal.returns-in_err-copy_deeds-clause-keeps
returns-in_err-copy_deeds-clause-keeps g c = inl refl

pub returns-in_err-copy_images-clause-keeps : goal.returns-in_err-copy_images-clause-keeps
returns-in_err-copy_images-clause-keeps g c = inr c.copy_images.ensures.keeps

pub returns-clause-keeps : goal.returns-clause-keeps
returns-clause-keeps g c = inr c.copy_images.ensures.keeps

pub returns-in_err-make_empty-clause-moves : goal.returns-in_err-make_empty-clause-moves
returns-in_err-make_empty-clause-moves g c are = stopped g.S.Store c.from_residual.result c.from_residual.ensures.0 (and_clean g.S.Store c.args.from.now c.in_err-make_empty.ensures.moves)

pub returns-in_err-copy_deeds-clause-moves : goal.returns-in_err-copy_deeds-clause-moves
returns-in_err-copy_deeds-clause-moves g c are =
    stopped g.S.Store c.from_residual-in_err-copy_deeds.result c.from_residual-in_err-copy_deeds.ensures.0
    (and_clean g.S.Store c.args.from.now (and_then g.S.Store c.in_ok-make_empty.ensures.moves (c.in_err-copy_deeds.ensures.moves empty_desk (desk g.S.Store c.args.from.now).deeds refl (c.deref.ensures.value ∙ are.deeds_are))))

pub returns-in_err-copy_images-clause-moves : goal.returns-in_err-copy_images-clause-moves
returns-in_err-copy_images-clause-moves g c are =
    let d = desk g.S.Store c.args.from.now in
    let read = c.copy_images.new.from in
    let two = and_then g.S.Store c.in_ok-make_empty.ensures.moves (c.in_ok-copy_deeds.ensures.moves empty_desk d.deeds refl (c.deref.ensures.value ∙ are.deeds_are)) in
    stopped g.S.Store c.from_residual-in_err-copy_images.result c.from_residual-in_err-copy_images.ensures.0
    (and_then g.S.Store (both_clean g.S.Store read read (λ clean. clean) (and_clean g.S.Store read two)) (c.in_err-copy_images.ensures.moves (with_deeds d.deeds empty_desk) refl))

pub returns-clause-moves : goal.returns-clause-moves
returns-clause-moves g c are =
    let d = desk g.S.Store c.args.from.now in
    let read = c.copy_images.new.from in
    let first = with_deeds d.deeds empty_desk in
    let two = and_then g.S.Store c.in_ok-make_empty.ensures.moves (c.in_ok-copy_deeds.ensures.moves empty_desk d.deeds refl (c.deref.ensures.value ∙ are.deeds_are)) in
    let three = and_then g.S.Store (both_clean g.S.Store read read (λ clean. clean) (and_clean g.S.Store read two)) (c.in_ok-copy_images.ensures.moves first refl) in
    and_then g.S.Store three (c.copy_rest.ensures.moves (with_images d.images first) d refl refl refl are)
