use Rattle.rd_store.proofs.Common.{◌∙◌, ℕ, ap, arith, length, nat_cmp, entries, DeedRow, with_deeds}
use Rattle.rd_store.proofs.CopyLemmas.{all_copied, at_same, first_of, none_copied, one_copied}
use Rattle.rd_store.proofs.Orders.{number_order}
use Rattle.rd_store.proofs.copying.copy_deeds.Goals as goal

pub returns-in_err-copy_deed-clause-moves : goal.returns-in_err-copy_deed-clause-moves
returns-in_err-copy_deed-clause-moves g c before all none is =
    let item : ℕ × DeedRow = c.index-deeds-at.result in
    none_copied g.S.Store number_order before all with_deeds c.loop-at.at (c.loop-at.invariant.1 before all none is) item (at_same (entries all) c.args.deeds.now c.loop-at.at item is (omega (arith, c.loop-at-test.true)) c.index-deeds-at.is) c.from_residual.result c.from_residual.ensures.0 (c.in_err-copy_deed.ensures.moves (with_deeds (first_of nat_cmp c.loop-at.at all) before))

pub loop-at-preserved : goal.loop-at-preserved
loop-at-preserved g c = (
  c.copy_deed.ensures.same_reference ∙ c.loop-at.invariant.0,
  λ before all none is.
      let item : ℕ × DeedRow = c.index-deeds-at.result in
      one_copied g.S.Store number_order before all with_deeds c.loop-at.at (c.loop-at.invariant.1 before all none is) item (at_same (entries all) c.args.deeds.now c.loop-at.at item is (omega (arith, c.loop-at-test.true)) c.index-deeds-at.is) (c.in_ok-copy_deed.ensures.moves (with_deeds (first_of nat_cmp c.loop-at.at all) before)),
)

pub returns-clause-moves : goal.returns-clause-moves
returns-clause-moves g c before all none is = all_copied g.S.Store number_order before all with_deeds c.loop-at.at (c.loop-at.invariant.1 before all none is) (omega (arith, ap length is, c.loop-at-test.false, c.loop-at.auto.at-end))
