use Rattle.rd_store.proofs.Common.{◌∙◌, All, sym, subst, true≢false, arith, take_all, All-more, Row, ShowsOther}
use Rattle.rd_store.proofs.keys.show_other.Goals as goal

pub loop-row-preserved : goal.loop-row-preserved
loop-row-preserved c =
    All-more (λ (row : Row). ¬ ShowsOther c.args.digest.now row) c.args.rows.now c.loop-row.row-index c.row-item.result (omega (arith, c.loop-row-test.true)) c.loop-row.invariant
    (subst (λ (row : Row). ¬ ShowsOther c.args.digest.now row) c.row-item.is (λ shows. true≢false (sym (c.in_ok-shows_other.ensures.other.1 shows) ∙ c.if-branch.false)))

pub returns-clause-other : goal.returns-clause-other
returns-clause-other c = subst (All (λ (row : Row). ¬ ShowsOther c.args.digest.now row)) (take_all c.loop-row.row-index c.args.rows.now (omega (arith, c.loop-row-test.false))) c.loop-row.invariant
