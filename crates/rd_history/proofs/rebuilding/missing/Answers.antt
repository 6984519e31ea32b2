use Rattle.std.proofs.Common.{◌∷◌, [], ◌++◌, subst, sym, take}
use Rattle.rd_holdings.specs.State.{Desk}
use Rattle.rd_store.specs.Held.{desk}
use Rattle.rd_history.specs.Rebuilt.{AreMissing, IsMissing}
use Rattle.rd_history.proofs.Rebuilds.{keeps_on, missing_snoc, one_more}
use Rattle.rd_history.proofs.rebuilding.missing.Goals as goal

pub loop-change-preserved : goal.loop-change-preserved
loop-change-preserved g c =
    let kept = c.loop-change.invariant in
    let changes = c.args.changes.now in
    let at = c.loop-change.change-index in
    let change = c.change-item.result in
    record {
      keeps = keeps_on g.F.Store c.args.source.now c.loop-change.source c.with_missing.new.source kept.keeps (λ was. kept.opens (λ clean. was)) c.with_missing.ensures.keeps;
      opens = λ opens clean. c.in_ok-missing.ensures.opens (kept.opens opens) clean;
      missing = λ is_open.
          let was = c.with_missing.ensures.keeps.lasts.was_open is_open in
          let d = desk g.F.Store c.args.source.now in
          let more = c.in_ok-missing.ensures.more is_open in
          subst (λ l. AreMissing d l c.in_ok-missing.missing.items) (sym (one_more changes at change c.loop-change-test.true c.change-item.is))
          (subst (AreMissing d (take at changes ++ change ∷ [])) (sym more.2)
          (missing_snoc d (take at changes) change c.loop-change.missing.items more.0 (kept.missing was) (subst (λ (e : Desk). IsMissing e change more.0) (kept.keeps.same was) more.1)));
    }
