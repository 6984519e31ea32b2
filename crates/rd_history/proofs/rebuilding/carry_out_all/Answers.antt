use Rattle.std.proofs.Common.{◌∙◌, ap, arith, subst, sym, take, take_all}
use Rattle.rd_tables.proofs.ConnectionLaws.{lasts_then}
use Rattle.rd_store.specs.Held.{desk}
use Rattle.rd_history.specs.Replayed.{standing_with}
use Rattle.rd_history.specs.Settled.{StandsAs}
use Rattle.rd_history.proofs.Rebuilds.{keeps_on, one_more, standing_snoc}
use Rattle.rd_history.proofs.rebuilding.carry_out_all.Goals as goal

pub loop-change-preserved : goal.loop-change-preserved
loop-change-preserved g c =
    let kept = c.loop-change.invariant in
    let carries = c.in_ok-carry_out.ensures.carries in
    let changes = c.args.changes.now in
    let at = c.loop-change.change-index in
    let change = c.change-item.result in
    record {
      source = keeps_on g.F.Store c.args.source.now c.loop-change.source c.carry_out.new.source kept.source (λ was. kept.source_opens (λ clean. was)) c.carry_out.ensures.source;
      source_opens = λ opens clean. c.in_ok-carry_out.ensures.source_opens (kept.source_opens opens) clean;
      lasts = lasts_then g.S.Store c.args.store.now c.loop-change.store c.carry_out.new.store kept.lasts c.carry_out.ensures.carries.lasts;
      opens = λ opens clean. carries.ends_open clean;
      stands = λ is_open now told.
          subst (StandsAs (desk g.S.Store c.carry_out.new.store)) (sym (ap (standing_with now) (one_more changes at change c.loop-change-test.true c.change-item.is) ∙ standing_snoc now (take at changes) change))
          (carries.stands is_open (standing_with now (take at changes)) (kept.stands (c.carry_out.ensures.carries.lasts.was_open is_open) now told));
      whole = λ is_open all. carries.whole is_open (kept.whole (c.carry_out.ensures.carries.lasts.was_open is_open) all);
    }

pub returns-clause-stands : goal.returns-clause-stands
returns-clause-stands g c = λ is_open now told.
    subst (λ changes. StandsAs (desk g.S.Store c.loop-change.store) (standing_with now changes)) (take_all c.loop-change.change-index c.args.changes.now (omega (arith, c.loop-change-test.false)))
    (c.loop-change.invariant.stands is_open now told)
