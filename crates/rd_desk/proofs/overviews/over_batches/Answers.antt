use Rattle.std.proofs.Common.{◌≡◌, ◌∙◌, ◌+◌, ◌*◌, ◌≤◌, [], ap, arith, drop, length, rules, subst, sym, take}
use Rattle.std.specs.FinMap.{entries, keys}
use Rattle.std.specs.List.{AllZip}
use Rattle.rd_store.specs.Batched.{IsIndexed}
use Rattle.rd_store.specs.Held.{desk}
use Rattle.rd_desk.proofs.BatchLemmas.{accs_before, batch_next, batch_stands, batches_end}
use Rattle.rd_desk.proofs.ResponseLemmas.{keeps_then}
use Rattle.rd_desk.proofs.overviews.over_batches.Goals as goal

pub loop-at-init : goal.loop-at-init
loop-at-init g c =
    let d = desk g.S.Store c.args.store.now in
    record { keeps = search rules; open_if_clean = search rules; said = λ o. subst (g.O.Overview.says c.args.overview.now d []) (sym c.new-lines.ensures.items) (g.met.O.Overview.none c.args.overview.now d) }

pub loop-at-preserved : goal.loop-at-preserved
loop-at-preserved g c = record {
  keeps = keeps_then g.S.Store c.args.store.now c.loop-at.store c.batch.new.self c.loop-at.invariant.keeps (λ was clean. c.loop-at.invariant.open_if_clean clean) c.batch.ensures.reads.keeps;
  open_if_clean = λ clean. c.in_ok-batch.ensures.reads.ends_open clean;
  said = λ o.
      let was = c.batch.ensures.reads.keeps.lasts.was_open o in
      let first = c.loop-at.invariant.keeps.lasts.was_open was in
      let d = desk g.S.Store c.args.store.now in
      let from = 16 * c.loop-at.at in
      let zip = subst (λ e. AllZip IsIndexed (take 16 (drop from (entries e.images))) c.in_ok-batch.batch.items) (c.loop-at.invariant.keeps.same was) (c.in_ok-batch.ensures.reads.answer o) in
      let more = c.in_ok-lines.ensures d (accs_before d from) (c.requires.rules first) (batch_stands d from 16 c.in_ok-batch.batch.items zip) (c.loop-at.invariant.said was) in
      let next : from + 16 ≡ 16 * (c.loop-at.at + 1) = omega arith in
      subst (λ accs. g.O.Overview.says c.args.overview.now d accs c.in_ok-lines.lines.items) (batch_next d from 16 c.in_ok-batch.batch.items zip ∙ ap (accs_before d) next) more;
}

pub returns : goal.returns
returns g c = record {
  keeps = c.loop-at.invariant.keeps;
  ends_open = λ clean. c.loop-at.invariant.open_if_clean clean;
  answer = λ o.
      let first = c.loop-at.invariant.keeps.lasts.was_open o in
      let d = desk g.S.Store c.args.store.now in
      let count = c.requires.count first in
      let whole : length (keys d.images) ≤ 16 * c.loop-at.at = omega (arith, count, c.loop-at-test.false) in
      subst (λ accs. g.O.Overview.says c.args.overview.now d accs c.loop-at.lines.items) (batches_end d (16 * c.loop-at.at) whole) (c.loop-at.invariant.said o);
}
