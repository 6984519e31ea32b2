use Rattle.std.proofs.Common.{◌≡◌, ◌∙◌, ◌∷◌, ap, arith, drop, false, subst, sym, true, true≢false}
use Rattle.rd_history.specs.Replaying.{MayEndBefore, Takes}
use Rattle.rd_history.specs.declared.entry.Entry.{Entry}
use Rattle.rd_history.proofs.Replays.{at_cut, at_more, is_next}
use Rattle.rd_history.proofs.replaying.Replay.with_lines.Goals as goal

pub returns-then-ends_before-clause-reads : goal.returns-then-ends_before-clause-reads
returns-then-ends_before-clause-reads c = record {
  goes_on = λ e. absurd (true≢false e);
  come = λ entries at next.
      let replay = c.loop-line.replay in
      let found = is_next c.args.lines.now c.args.self.stage.number entries c.loop-line.line-index c.line-item.result next c.loop-line-test.true (sym c.line-item.is) in
      let here : drop replay.stage.number entries ≡ found.entry ∷ found.rest = ap (λ n. drop n entries) c.loop-line.invariant.number ∙ found.here in
      let ends = subst (λ (entry : Entry). MayEndBefore c.args.number replay.stage entry.change) (found.only c.in-Ok.entry c.in-Ok.ensures) (c.ends_before.ensures.0 c.if-ends_before.true) in
      at_cut c.args.number entries replay (c.loop-line.invariant.come entries at next) found.entry found.rest here ends;
}

pub loop-line-preserved : goal.loop-line-preserved
loop-line-preserved c = record {
  goes_on = c.in_ok-replay.ensures.takes.goes_on;
  number = omega (arith, c.in_ok-replay.ensures.takes.steps.0, c.loop-line.invariant.number);
  come = λ entries at next.
      let replay = c.loop-line.replay in
      let found = is_next c.args.lines.now c.args.self.stage.number entries c.loop-line.line-index c.line-item.result next c.loop-line-test.true (sym c.line-item.is) in
      let here : drop replay.stage.number entries ≡ found.entry ∷ found.rest = ap (λ n. drop n entries) c.loop-line.invariant.number ∙ found.here in
      let same = found.only c.in-Ok.entry c.in-Ok.ensures in
      let takes = subst (λ (entry : Entry). Takes entry.change replay c.in_ok-replay.replay) same c.in_ok-replay.ensures.takes in
      at_more c.args.number entries replay (c.loop-line.invariant.come entries at next) found.entry found.rest here c.in_ok-replay.replay
      (λ ends. true≢false (sym (c.ends_before.ensures.1 (subst (λ (entry : Entry). MayEndBefore c.args.number replay.stage entry.change) (sym same) ends)) ∙ c.if-ends_before.false)) takes;
}
