use Rattle.std.proofs.Common.{◌≡◌, ◌+◌, List, false}
use Rattle.rd_history.specs.Replaying.{AreNext, IsAt}
use Rattle.rd_history.specs.declared.entry.Entry.{Entry}
use Rattle.rd_history.proofs.replaying.Replay.with_lines.Given as goal

abbrev pub invariant-loop-line : goal.invariant-loop-line
invariant-loop-line l = record {
  goes_on : l.replay.is_cut ≡ false;
  number : l.replay.stage.number ≡ l.fn.self.stage.number + l.line-index;
  come : (entries : List Entry) → IsAt l.fn.number entries l.fn.self → AreNext l.lines l.fn.self.stage.number entries → IsAt l.fn.number entries l.replay;
}
