use Rattle.std.proofs.Common.{◌≡◌, ◌-◌, ◌≤◌, false, length, take}
use Rattle.rd_messages.specs.Taken.{GrowsByTaken}
use Rattle.rd_messages.proofs.body.fill.Given as goal

abbrev pub invariant-loop-filled : goal.invariant-loop-filled
invariant-loop-filled g l = record {
  after : l.start ≤ l.filled;
  within : l.filled ≤ length l.buf;
  size : length l.buf ≡ length l.initial.buf;
  read : GrowsByTaken (g.W.Wire.incoming l.fn.wire) (g.W.Wire.incoming l.wire) (take l.start l.initial.buf) (take l.filled l.buf);
  untouched : l.start ≡ length l.buf → l.wire ≡ l.fn.wire;
  ready : g.W.Wire.read_failed l.wire ≡ false;
  came : g.W.Wire.came l.wire ≡ g.W.Wire.came l.fn.wire;
  kept : g.W.Wire.outgoing l.wire ≡ g.W.Wire.outgoing l.fn.wire;
  writes_unchanged : g.W.Wire.write_failed l.wire ≡ g.W.Wire.write_failed l.fn.wire;
}

abbrev pub decreases-loop-filled : goal.decreases-loop-filled
decreases-loop-filled g l = length l.initial.buf - l.filled
