use Rattle.std.proofs.Common.{◌≡◌, ◌-◌, ◌≤◌, false, length, take}
use Rattle.std.specs.Io.KnownBytes.{Consumes}
use Rattle.httparse.specs.Grammar.{HasNoRequest}
use Rattle.rd_messages.proofs.head.read_head.Given as goal

abbrev pub invariant-loop-filled : goal.invariant-loop-filled
invariant-loop-filled g l = record {
  filled : l.filled ≤ 8192;
  buffer : length l.buf ≡ 8192;
  room : length l.spans ≡ 64;
  read : Consumes (g.W.Wire.incoming l.fn.wire) (g.W.Wire.incoming l.wire) (take l.filled l.buf);
  none : HasNoRequest (take l.filled l.buf);
  ready : g.W.Wire.read_failed l.wire ≡ false;
  came : g.W.Wire.came l.wire ≡ g.W.Wire.came l.fn.wire;
  kept : g.W.Wire.outgoing l.wire ≡ g.W.Wire.outgoing l.fn.wire;
  writes_unchanged : g.W.Wire.write_failed l.wire ≡ g.W.Wire.write_failed l.fn.wire;
}

abbrev pub decreases-loop-filled : goal.decreases-loop-filled
decreases-loop-filled g l = length l.initial.buf - l.filled
