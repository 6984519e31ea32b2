use Rattle.std.proofs.Common.{◌≡◌, ◌≤◌, ◌-◌, false, length, take}
use Rattle.std.specs.Io.KnownBytes.{Appends}
use Rattle.rd_messages.proofs.write.put_all.Given as goal

abbrev pub invariant-loop-sent : goal.invariant-loop-sent
invariant-loop-sent g l = record {
  within : l.sent ≤ length l.bytes;
  sends : Appends (g.W.Wire.outgoing l.fn.wire) (g.W.Wire.outgoing l.wire) (take l.sent l.bytes);
  ready : g.W.Wire.write_failed l.wire ≡ false;
  kept : g.W.Wire.incoming l.wire ≡ g.W.Wire.incoming l.fn.wire;
  came : g.W.Wire.came l.wire ≡ g.W.Wire.came l.fn.wire;
  reads_unchanged : g.W.Wire.read_failed l.wire ≡ g.W.Wire.read_failed l.fn.wire;
}

abbrev pub decreases-loop-sent : goal.decreases-loop-sent
decreases-loop-sent g l = length l.bytes - l.sent
