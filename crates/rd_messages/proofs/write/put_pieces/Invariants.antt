use Rattle.std.proofs.Common.{◌≡◌, false, length}
use Rattle.rd_protocol.specs.BodyPieces.{pieces_left}
use Rattle.rd_messages.proofs.SentBytes.{SentSoFar}
use Rattle.rd_messages.proofs.write.put_pieces.Given as goal

abbrev pub invariant-loop-piece : goal.invariant-loop-piece
invariant-loop-piece g l = record {
  sends : SentSoFar (g.W.Wire.outgoing l.fn.wire) (g.W.Wire.outgoing l.wire) (pieces_left l.pieces) l.body.bytes;
  ready : g.W.Wire.write_failed l.wire ≡ false;
  kept : g.W.Wire.incoming l.wire ≡ g.W.Wire.incoming l.fn.wire;
  came : g.W.Wire.came l.wire ≡ g.W.Wire.came l.fn.wire;
  reads_unchanged : g.W.Wire.read_failed l.wire ≡ g.W.Wire.read_failed l.fn.wire;
}

abbrev pub decreases-loop-piece : goal.decreases-loop-piece
decreases-loop-piece g l = length (pieces_left l.pieces)
