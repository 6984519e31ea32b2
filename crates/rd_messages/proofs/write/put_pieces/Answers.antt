use Rattle.std.proofs.Common.{◌≡◌, ◌∙◌, [], rules}
use Rattle.std.proofs.lemmas.Result.{err_from_is_err_and}
use Rattle.rd_protocol.specs.BodyPieces.{pieces_left}
use Rattle.rd_messages.proofs.SentBytes.{all_sent, begun, fewer_left, piece_part, piece_sent}
use Rattle.rd_messages.proofs.write.put_pieces.Goals as goal

pub loop-piece-init : goal.loop-piece-init
loop-piece-init g c =
    let first = c.put_front_of.ensures in
    record {
      sends = begun _ _ _ _ _ c.pieces-pieces.ensures.whole first.bytes;
      ready = first.working;
      kept = first.kept;
      came = first.came;
      reads_unchanged = first.reads_unchanged;
    }

pub loop-piece-preserved : goal.loop-piece-preserved
loop-piece-preserved g c =
    let at = c.loop-piece.invariant in
    let put = c.in_ok-put_all.ensures in
    let next = c.put_front_of-in-Some.ensures in
    record {
      sends = piece_sent _ _ _ _ _ _ _ _ _ at.sends c.in-Some.ensures.steps put.sends next.bytes;
      ready = next.working;
      kept = next.kept ∙ put.kept ∙ at.kept;
      came = next.came ∙ put.came ∙ at.came;
      reads_unchanged = next.reads_unchanged ∙ put.reads_unchanged ∙ at.reads_unchanged;
    }

pub loop-piece-smaller : goal.loop-piece-smaller
loop-piece-smaller g c = fewer_left _ _ _ _ _ _ c.in-Some.ensures.steps c.put_front_of-in-Some.ensures.bytes

pub returns-in_err-put_all-clause-sends : goal.returns-in_err-put_all-clause-sends
returns-in_err-put_all-clause-sends g c =
    let p = err_from_is_err_and c.from_residual.result c.from_residual.ensures.1 in
    rw p.1 (piece_part _ _ _ _ _ _ _ c.loop-piece.invariant.sends c.in-Some.ensures.steps c.in_err-put_all.ensures.sends)

pub returns-clause-sends : goal.returns-clause-sends
returns-clause-sends g c =
    let none : pieces_left c.loop-piece.pieces ≡ [] = search rules in
    all_sent _ _ _ _ c.loop-piece.invariant.sends none
