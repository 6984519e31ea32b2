use Rattle.std.proofs.Common.{◌≡◌, rules, subst}
use Rattle.rd_volume.specs.PiecesLeft.{pieces_left}
use Rattle.rd_volume.specs.Volumes.{pieces_of}
use Rattle.rd_protocol.specs.Kept.{lent_kept}
use Rattle.rd_protocol.specs.Lent.{Lent}
use Rattle.rd_protocol.specs.Slices.{AreSlicesOf, not_empty}
use Rattle.rd_protocol.proofs.SliceLemmas.{lent_sliced}
use Rattle.rd_protocol.proofs.contents.Contents.pieces.Goals as goal

pub returns-clause-slices : goal.returns-clause-slices
returns-clause-slices c =
    let lent = lent_kept c.self.inside in
    let left = pieces_left c.pieces.result in
    let are : left ≡ pieces_of lent.kind lent.image lent.file.units lent.file.last_len = search rules in
    subst (λ (from : Lent). AreSlicesOf from (not_empty left)) c.self.view_is (lent_sliced lent left c.self.invariant.sized c.self.invariant.fits are)
