use Rattle.std.proofs.Common.{◌∙◌, ap}
use Rattle.std.specs.List.{concat}
use Rattle.rd_volume.specs.PiecesLeft.{pieces_left}
use Rattle.rd_protocol.proofs.SliceLemmas.{not_empty_filled, not_empty_joined}
use Rattle.rd_protocol.proofs.body.pieces_of_file.Goals as goal

pub returns-clause-whole : goal.returns-clause-whole
returns-clause-whole c = not_empty_joined (pieces_left c.pieces.result) ∙ ap concat c.pieces.ensures.pieces

pub returns-clause-filled : goal.returns-clause-filled
returns-clause-filled c = not_empty_filled (pieces_left c.pieces.result)

pub returns-clause-slices : goal.returns-clause-slices
returns-clause-slices c = c.pieces.ensures.slices
