use Rattle.std.proofs.Common.{length}
use Rattle.rd_volume.specs.AlikePieces.{pieces_are_ranges}
use Rattle.rd_volume.proofs.PieceLemmas.{parts_inside}
use Rattle.rd_volume.proofs.laws.each_piece_is_a_slice_of_its_image.Goals as goal

pub returns-clause-slices : goal.returns-clause-slices
returns-clause-slices c = λ kind image found fits. pieces_are_ranges kind image found.units found.last_len fits.last

pub returns-clause-inside : goal.returns-clause-inside
returns-clause-inside c = λ kind image found size fits. parts_inside kind found.units found.last_len (length image) fits.units fits.last size
