use Rattle.rd_volume.proofs.OneContents.{one_contents}
use Rattle.rd_volume.proofs.laws.each_sound_file_has_one_content.Goals as goal

pub returns : goal.returns
returns c = one_contents
