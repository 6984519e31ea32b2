use Rattle.rd_volume.proofs.FoundFile.{described_slot, told_sound}
use Rattle.rd_volume.proofs.laws.each_file_told_is_at_its_slot.Goals as goal

pub returns-clause-slot : goal.returns-clause-slot
returns-clause-slot c = described_slot

pub returns-clause-sound : goal.returns-clause-sound
returns-clause-sound c = told_sound
