use Rattle.rd_protocol.proofs.FrontLemmas.{filled_front}
use Rattle.rd_protocol.proofs.body.copy_front_of_file.Goals as goal

pub returns-clause-copied : goal.returns-clause-copied
returns-clause-copied c = filled_front _ _ _ c.copy_front.ensures.copied
