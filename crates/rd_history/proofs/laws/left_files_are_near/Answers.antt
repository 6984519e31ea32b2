use Rattle.rd_history.proofs.LeftLemmas.{left_files_are_near}
use Rattle.rd_history.proofs.laws.left_files_are_near.Goals as goal

pub returns : goal.returns
returns c = left_files_are_near
