use Rattle.rd_history.proofs.ToldLemmas.{voids_take_back}
use Rattle.rd_history.proofs.laws.voids_take_back.Goals as goal

pub returns : goal.returns
returns c = voids_take_back
