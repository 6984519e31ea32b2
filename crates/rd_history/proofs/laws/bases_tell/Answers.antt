use Rattle.rd_history.proofs.BaseLemmas.{bases_tell}
use Rattle.rd_history.proofs.ToldLemmas.{bases_forget}
use Rattle.rd_history.proofs.laws.bases_tell.Goals as goal

pub returns : goal.returns
returns c = record { forget = bases_forget; tell = bases_tell }
