use Rattle.rd_operands.proofs.MomentLemmas.{one_first}
use Rattle.rd_operands.proofs.moment.one_moment.Goals as goal

pub returns : goal.returns
returns c = one_first
