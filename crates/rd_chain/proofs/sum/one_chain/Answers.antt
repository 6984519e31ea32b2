use Rattle.rd_chain.proofs.ChainLemmas.{one_chain}
use Rattle.rd_chain.proofs.sum.one_chain.Goals as goal

pub returns : goal.returns
returns c = one_chain
