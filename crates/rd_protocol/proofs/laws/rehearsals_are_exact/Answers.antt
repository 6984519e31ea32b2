use Rattle.rd_protocol.proofs.RehearsalLemmas.{is_exact}
use Rattle.rd_protocol.proofs.laws.rehearsals_are_exact.Goals as goal

pub returns : goal.returns
returns c = is_exact
