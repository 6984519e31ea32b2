use Rattle.rd_protocol.proofs.RuleTextLemmas.{rules_are_read_back}
use Rattle.rd_protocol.proofs.laws.rules_are_read_back.Goals as goal

pub returns : goal.returns
returns c = rules_are_read_back
