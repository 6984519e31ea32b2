use Rattle.rd_holdings.proofs.RulesFor.{is_among, is_for}
use Rattle.rd_holdings.proofs.rule_laws.rules_are_those.Goals as goal

pub returns : goal.returns
returns c = λ desk acc rule. (is_for desk acc rule, is_among desk acc rule)
