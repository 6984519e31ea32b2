use Rattle.rd_holdings.proofs.RulesFor.{both_in_order, for_in_order}
use Rattle.rd_holdings.proofs.rule_laws.rules_are_in_order.Goals as goal

pub returns-clause-accession : goal.returns-clause-accession
returns-clause-accession c = for_in_order

pub returns-clause-both : goal.returns-clause-both
returns-clause-both c = both_in_order
