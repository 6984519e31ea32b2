use Rattle.rd_messages.proofs.ShownRuleLemmas.{shown_rules_are_put, shown_rules_are_rehearsed}
use Rattle.rd_messages.proofs.request_laws.shown_rules_are_sent_back.Goals as goal

pub returns-clause-put : goal.returns-clause-put
returns-clause-put c = shown_rules_are_put

pub returns-clause-rehearsed : goal.returns-clause-rehearsed
returns-clause-rehearsed c = shown_rules_are_rehearsed
