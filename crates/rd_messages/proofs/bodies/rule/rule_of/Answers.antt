use Rattle.rd_messages.proofs.bodies.rule.rule_of.Goals as goal

pub returns-in_default-clause-none : goal.returns-in_default-clause-none
returns-in_default-clause-none c = λ rule told fits. c.in_default.ensures.none rule.audiences told.audiences
