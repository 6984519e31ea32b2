use Rattle.rd_commands.proofs.serving.check_one_place.Goals as goal

pub returns-in-Some-clause-named : goal.returns-in-Some-clause-named
returns-in-Some-clause-named c = (_, c.in-Some.ensures.named)

pub returns-in-None-clause-none : goal.returns-in-None-clause-none
returns-in-None-clause-none c = λ named. c.in-None.ensures.asked named.0 named.1
