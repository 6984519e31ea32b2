use Rattle.rd_commands.proofs.asked.when_asked.Goals as goal

pub returns-clause-from : goal.returns-clause-from
returns-clause-from c = record { seconds = c.moment_asked.ensures.from; zone = c.in_ok-zone_asked.ensures.from }
