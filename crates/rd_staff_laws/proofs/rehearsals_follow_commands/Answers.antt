use Rattle.rd_staff_laws.proofs.RehearsedCommands.{drops_follow, rules_follow}
use Rattle.rd_staff_laws.proofs.rehearsals_follow_commands.Goals as goal

pub returns-clause-rules : goal.returns-clause-rules
returns-clause-rules c = rules_follow

pub returns-clause-drops : goal.returns-clause-drops
returns-clause-drops c = drops_follow
