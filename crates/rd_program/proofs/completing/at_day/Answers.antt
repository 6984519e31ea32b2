use Rattle.rd_program.proofs.CompletingLemmas.{other_dated}
use Rattle.rd_program.proofs.completing.at_day.Goals as goal

pub returns-in_default : goal.returns-in_default
returns-in_default c = other_dated c.args.day c.args.ask c.in_default.not-Import c.in_default.not-OneQuestion c.in_default.not-FlaggedImport
