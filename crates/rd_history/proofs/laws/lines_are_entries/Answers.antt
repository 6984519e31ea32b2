use Rattle.rd_history.proofs.LineEntries.{lines_are_entries}
use Rattle.rd_history.proofs.laws.lines_are_entries.Goals as goal

pub returns : goal.returns
returns c = lines_are_entries
