use Rattle.std.proofs.Common.{length}
use Rattle.rd_messages.proofs.fields.+values_of.Given as goal

abbrev pub decreases-values_of : goal.decreases-values_of
decreases-values_of l = length l.spans.now
