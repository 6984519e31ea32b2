use Rattle.std.proofs.Common.{◌≡◌, ◌++◌, map}
use Rattle.rd_history.specs.declared.entry.Change.TheVariants.{Rule}
use Rattle.rd_history.proofs.base.with_rules.Given as goal

abbrev pub invariant-loop-rule : goal.invariant-loop-rule
invariant-loop-rule l = l.all.items ≡ l.fn.listed.items ++ map Rule l.yielded
