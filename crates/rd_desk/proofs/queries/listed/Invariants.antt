use Rattle.std.proofs.Common.{◌++◌}
use Rattle.rd_protocol.specs.Queries.{AreLinesOf}
use Rattle.rd_desk.proofs.queries.listed.Given as goal

abbrev pub invariant-loop-file : goal.invariant-loop-file
invariant-loop-file l = AreLinesOf (l.takedowns ++ l.rules) l.caller.audience l.caller.day l.yielded l.lines.items
