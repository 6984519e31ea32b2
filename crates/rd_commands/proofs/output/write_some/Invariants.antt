use Rattle.std.specs.Io.KnownBytes.{Keeps}
use Rattle.rd_commands.proofs.output.write_some.Given as goal

abbrev pub invariant-loop : goal.invariant-loop
invariant-loop g l = Keeps (g.W.Write.contents l.fn.output) (g.W.Write.contents l.output)
