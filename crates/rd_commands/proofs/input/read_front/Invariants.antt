use Rattle.std.proofs.Common.{◌≤◌, ◌-◌, vec_len}
use Rattle.std.specs.Io.KnownBytes.{Consumes}
use Rattle.rd_commands.proofs.input.read_front.Given as goal

abbrev pub invariant-loop-part : goal.invariant-loop-part
invariant-loop-part g l = record {
  within : vec_len l.bytes ≤ l.limit;
  taken : Consumes (g.R.Read.remaining l.fn.input) (g.R.Read.remaining l.input) l.bytes.items;
}

abbrev pub decreases-loop-part : goal.decreases-loop-part
decreases-loop-part g l = l.limit - vec_len l.bytes
