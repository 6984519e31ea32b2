use Rattle.std.proofs.Common.{◌≤◌, ◌-◌, vec_len}
use Rattle.rd_host.proofs.host.front_of_file.Given as goal

abbrev pub invariant-loop-part : goal.invariant-loop-part
invariant-loop-part l = vec_len l.bytes ≤ l.limit

abbrev pub decreases-loop-part : goal.decreases-loop-part
decreases-loop-part l = l.limit - vec_len l.bytes
