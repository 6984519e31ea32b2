use Rattle.std.proofs.Common.{◌++◌, List, take, ℕ}
use Rattle.std.specs.List.{flat_map}
use Rattle.rd_protocol.specs.VerdictTables.{verdict_records}
use Rattle.rd_protocol.specs.Written.{HasWritten}
use Rattle.rd_protocol.proofs.verdicts.write_each.Given as goal

abbrev pub invariant-loop-one : goal.invariant-loop-one
invariant-loop-one l = (text : List ℕ) → HasWritten l.fn.writer text
    → HasWritten l.writer (text ++ flat_map verdict_records (take l.one-index l.verdicts))
