use Rattle.std.proofs.Common.{◌++◌, List, take, ℕ}
use Rattle.std.specs.List.{flat_map}
use Rattle.csv.specs.Writing.{default_writer, row_text}
use Rattle.rd_protocol.specs.VerdictTables.{difference_record}
use Rattle.rd_protocol.specs.Written.{HasWritten}
use Rattle.rd_protocol.proofs.verdicts.write_differences.Given as goal

abbrev pub invariant-loop-difference : goal.invariant-loop-difference
invariant-loop-difference l = (text : List ℕ) → HasWritten l.fn.writer text
    → HasWritten l.writer (text ++ flat_map (λ difference. row_text default_writer (difference_record difference)) (take l.difference-index l.differences))
