use Rattle.std.proofs.Common.{◌++◌, List, take, ℕ}
use Rattle.std.specs.List.{flat_map}
use Rattle.csv.specs.Writing.{default_writer, row_text}
use Rattle.rd_protocol.specs.VerdictTables.{verdict_record}
use Rattle.rd_protocol.specs.Written.{HasWritten}
use Rattle.rd_protocol.proofs.verdicts.write_files.Given as goal

abbrev pub invariant-loop-file : goal.invariant-loop-file
invariant-loop-file l = (text : List ℕ) → HasWritten l.fn.writer text
    → HasWritten l.writer (text ++ flat_map (λ file. row_text default_writer (verdict_record l.one file)) (take l.file-index l.one.files))
