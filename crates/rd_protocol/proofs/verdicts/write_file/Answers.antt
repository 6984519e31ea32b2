use Rattle.std.proofs.Common.{◌++◌, subst}
use Rattle.std.specs.Result.{OnOk}
use Rattle.csv.specs.Writing.{default_writer, row_text}
use Rattle.rd_protocol.specs.Written.{HasWritten}
use Rattle.rd_protocol.proofs.verdicts.write_file.Goals as goal

pub returns : goal.returns
returns c = λ text has.
    subst (λ cells. OnOk c.write_cells.result (HasWritten c.write_cells.new.writer (text ++ row_text default_writer cells)))
    c.in_ok-cells.ensures (c.write_cells.ensures text has)
