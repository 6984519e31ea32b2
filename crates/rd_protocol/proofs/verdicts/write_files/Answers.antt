use Rattle.std.proofs.Common.{◌++◌, List, rules, take, ℕ}
use Rattle.std.specs.List.{flat_map}
use Rattle.csv.specs.Writing.{default_writer, row_text}
use Rattle.rd_protocol.specs.VerdictTables.{verdict_record}
use Rattle.rd_protocol.specs.declared.response.FileVerdicts.{FileVerdicts}
use Rattle.rd_protocol.proofs.Tables.{written_all, written_more}
use Rattle.rd_protocol.proofs.verdicts.write_files.Goals as goal

pub loop-file-preserved : goal.loop-file-preserved
loop-file-preserved c = λ text has.
    let one = c.args.one.now in
    let row : FileVerdicts → List ℕ = λ file. row_text default_writer (verdict_record one file) in
    written_more row one.files c.loop-file.file-index text c.write_file.new.writer c.file-item.result (search rules) (search rules)
    (c.in_ok-write_file.ensures (text ++ flat_map row (take c.loop-file.file-index one.files)) (c.loop-file.invariant text has))

pub returns : goal.returns
returns c = λ text has.
    let one = c.args.one.now in
    written_all (λ file. row_text default_writer (verdict_record one file)) one.files c.loop-file.file-index text c.loop-file.writer (search rules)
    (c.loop-file.invariant text has)
