use Rattle.std.proofs.Common.{◌++◌, rules, take}
use Rattle.std.specs.List.{flat_map}
use Rattle.csv.specs.Writing.{default_writer, row_text}
use Rattle.rd_protocol.specs.VerdictTables.{difference_record}
use Rattle.rd_protocol.proofs.Tables.{written_all, written_more}
use Rattle.rd_protocol.proofs.verdicts.write_differences.Goals as goal

pub loop-difference-preserved : goal.loop-difference-preserved
loop-difference-preserved c = λ text has.
    let differences = c.args.differences.now in
    written_more (λ difference. row_text default_writer (difference_record difference)) differences c.loop-difference.difference-index text c.write_difference.new.writer c.difference-item.result (search rules) (search rules)
    (c.in_ok-write_difference.ensures (text ++ flat_map (λ difference. row_text default_writer (difference_record difference)) (take c.loop-difference.difference-index differences)) (c.loop-difference.invariant text has))

pub returns : goal.returns
returns c = λ text has.
    written_all (λ difference. row_text default_writer (difference_record difference)) c.args.differences.now c.loop-difference.difference-index text c.loop-difference.writer (search rules) (c.loop-difference.invariant text has)
