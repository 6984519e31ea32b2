use Rattle.std.proofs.Common.{◌++◌, rules, take}
use Rattle.std.specs.List.{flat_map}
use Rattle.rd_protocol.specs.VerdictTables.{verdict_records}
use Rattle.rd_protocol.proofs.Tables.{written_all, written_more}
use Rattle.rd_protocol.proofs.verdicts.write_each.Goals as goal

pub loop-one-preserved : goal.loop-one-preserved
loop-one-preserved c = λ text has.
    let verdicts = c.args.verdicts.now in
    written_more verdict_records verdicts c.loop-one.one-index text c.write_files.new.writer c.one-item.result (search rules) (search rules)
    (c.in_ok-write_files.ensures (text ++ flat_map verdict_records (take c.loop-one.one-index verdicts)) (c.loop-one.invariant text has))

pub returns : goal.returns
returns c = λ text has.
    written_all verdict_records c.args.verdicts.now c.loop-one.one-index text c.loop-one.writer (search rules) (c.loop-one.invariant text has)
