use Rattle.std.proofs.Common.{◌∙◌, [], rules}
use Rattle.csv.specs.Writing.{default_writer, row_text}
use Rattle.rd_protocol.specs.VerdictTables.{DIFFERENCE_COLUMNS, differences_text}
use Rattle.rd_protocol.proofs.Tables.{given_back}
use Rattle.rd_protocol.proofs.verdicts.differences_table.Goals as goal

pub returns-in-Ok : goal.returns-in-Ok
unfolding differences_text
returns-in-Ok c =
    let header = row_text default_writer DIFFERENCE_COLUMNS in
    let begun = c.in_ok-write_record.ensures [] (record { text = search rules; fields = search rules; wrote = search rules; setup = search rules }) in
    let has = c.in_ok-write_differences.ensures header begun in
    c.of.ensures ∙ (c.in-Ok.ensures.ok ∙ given_back c.write_differences.new.writer _ has)
