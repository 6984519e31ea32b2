use Rattle.std.proofs.Common.{◌∙◌, [], rules}
use Rattle.csv.specs.Writing.{default_writer, row_text}
use Rattle.rd_protocol.specs.VerdictTables.{VERDICT_COLUMNS, verdicts_text}
use Rattle.rd_protocol.proofs.Tables.{given_back}
use Rattle.rd_protocol.proofs.verdicts.verdicts_table.Goals as goal

pub returns-in-Ok : goal.returns-in-Ok
unfolding verdicts_text
returns-in-Ok c =
    let header = row_text default_writer VERDICT_COLUMNS in
    let begun = c.in_ok-write_record.ensures [] (record { text = search rules; fields = search rules; wrote = search rules; setup = search rules }) in
    let has = c.in_ok-write_each.ensures header begun in
    c.of.ensures ∙ (c.in-Ok.ensures.ok ∙ given_back c.write_each.new.writer _ has)
