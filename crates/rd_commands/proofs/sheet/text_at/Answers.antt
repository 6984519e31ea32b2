use Rattle.std.proofs.Common.{◌∙◌, ap, option_map}
use Rattle.std.specs.Prelude.{option_and_then}
use Rattle.rd_commands.specs.Sheets.{text_of}
use Rattle.rd_commands.proofs.RowFields.{text_read}
use Rattle.rd_commands.proofs.sheet.text_at.Goals as goal

pub returns : goal.returns
returns c =
    ap (option_map (λ text. text.now)) c.ok.ensures.value
    ∙ text_read _ c.in_ok-get.field-0.now c.from_utf8.result c.from_utf8.ensures.cases
    ∙ ap (option_and_then text_of) c.in_ok-get.ensures.value
