use Rattle.std.proofs.Common.{◌∙◌, ap}
use Rattle.std.specs.Prelude.{option_and_then}
use Rattle.rd_protocol.specs.Parts.{kind_of}
use Rattle.rd_protocol.proofs.PartLemmas.{kind_found}
use Rattle.rd_commands.proofs.sheet.kind_at.Goals as goal

pub returns : goal.returns
returns c =
    kind_found c.in_ok-text_at.field-0.now c.from_word.result c.from_word.ensures.found c.from_word.ensures.none
    ∙ ap (option_and_then kind_of) c.in_ok-text_at.ensures
