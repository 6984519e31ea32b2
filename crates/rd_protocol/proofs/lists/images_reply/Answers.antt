use Rattle.std.proofs.Common.{◌∙◌, ap, string_bytes}
use Rattle.serde_json.proofs.FreeTexts.{text_of_value}
use Rattle.rd_protocol.specs.Lent.{held}
use Rattle.rd_protocol.specs.Texts.{images_data}
use Rattle.rd_protocol.specs.declared.response.Form.TheVariants.{Json}
use Rattle.rd_protocol.proofs.FloatLemmas.{images_have_no_float}
use Rattle.rd_protocol.proofs.lists.images_reply.Goals as goal

pub returns-in-Ok : goal.returns-in-Ok
returns-in-Ok c =
    let described = c.in-Ok.ensures.events in
    let body = text_of_value (images_data c.args.lines.now) described.0 (string_bytes c.in-Ok.text) described.1 described.2 (images_have_no_float c.args.lines.now) in
    c.listed_reply.ensures ∙ ap (λ text. record { status = 200; form = Json; body = held text }) body
