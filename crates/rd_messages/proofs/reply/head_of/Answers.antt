use Rattle.std.proofs.Common.{◌≡◌, ◌∙◌, decimal, refl}
use Rattle.rd_messages.specs.ReplyText.{head_text}
use Rattle.rd_messages.proofs.reply.head_of.Goals as goal

pub returns : goal.returns
unfolding head_text
returns c =
    let status : c.as_bytes.result.now ≡ decimal c.args.status = c.as_bytes.ensures.value ∙ c.format.ensures.text in
    let phrase = c.as_bytes-2.ensures.value ∙ c.phrase.ensures.phrase in
    let form = c.as_bytes-3.ensures.value ∙ c.type_name.ensures.name in
    let len : c.as_bytes-4.result.now ≡ decimal c.args.len = c.as_bytes-4.ensures.value ∙ c.format-2.ensures.text in
    rw (
      c.push-11.ensures,
      c.push-10.ensures,
      c.push-9.ensures,
      c.push-8.ensures,
      c.push-7.ensures,
      c.push-6.ensures,
      c.push-5.ensures,
      c.push-4.ensures,
      c.push-3.ensures,
      c.push-2.ensures,
      c.push.ensures,
      c.new-head.ensures,
      status,
      phrase,
      form,
      len,
      c.as_bytes-5.ensures.value,
    ) refl
