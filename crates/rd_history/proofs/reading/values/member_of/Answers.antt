use Rattle.std.proofs.Common.{◌∙◌, ap}
use Rattle.serde_json.specs.View.{view}
use Rattle.rd_protocol.specs.Texts.{one_member}
use Rattle.rd_history.proofs.ReadingLemmas.{first_read}
use Rattle.rd_history.proofs.reading.values.member_of.Goals as goal

pub returns-in-Some-first_key_value : goal.returns-in-Some-first_key_value
returns-in-Some-first_key_value c =
    let entry = c.in-Some-first_key_value in
    ap (λ key. one_member key (view entry.found.now)) c.as_str.ensures.value
    ∙ first_read (view c.args.value.now) c.in-Some.members.now.entries (entry.key.now, entry.found.now) c.in-Some.ensures entry.ensures.first
