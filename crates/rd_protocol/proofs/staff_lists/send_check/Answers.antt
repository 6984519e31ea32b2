use Rattle.std.proofs.Common.{subst}
use Rattle.std.proofs.lemmas.Result.{on_ok_weaker}
use Rattle.serde_json.specs.Events.{SendsValue}
use Rattle.rd_protocol.specs.Texts.{text_or_null}
use Rattle.rd_protocol.proofs.JsonWriting.{sent_text_or_null}
use Rattle.rd_protocol.proofs.staff_lists.send_check.Goals as goal

pub returns : goal.returns
returns g c = on_ok_weaker c.end_map.result (λ ended. (
  g.S.Serializer.written c.begin_map.new.self,
  c.in_ok-begin_map.ensures,
  (
    c.in_ok-send_member.ensures.0,
    g.S.Serializer.written c.send_member.new.out,
    c.in_ok-send_member.ensures.1,
    c.in_ok-send_member.ensures.2,
    (
      c.in_ok-send_member-2.ensures.0,
      g.S.Serializer.written c.send_member-2.new.out,
      c.in_ok-send_member-2.ensures.1,
      subst (λ date. SendsValue (text_or_null date) c.in_ok-send_member-2.ensures.0 (g.S.Serializer.written c.send_member-2.new.out)) c.requires.day
          (sent_text_or_null (λ date. date.now) c.args.day _ _ c.in_ok-send_member-2.ensures.2),
      (
        c.in_ok-send_member-3.ensures.0,
        g.S.Serializer.written c.send_member-3.new.out,
        c.in_ok-send_member-3.ensures.1,
        subst (λ word. SendsValue (text_or_null word) c.in_ok-send_member-3.ensures.0 (g.S.Serializer.written c.send_member-3.new.out)) c.requires.outcome
            (sent_text_or_null (λ word. word.now) c.args.outcome _ _ c.in_ok-send_member-3.ensures.2),
        ended,
      ),
    ),
  ),
)) c.end_map.ensures
