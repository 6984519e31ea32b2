use Rattle.std.proofs.Common.{subst}
use Rattle.std.proofs.lemmas.Result.{on_ok_weaker}
use Rattle.serde.specs.Event.{Logs, text}
use Rattle.serde_json.specs.Events.{SendsValue}
use Rattle.rd_protocol.specs.Texts.{text_or_null, texts}
use Rattle.rd_protocol.proofs.JsonWriting.{sent_text_or_null, sent_texts}
use Rattle.rd_protocol.proofs.staff_lists.send_rule.Goals as goal

pub returns : goal.returns
returns g c = on_ok_weaker c.end_map.result (λ ended. (
  g.S.Serializer.written c.begin_map.new.self,
  c.in_ok-begin_map.ensures,
  (
    c.in_ok-send_member.ensures.0,
    g.S.Serializer.written c.send_member.new.out,
    c.in_ok-send_member.ensures.1,
    subst (λ words. SendsValue (texts words) c.in_ok-send_member.ensures.0 (g.S.Serializer.written c.send_member.new.out)) c.words.ensures
        (sent_texts (λ word. word.now) c.words.result.now _ _ c.in_ok-send_member.ensures.2),
    (
      c.in_ok-send_member-2.ensures.0,
      g.S.Serializer.written c.send_member-2.new.out,
      c.in_ok-send_member-2.ensures.1,
      subst (λ word. Logs c.in_ok-send_member-2.ensures.0 (g.S.Serializer.written c.send_member-2.new.out) (text word)) c.word.ensures c.in_ok-send_member-2.ensures.2,
      (
        c.in_ok-send_member-3.ensures.0,
        g.S.Serializer.written c.send_member-3.new.out,
        c.in_ok-send_member-3.ensures.1,
        subst (λ date. SendsValue (text_or_null date) c.in_ok-send_member-3.ensures.0 (g.S.Serializer.written c.send_member-3.new.out)) c.requires.from (sent_text_or_null (λ date. date.now) c.args.from _ _ c.in_ok-send_member-3.ensures.2),
        (
          c.in_ok-send_member-4.ensures.0,
          g.S.Serializer.written c.send_member-4.new.out,
          c.in_ok-send_member-4.ensures.1,
          c.in_ok-send_member-4.ensures.2,
          (
            c.in_ok-send_member-5.ensures.0,
            g.S.Serializer.written c.send_member-5.new.out,
            c.in_ok-send_member-5.ensures.1,
            c.in_ok-send_member-5.ensures.2,
            (
              c.in_ok-send_member-6.ensures.0,
              g.S.Serializer.written c.send_member-6.new.out,
              c.in_ok-send_member-6.ensures.1,
              subst (λ date. SendsValue (text_or_null date) c.in_ok-send_member-6.ensures.0 (g.S.Serializer.written c.send_member-6.new.out)) c.requires.until (sent_text_or_null (λ date. date.now) c.args.until _ _ c.in_ok-send_member-6.ensures.2),
              ended,
            ),
          ),
        ),
      ),
    ),
  ),
)) c.end_map.ensures
