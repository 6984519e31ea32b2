use Rattle.std.proofs.Common.{map, subst}
use Rattle.std.proofs.lemmas.Result.{on_ok_weaker}
use Rattle.serde.specs.Event.{Logs, text}
use Rattle.serde_json.specs.Data.{array}
use Rattle.serde_json.specs.Events.{SendsValue}
use Rattle.serde_json.specs.View.{items_of}
use Rattle.rd_protocol.specs.Texts.{rule_data}
use Rattle.rd_protocol.proofs.staff_lists.send_deed.Goals as goal

pub returns : goal.returns
returns g c = on_ok_weaker c.end_map.result (λ ended. (
  g.S.Serializer.written c.begin_map.new.self,
  c.in_ok-begin_map.ensures,
  (
    c.in_ok-send_member.ensures.0,
    g.S.Serializer.written c.send_member.new.out,
    c.in_ok-send_member.ensures.1,
    c.in_ok-send_member.ensures.2,
    (
      c.in_ok-send_member-2.ensures.0,
      g.S.Serializer.written c.send_member-2.new.out,
      c.in_ok-send_member-2.ensures.1,
      c.in_ok-send_member-2.ensures.2,
      (
        c.in_ok-send_member-3.ensures.0,
        g.S.Serializer.written c.send_member-3.new.out,
        c.in_ok-send_member-3.ensures.1,
        subst (λ word. Logs c.in_ok-send_member-3.ensures.0 (g.S.Serializer.written c.send_member-3.new.out) (text word)) c.as_str.ensures c.in_ok-send_member-3.ensures.2,
        (
          g.S.Serializer.written c.key.new.self,
          g.S.Serializer.written c.send_all.new.out,
          c.in_ok-key.ensures,
          subst (λ rules. SendsValue (array (items_of (map rule_data rules))) (g.S.Serializer.written c.key.new.self) (g.S.Serializer.written c.send_all.new.out)) c.as_slice.ensures c.in_ok-send_all.ensures,
          (
            c.in_ok-send_member-4.ensures.0,
            g.S.Serializer.written c.send_member-4.new.out,
            c.in_ok-send_member-4.ensures.1,
            subst (λ word. Logs c.in_ok-send_member-4.ensures.0 (g.S.Serializer.written c.send_member-4.new.out) (text word)) c.requires c.in_ok-send_member-4.ensures.2,
            ended,
          ),
        ),
      ),
    ),
  ),
)) c.end_map.ensures
