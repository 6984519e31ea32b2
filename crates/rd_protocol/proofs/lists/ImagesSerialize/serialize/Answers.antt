use Rattle.std.proofs.lemmas.Result.{on_ok_weaker}
use Rattle.rd_protocol.specs.Texts.{image_data}
use Rattle.rd_protocol.proofs.JsonWriting.{sent_array}
use Rattle.rd_protocol.proofs.lists.ImagesSerialize.serialize.Goals as goal

pub returns : goal.returns
returns g c = on_ok_weaker c.end_map.result (λ ended. (
  g.S.Serializer.written c.begin_map.new.self,
  c.in_ok-begin_map.ensures,
  (
    c.in_ok-send_member.ensures.0,
    g.S.Serializer.written c.send_member.new.out,
    c.in_ok-send_member.ensures.1,
    sent_array image_data c.args.self.now.lines.now _ _ c.in_ok-send_member.ensures.2,
    ended,
  ),
)) c.end_map.ensures
