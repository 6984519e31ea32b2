use Rattle.std.proofs.Common.{refl}
use Rattle.std.proofs.lemmas.Result.{on_ok_weaker}
use Rattle.serde.proofs.Events.{WritesEach-more, WritesSeq-ends}
use Rattle.serde_json.specs.Events.{SendsValue}
use Rattle.rd_protocol.proofs.JsonWriting.{sent_array}
use Rattle.rd_protocol.proofs.staff_lists.send_all.Goals as goal

pub loop-item-preserved : goal.loop-item-preserved
loop-item-preserved g c = WritesEach-more (λ item. SendsValue (g.T.ListItem.value item)) c.args.items.now c.loop-item.item-index _ _ _ _ c.loop-item-test.true c.item-item.is c.loop-item.invariant c.in_ok-send.ensures

pub returns : goal.returns
returns g c = on_ok_weaker c.end_seq.result (λ ended. sent_array g.T.ListItem.value c.args.items.now _ _
    (WritesSeq-ends (λ item. SendsValue (g.T.ListItem.value item)) c.args.items.now c.args.items.now c.loop-item.item-index _ _ _ _ _ refl refl c.loop-item-test.false c.in_ok-begin_seq.ensures c.loop-item.invariant ended)) c.end_seq.ensures
