use Rattle.std.proofs.Common.{take}
use Rattle.serde.specs.Event.{WritesEach}
use Rattle.serde_json.specs.Events.{SendsValue}
use Rattle.rd_protocol.proofs.staff_lists.send_all.Given as goal

abbrev pub invariant-loop-item : goal.invariant-loop-item
invariant-loop-item g l = WritesEach (λ item. SendsValue (g.T.ListItem.value item)) (take l.item-index l.items) (g.S.Serializer.written l.initial.out) (g.S.Serializer.written l.out)
