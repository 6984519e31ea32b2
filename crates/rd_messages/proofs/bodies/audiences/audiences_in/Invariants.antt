use Rattle.std.proofs.Common.{map, take}
use Rattle.serde_json.specs.View.{view}
use Rattle.rd_messages.proofs.AudienceWords.{Names}
use Rattle.rd_messages.proofs.bodies.audiences.audiences_in.Given as goal

-- the words so far name the set
abbrev pub invariant-loop-value : goal.invariant-loop-value
invariant-loop-value l = Names (map view (take l.value-index l.values)) l.set
