use Rattle.std.proofs.Common.{◌↔◌, map}
use Rattle.serde_json.specs.View.{members_view}
use Rattle.rd_messages.specs.Objects.{AreKeysAmong}
use Rattle.rd_messages.proofs.bodies.objects.are_among.Given as goal

-- the keys that are left are among them exactly where all are
abbrev pub invariant-loop-key : goal.invariant-loop-key
invariant-loop-key l =
    AreKeysAmong (map (λ key. key.now) l.keys) (members_view l.key-iterator)
    ↔ AreKeysAmong (map (λ key. key.now) l.keys) (members_view l.members.entries)
