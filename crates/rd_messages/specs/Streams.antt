-- A door over the streams of a listener, as contracts see it.
use Rattle.rd_messages.specs.declared.pace.TimeLimits.{TimeLimits}
use Rattle.rd_messages.specs.declared.tcp.StreamDoor.{StreamDoor}

-- how long each of its visitors may take
abbrev pub limits_of : {L C : Type 0} → StreamDoor L C → TimeLimits
limits_of door = door.limits
