use Rattle.std.proofs.Common.{◌≡◌, ◌++◌, flat_map, string_bytes, take}
use Rattle.rd_volume.specs.Printed.{printed_byte}
use Rattle.rd_volume.proofs.printed.push_bytes.Given as goal

abbrev pub invariant-loop-byte : goal.invariant-loop-byte
invariant-loop-byte l = string_bytes l.text ≡ string_bytes l.initial.text ++ flat_map (printed_byte l.kind) (take l.byte-index l.bytes)
