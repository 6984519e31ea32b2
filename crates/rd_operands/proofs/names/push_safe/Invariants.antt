use Rattle.std.proofs.Common.{◌≡◌, ◌++◌, map, take}
use Rattle.std.specs.Prelude.{string_bytes}
use Rattle.rd_operands.specs.FileNames.{safe_byte}
use Rattle.rd_operands.proofs.names.push_safe.Given as goal

abbrev pub invariant-loop-byte : goal.invariant-loop-byte
invariant-loop-byte l = string_bytes l.text ≡ string_bytes l.initial.text ++ map safe_byte (take l.byte-index l.bytes)
