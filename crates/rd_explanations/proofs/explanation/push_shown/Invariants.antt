use Rattle.std.proofs.Common.{◌≡◌, ◌++◌, map, take}
use Rattle.rd_explanations.specs.Explained.{shown_byte}
use Rattle.rd_explanations.proofs.explanation.push_shown.Given as goal

abbrev pub invariant-loop-byte : goal.invariant-loop-byte
invariant-loop-byte l = l.bytes.items ≡ l.initial.bytes.items ++ map shown_byte (take l.byte-index l.body)
