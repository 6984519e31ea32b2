use Rattle.std.proofs.Common.{◌≡◌, take}
use Rattle.std.specs.Prelude.{flat_map}
use Rattle.rd_explanations.specs.Explained.{shown_line}
use Rattle.rd_explanations.proofs.explanation.explained.Given as goal

abbrev pub invariant-loop-line : goal.invariant-loop-line
invariant-loop-line l = l.bytes.items ≡ flat_map shown_line (take l.line-index l.lines)
