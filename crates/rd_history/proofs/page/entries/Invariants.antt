use Rattle.std.proofs.Common.{◌≡◌, map, string_bytes, take}
use Rattle.rd_history.specs.Pages.{shown}
use Rattle.rd_history.proofs.page.entries.Given as goal

abbrev pub invariant-loop-line : goal.invariant-loop-line
invariant-loop-line l = map string_bytes l.texts.items ≡ map shown (take l.line-index l.lines)
