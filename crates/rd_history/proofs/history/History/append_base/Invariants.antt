use Rattle.std.proofs.Common.{◌≡◌, map, take}
use Rattle.rd_history.proofs.history.History.append_base.Given as goal

abbrev pub invariant-loop-line : goal.invariant-loop-line
invariant-loop-line g l = map (λ text. text.now) l.texts.items ≡ take l.line-index l.line-items
