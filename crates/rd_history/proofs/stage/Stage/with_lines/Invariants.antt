use Rattle.std.proofs.Common.{drop, map}
use Rattle.rd_history.specs.Stages.{text_of}
use Rattle.rd_history.proofs.StageLemmas.{Decides}
use Rattle.rd_history.proofs.stage.Stage.with_lines.Given as goal

-- what is left of the lines decides, from how far they have come
abbrev pub invariant-loop-line : goal.invariant-loop-line
invariant-loop-line l = Decides l.fn.self l.stage (map text_of l.lines) (map text_of (drop l.line-index l.lines))
