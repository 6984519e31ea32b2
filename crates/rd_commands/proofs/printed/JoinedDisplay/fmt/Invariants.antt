use Rattle.rd_commands.proofs.BlankedWords.{HasWrittenBefore}
use Rattle.rd_commands.specs.Printed.{joined}
use Rattle.rd_volume.specs.Words.{words_left}
use Rattle.rd_commands.proofs.printed.JoinedDisplay.fmt.Given as goal

abbrev pub invariant-loop-word : goal.invariant-loop-word
invariant-loop-word g l =
    HasWrittenBefore g.W.Write.write_str_gives l.fn.f (joined (words_left l.fn.self.0)) (words_left l.word-iterator) l.f
