use Rattle.rd_volume.specs.Words.{words_left}
use Rattle.rd_commands.proofs.RefusalLine.{HasWrittenWords}
use Rattle.rd_commands.proofs.tell.write_words.Given as goal

abbrev pub invariant-loop-word : goal.invariant-loop-word
invariant-loop-word g l = HasWrittenWords (g.E.Write.contents l.fn.errors) (g.E.Write.contents l.errors) (words_left l.fn.words) (words_left l.word-iterator)
