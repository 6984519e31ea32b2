use Rattle.std.proofs.Common.{rules}
use Rattle.rd_volume.specs.Words.{words_left}
use Rattle.rd_commands.proofs.RefusalLine.{written_all, written_next, written_none, written_part}
use Rattle.rd_commands.proofs.WriterLemmas.{on_err}
use Rattle.rd_commands.proofs.tell.write_words.Goals as goal

pub loop-word-init : goal.loop-word-init
loop-word-init g c = written_none _ _ _ (search rules)

pub loop-word-preserved : goal.loop-word-preserved
loop-word-preserved g c =
    written_next _ _ _ _ _ (words_left c.next.new.self) c.in-Some.word.now c.loop-word.invariant c.in-Some.ensures.steps c.in_ok-write_word.ensures.done

pub returns-in_err-write_word-clause-cut : goal.returns-in_err-write_word-clause-cut
returns-in_err-write_word-clause-cut g c =
    on_err c.from_residual.result
    (written_part _ _ _ _ _ (words_left c.next.new.self) c.in-Some.word.now c.loop-word.invariant c.in-Some.ensures.steps c.in_err-write_word.ensures.cut)

pub returns-clause-done : goal.returns-clause-done
returns-clause-done g c = written_all _ _ _ _ c.loop-word.invariant c.in-None.ensures.steps.0
