use Rattle.std.proofs.Common.{rules}
use Rattle.rd_volume.specs.Words.{words_left}
use Rattle.rd_commands.proofs.BlankedWords.{first_word, next_word, no_words}
use Rattle.rd_commands.proofs.printed.JoinedDisplay.fmt.Goals.{in-Some+in_ok-write_str, in_default}
use Rattle.rd_commands.proofs.printed.JoinedDisplay.fmt.Goals as goal

pub loop-word-init : goal.loop-word-init
loop-word-init g c =
    let took = g.W.Write.write_str_gives in
    let words = words_left c.args.self.now.0 in
    let left = words_left c.into_iter-word-iterator.result in
    elim c.match-next.branch [
      | in-Some+in_ok-write_str w ↦ first_word took c.args.f.now c.match-next.f words left w.in-Some.first.now (search rules) (search rules)
      | in_default w ↦ no_words took c.args.f.now c.match-next.f words left (search rules) (search rules) (search rules)
    ]

pub loop-word-preserved : goal.loop-word-preserved
loop-word-preserved g c =
    next_word g.W.Write.write_str_gives c.args.f.now c.loop-word.f c.write.new.self _ (words_left c.loop-word.word-iterator) (words_left c.next-in-loop-word.new.self)
    c.in-Some-word.word.now c.loop-word.invariant (search rules) (search rules)
