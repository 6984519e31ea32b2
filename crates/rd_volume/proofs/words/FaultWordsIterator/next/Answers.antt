use Rattle.std.proofs.Common.{◌≡◌, ◌<◌, [], arith, rules}
use Rattle.rd_volume.specs.Words.{words_left}
use Rattle.rd_volume.proofs.WordLemmas.{fewer_words, no_word, some_bit, word_first}
use Rattle.rd_volume.proofs.words.FaultWordsIterator.next.Goals as goal

pub returns-in_err-word-clause-steps : goal.returns-in_err-word-clause-steps
returns-in_err-word-clause-steps c =
    let byte : c.args.self.now.faults < 256 = omega arith in
    let none : words_left c.args.self.now ≡ [] = no_word c.args.self.now.kind c.args.self.now.faults byte c.in_err-word.ensures.none in
    search rules

pub overflow_sub-self : goal.overflow_sub-self
overflow_sub-self c = some_bit c.args.self.now.kind c.args.self.now.faults c.in_ok-word.word.now c.in_ok-word.ensures.found

pub returns-clause-steps : goal.returns-clause-steps
returns-clause-steps c =
    let byte : c.args.self.now.faults < 256 = omega arith in
    word_first c.args.self.now.kind c.args.self.now.faults c.in_ok-word.word.now byte c.in_ok-word.ensures.found

pub returns-clause-goes : goal.returns-clause-goes
returns-clause-goes c =
    let byte : c.args.self.now.faults < 256 = omega arith in
    fewer_words _ words_left _ _ _ _ tt
    (word_first c.args.self.now.kind c.args.self.now.faults c.in_ok-word.word.now byte c.in_ok-word.ensures.found)
