use Rattle.std.proofs.Common.{◌≡◌, ◌++◌, map}
use Rattle.rd_volume.specs.Words.{words_left, words_of}
use Rattle.rd_protocol.specs.Tokens.{Gains}
use Rattle.rd_protocol.proofs.TokenLemmas.{words_begun}
use Rattle.rd_protocol.proofs.listings.put_words.Given as goal

-- the words so far are written, and with those that are left they are all
abbrev pub invariant-loop-word : goal.invariant-loop-word
invariant-loop-word l = record {
  words : map (λ word. word.now) l.yielded ++ words_left l.word-iterator ≡ words_of l.fn.kind l.fn.faults;
  gains : Gains l.fn.out l.out (words_begun (map (λ word. word.now) l.yielded));
}
