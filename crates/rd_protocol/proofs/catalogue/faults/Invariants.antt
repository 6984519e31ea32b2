use Rattle.std.proofs.Common.{◌≡◌, ◌++◌, map}
use Rattle.rd_volume.specs.Words.{words_left, words_of}
use Rattle.rd_protocol.proofs.catalogue.faults.Given as goal

abbrev pub invariant-loop-word : goal.invariant-loop-word
invariant-loop-word l = map (λ word. word.now) l.words.items ++ words_left l.word-iterator ≡ words_of l.fn.kind l.fn.faults
