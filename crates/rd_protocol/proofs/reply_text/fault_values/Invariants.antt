use Rattle.std.proofs.Common.{◌≡◌, ◌++◌, map}
use Rattle.serde_json.specs.Data.{string}
use Rattle.serde_json.specs.View.{view}
use Rattle.rd_volume.specs.Words.{words_left, words_of}
use Rattle.rd_protocol.proofs.reply_text.fault_values.Given as goal

abbrev pub invariant-loop-word : goal.invariant-loop-word
invariant-loop-word l =
    map view l.list.items ++ map (λ word. string word) (words_left l.word-iterator)
    ≡ map (λ word. string word) (words_of l.fn.kind l.fn.faults)
