use Rattle.std.proofs.Common.{◌≢◌, ◌<◌, ℕ}
use Rattle.std.specs.List.{slice_index_or}
use Rattle.rd_geometry.specs.Kinds.{word_of}
use Rattle.rd_geometry.specs.declared.kind.Kind.TheVariants.{Cpm8}
use Rattle.rd_geometry.proofs.kind.Kind.from_word.Given as goal

-- the word is that of no kind passed
abbrev pub invariant-loop-kind : goal.invariant-loop-kind
invariant-loop-kind l = (k : ℕ) → k < l.kind-index → l.word ≢ word_of (slice_index_or l.kind-items k Cpm8)
