use Rattle.std.proofs.Common.{◌≢◌, ◌<◌, ℕ}
use Rattle.std.specs.List.{slice_index_or}
use Rattle.rd_history.specs.Entries.{cause_word}
use Rattle.rd_history.specs.declared.entry.Cause.TheVariants.{NoAccession}
use Rattle.rd_history.proofs.entry.Cause.from_word.Given as goal

-- the word is that of no cause passed
abbrev pub invariant-loop-cause : goal.invariant-loop-cause
invariant-loop-cause l = (k : ℕ) → k < l.cause-index → l.word ≢ cause_word (slice_index_or l.cause-items k NoAccession)
