use Rattle.std.proofs.Common.{◌≢◌, ◌<◌, ℕ}
use Rattle.std.specs.List.{slice_index_or}
use Rattle.rd_policy.specs.Audiences.{audience_word}
use Rattle.rd_policy.specs.declared.audience.Audience.TheVariants.{Public}
use Rattle.rd_policy.proofs.audience.Audience.from_word.Given as goal

-- the word is that of no audience passed
abbrev pub invariant-loop-audience : goal.invariant-loop-audience
invariant-loop-audience l = (k : ℕ) → k < l.audience-index → l.word ≢ audience_word (slice_index_or l.audience-items k Public)
