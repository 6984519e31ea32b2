use Rattle.std.proofs.Common.{◌≢◌, ◌<◌, ℕ}
use Rattle.std.specs.List.{slice_index_or}
use Rattle.rd_policy.specs.Rules.{effect_word}
use Rattle.rd_policy.specs.declared.rule.Effect.TheVariants.{Deny}
use Rattle.rd_policy.proofs.rule.Effect.from_word.Given as goal

-- the word is that of no effect passed
abbrev pub invariant-loop-effect : goal.invariant-loop-effect
invariant-loop-effect l = (k : ℕ) → k < l.effect-index → l.word ≢ effect_word (slice_index_or l.effect-items k Deny)
