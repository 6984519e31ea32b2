use Rattle.std.proofs.Common.{ℕ, ◌<◌, ◌≢◌, slice_index_or}
use Rattle.rd_policy.specs.declared.rule.Rule.{Rule}
use Rattle.rd_history.proofs.settling.at_rank.Given as goal

-- no rule so far has the rank
abbrev pub invariant-loop-rule : goal.invariant-loop-rule
invariant-loop-rule l = (k : ℕ) (d : Rule) → k < l.rule-index → (slice_index_or l.rules k d).rank ≢ l.rank
