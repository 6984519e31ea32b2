use Rattle.std.proofs.Common.{◌≡◌, ◌+◌, ◌≤◌, ◌==◌, length, not, take}
use Rattle.std.specs.List.{suffix_len}
use Rattle.rd_operands.proofs.zone_file.len_through_feed.Given as goal

abbrev pub invariant-loop-len : goal.invariant-loop-len
invariant-loop-len l =
    (l.len ≤ length l.bytes)
    × (l.len + suffix_len (λ byte. not (byte == 10)) l.bytes ≡ length l.bytes + suffix_len (λ byte. not (byte == 10)) (take l.len l.bytes))

abbrev pub decreases-loop-len : goal.decreases-loop-len
decreases-loop-len l = l.len
