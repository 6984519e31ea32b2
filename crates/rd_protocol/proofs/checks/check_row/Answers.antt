use Rattle.std.proofs.Common.{rules, sym}
use Rattle.rd_protocol.proofs.CheckLemmas.{found_changed, found_sound}
use Rattle.rd_protocol.proofs.checks.check_row.Goals as goal

pub returns-then-has_digest-clause-outcome : goal.returns-then-has_digest-clause-outcome
returns-then-has_digest-clause-outcome c = sym (found_sound c.args.bytes.now c.args.digest.now (search rules))

pub returns-else-has_digest-clause-outcome : goal.returns-else-has_digest-clause-outcome
returns-else-has_digest-clause-outcome c = sym (found_changed c.args.bytes.now c.args.digest.now (search rules))
