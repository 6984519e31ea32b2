use Rattle.std.proofs.Common.{◌*◌}
use Rattle.rd_geometry.specs.CpmDisks.{cpm_bytes}
use Rattle.rd_cpm.specs.Entries.{entry_of_slot}
use Rattle.rd_cpm.specs.Claimed.{AreClaims}
use Rattle.rd_cpm.proofs.claims.claims_of.Given as goal

abbrev pub invariant-loop-slot : goal.invariant-loop-slot
invariant-loop-slot l = AreClaims (entry_of_slot (cpm_bytes l.disk)) (16 * l.slot) l.claims.claimed l.claims.shared
