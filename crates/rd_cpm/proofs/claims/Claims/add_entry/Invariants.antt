use Rattle.std.proofs.Common.{◌+◌, ◌*◌}
use Rattle.rd_geometry.specs.CpmDisks.{cpm_bytes}
use Rattle.rd_cpm.specs.Entries.{entry_of_slot}
use Rattle.rd_cpm.specs.Claimed.{AreClaims}
use Rattle.rd_cpm.proofs.claims.Claims.add_entry.Given as goal

abbrev pub invariant-loop-place : goal.invariant-loop-place
invariant-loop-place l = AreClaims (entry_of_slot (cpm_bytes l.disk)) (16 * l.slot + l.place) l.self.claimed l.self.shared
