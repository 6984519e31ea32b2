use Rattle.std.proofs.Common.{◌*◌}
use Rattle.rd_geometry.specs.CbmDisks.{cbm_bytes}
use Rattle.rd_cbm.proofs.UseLemmas.{AreFlags, IsNumbered}
use Rattle.rd_cbm.specs.Files.{IsSystem}
use Rattle.rd_cbm.proofs.claims.uses_of.Given as goal

abbrev pub invariant-loop-slot : goal.invariant-loop-slot
invariant-loop-slot l = AreFlags (IsSystem l.blocks) (IsNumbered (cbm_bytes l.disk) l.blocks) (2 * l.slot) l.uses.used l.uses.shared
