use Rattle.std.proofs.Common.{sym, subst}
use Rattle.rd_cpm.specs.Entries.{IsOfFile}
use Rattle.rd_cpm.proofs.TestLemmas.{refuted}
use Rattle.rd_cpm.proofs.ClaimLemmas.{claims_at_first, claims_free}
use Rattle.rd_cpm.proofs.claims.claims_of.Goals as goal

pub loop-slot-init : goal.loop-slot-init
loop-slot-init c = claims_at_first _

pub loop-slot-preserved-then-not-is_file : goal.loop-slot-preserved-then-not-is_file
loop-slot-preserved-then-not-is_file c = claims_free _ _ _ _ c.loop-slot.invariant (λ file. refuted c.if-not-is_file.ensures (subst IsOfFile (sym c.entry.ensures) file))
