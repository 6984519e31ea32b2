use Rattle.rd_geometry.specs.CpmDisks.{cpm_bytes}
use Rattle.rd_cpm.specs.Entries.{entry_of_slot}
use Rattle.rd_cpm.proofs.GatherLemmas.{IsGatheredBelow}
use Rattle.rd_cpm.proofs.gather.gather.Given as goal

abbrev pub invariant-loop-slot : goal.invariant-loop-slot
invariant-loop-slot l = IsGatheredBelow (entry_of_slot (cpm_bytes l.disk)) l.file l.slot l.entries.items
