use Rattle.std.proofs.Common.{◌≡◌, length}
use Rattle.rd_geometry.specs.CpmDisks.{cpm_bytes}
use Rattle.rd_cpm.specs.Entries.{entry_of_slot}
use Rattle.rd_cpm.specs.Owners.{AreOwners}
use Rattle.rd_cpm.proofs.owners.owners_of.Given as goal

abbrev pub invariant-loop-slot : goal.invariant-loop-slot
invariant-loop-slot l = record {
  whole : length l.owners ≡ 64;
  owners : AreOwners (entry_of_slot (cpm_bytes l.disk)) l.slot l.owners;
}
