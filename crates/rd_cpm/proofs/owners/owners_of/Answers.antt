use Rattle.std.proofs.Common.{below_more, ◌<◌, ◌≢◌, length, arith, rules, get_or-set_other, get_or-set_same, slice_index, slice_set}
use Rattle.rd_geometry.specs.CpmDisks.{cpm_bytes}
use Rattle.rd_cpm.specs.Entries.{entry_of_slot}
use Rattle.rd_cpm.specs.Owners.{IsOwner}
use Rattle.rd_cpm.proofs.owners.owners_of.Goals as goal

pub loop-slot-preserved : goal.loop-slot-preserved
loop-slot-preserved c = record {
  whole = search rules;
  owners = below_more (λ j. IsOwner (entry_of_slot (cpm_bytes c.args.disk.now)) j (slice_index (slice_set c.loop-slot.owners c.loop-slot.slot c.owner_of.result) j)) c.loop-slot.slot
      (λ j low. let other : j ≢ c.loop-slot.slot = omega arith in rw get_or-set_other (c.loop-slot.invariant.owners j low))
      (let inside : c.loop-slot.slot < length c.loop-slot.owners = omega arith in rw get_or-set_same c.owner_of.ensures);
}
