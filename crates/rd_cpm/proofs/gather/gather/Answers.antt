use Rattle.std.proofs.Common.{◌≡◌, ◌<◌, arith, subst}
use Rattle.rd_geometry.specs.CpmDisks.{cpm_bytes}
use Rattle.rd_cpm.specs.Entries.{entry_of_slot}
use Rattle.rd_cpm.proofs.GatherLemmas.{IsGatheredBelow, gathered_at_first, gathered_none, gathered_more, gathered_all}
use Rattle.rd_cpm.proofs.gather.gather.Goals as goal

pub loop-slot-init : goal.loop-slot-init
loop-slot-init c = rw c.new-entries.ensures.items (gathered_at_first _ _ c.requires.file)

pub loop-slot-preserved-then-owners-slot : goal.loop-slot-preserved-then-owners-slot
loop-slot-preserved-then-owners-slot c =
    gathered_none _ _ _ c.args.owners.now _ c.requires.file c.requires.owners c.loop-slot-test.true c.if-owners-slot.true c.loop-slot.invariant

pub loop-slot-preserved : goal.loop-slot-preserved
loop-slot-preserved c = rw (c.in_ok-push.ensures.items, c.entry.ensures)
    (gathered_more _ _ _ c.args.owners.now _ c.requires.file c.requires.owners c.loop-slot-test.true c.if-owners-slot.false c.loop-slot.invariant)

pub returns : goal.returns
returns c =
    let first : c.args.file < 64 = c.requires.file.slot in
    let last : c.loop-slot.slot ≡ 64 = omega arith in
    gathered_all _ _ _ (subst (λ n. IsGatheredBelow (entry_of_slot (cpm_bytes c.args.disk.now)) c.args.file n c.loop-slot.entries.items) last c.loop-slot.invariant)
