use Rattle.std.proofs.Common.{◌≡◌, ◌∙◌, ◌<◌, ℕ, List, ap, sym, arith, slice_index}
use Rattle.rd_geometry.specs.CpmDisks.{cpm_bytes}
use Rattle.rd_cpm.specs.Entries.{entry_of_slot, pointer_of, pointers_of}
use Rattle.rd_cpm.proofs.ClaimLemmas.{claims_none_at, claims_more_at}
use Rattle.rd_cpm.proofs.claims.Claims.add_entry.Goals as goal

-- the block read at a place is that of the entry's pointer
block_is : (entry own pointers : List ℕ) (place : ℕ) → own ≡ entry → pointers ≡ pointers_of own → slice_index pointers place ≡ pointer_of entry place
block_is entry own pointers place read fields = ap (λ l. slice_index l place) (fields ∙ ap pointers_of read)

pub loop-place-preserved-then-block-eq0 : goal.loop-place-preserved-then-block-eq0
loop-place-preserved-then-block-eq0 c =
    let same : slice_index c.pointers-pointers.result c.loop-place.place ≡ pointer_of (entry_of_slot (cpm_bytes c.args.disk.now) c.args.slot) c.loop-place.place = block_is _ _ _ _ c.entry.ensures c.pointers-pointers.ensures in
    claims_none_at _ _ _ _ _ c.loop-place-test.true c.loop-place.invariant (λ b claim.
    let value : pointer_of (entry_of_slot (cpm_bytes c.args.disk.now) c.args.slot) c.loop-place.place ≡ b = claim.value in
    let block : 0 < b = claim.block in
    absurd (omega (arith, c.if-block-eq0.true)))

pub loop-place-preserved : goal.loop-place-preserved
loop-place-preserved c =
    let same : slice_index c.pointers-pointers.result c.loop-place.place ≡ pointer_of (entry_of_slot (cpm_bytes c.args.disk.now) c.args.slot) c.loop-place.place = block_is _ _ _ _ c.entry.ensures c.pointers-pointers.ensures in
    rw (c.add.ensures.claimed, c.add.ensures.shared) (claims_more_at _ _ _ _ _ _ c.loop-place.invariant (omega arith) (record {
      slot = c.requires.slot;
      place = c.loop-place-test.true;
      file = c.requires.file;
      value = sym same;
      block = omega (arith, c.if-block-eq0.false);
    }))
