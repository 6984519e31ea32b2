use Rattle.std.proofs.Common.{◌↔◌, ℕ, List, Contains, arith, sym, subst}
use Rattle.rd_geometry.specs.CbmDisks.{cbm_bytes}
use Rattle.rd_cbm.specs.declared.chains.Chain.{Chain}
use Rattle.rd_cbm.specs.Entries.{Data, Side}
use Rattle.rd_cbm.specs.Files.{Claims}
use Rattle.rd_cbm.proofs.ClaimLemmas.{flags_start}
use Rattle.rd_cbm.proofs.FileLemmas.{AreRead, read_as, own_contents, own_sides}
use Rattle.rd_cbm.proofs.UseLemmas.{flags_slot, flags_all}
use Rattle.rd_cbm.proofs.claims.uses_of.Goals as goal

pub loop-slot-init : goal.loop-slot-init
loop-slot-init c = flags_start _ _ _ _ _ _ _ _ c.none-uses.ensures.used c.none-uses.ensures.shared c.add_all.ensures c.add_all-2.ensures

pub loop-slot-preserved : goal.loop-slot-preserved
loop-slot-preserved c =
    let image : List ℕ = cbm_bytes c.args.disk.now in
    let blocks : List ℕ = c.args.blocks.now in
    let contents : Chain = c.in_ok-contents.contents in
    let sides : Chain = c.in_ok-contents.sides in
    let are : AreRead image blocks c.loop-slot.slot contents sides =
    read_as image blocks c.read_entry-entry.result c.loop-slot.slot contents sides c.read_entry-entry.ensures.fields c.read_entry-entry.ensures.slot
    c.loop-slot-test.true c.in_ok-contents.ensures.contents c.in_ok-contents.ensures.sides in
    flags_slot image blocks c.loop-slot.slot _ _ _ _ _ _ _ _ c.loop-slot.invariant c.add_all-in-loop-slot.ensures
    (λ b. subst (λ list. Contains list b ↔ Claims image blocks c.loop-slot.slot Data b) (sym c.as_slice.ensures) (own_contents image blocks c.loop-slot.slot contents sides are b))
    c.add_all-in-loop-slot-2.ensures
    (λ b. subst (λ list. Contains list b ↔ Claims image blocks c.loop-slot.slot Side b) (sym c.as_slice-in-loop-slot.ensures) (own_sides image blocks c.loop-slot.slot contents sides are b))

pub returns : goal.returns
returns c = flags_all _ _ c.loop-slot.slot _ _ (omega arith) c.loop-slot.invariant
