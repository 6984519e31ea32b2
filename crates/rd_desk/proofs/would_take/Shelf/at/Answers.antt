use Rattle.std.proofs.Common.{◌≡◌, ◌∙◌, ◌+◌, ◌<◌, None, ap, arith, length, subst, sym, take}
use Rattle.rd_desk.specs.Shelving.{on_shelf}
use Rattle.rd_desk.proofs.ShelfLemmas.{at_index, past_index}
use Rattle.rd_desk.proofs.would_take.Shelf.at.Goals as goal

pub returns-then-image-acc : goal.returns-then-image-acc
returns-then-image-acc c =
    let items = c.deref-image-items.result.now in
    let n = c.loop-image.image-index in
    let inside : n < length items = omega arith in
    at_index items n c.args.acc _ inside (subst (λ l. on_shelf (take n l) c.args.acc ≡ None) (sym c.deref-image-items.ensures.value) c.loop-image.invariant) c.if-image-acc.true
    ∙ ap (λ l. on_shelf l c.args.acc) c.deref-image-items.ensures.value

pub loop-image-preserved : goal.loop-image-preserved
loop-image-preserved c =
    let items = c.deref-image-items.result.now in
    let n = c.loop-image.image-index in
    let inside : n < length items = omega arith in
    subst (λ l. on_shelf (take (n + 1) l) c.args.acc ≡ None) c.deref-image-items.ensures.value
    (past_index items n c.args.acc _ inside (subst (λ l. on_shelf (take n l) c.args.acc ≡ None) (sym c.deref-image-items.ensures.value) c.loop-image.invariant) c.if-image-acc.false)
