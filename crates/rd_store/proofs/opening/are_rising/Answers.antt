use Rattle.rd_store.proofs.Common.{◌≡◌, inl, inr, ◌+◌, ◌-◌, [], slice_index_or, refl, sym, arith, both}
use Rattle.rd_store.proofs.Listings.{below_or_at, at_default, not_rising, rising_told}
use Rattle.rd_store.proofs.opening.are_rising.Goals as goal

pub loop-at-preserved : goal.loop-at-preserved
loop-at-preserved c = (
  omega arith,
  λ k low within. elim (below_or_at (k + 1) c.loop-at.at low) [
    | inl early ↦ c.loop-at.invariant.1 k early within
    | inr same ↦
        let rows = c.args.rows.now in
        let before : k ≡ c.loop-at.at - 1 = omega (arith, same) in
        let first : slice_index_or rows k [] ≡ c.index-rows-at.result = at_default rows k (c.loop-at.at - 1) before c.index-rows-at.result (omega (arith, within)) c.index-rows-at.is in
        let second : slice_index_or rows (k + 1) [] ≡ c.index-rows-at-in-loop-at.result = at_default rows (k + 1) c.loop-at.at same c.index-rows-at-in-loop-at.result within c.index-rows-at-in-loop-at.is in
        rw (first, second) (both _ _ (both _ _ (sym c.if-not-is_before.ensures)).1).1
  ],
)

pub returns-then-not-is_before : goal.returns-then-not-is_before
returns-then-not-is_before c =
    let rows = c.args.rows.now in
    let before = c.loop-at.at - 1 in
    let row = c.index-rows-at.result in
    let next = c.index-rows-at-in-loop-at.result in
    not_rising rows before row next (omega arith) (at_default rows before before refl row (omega arith) c.index-rows-at.is) (at_default rows (before + 1) c.loop-at.at (omega arith) next (omega arith) c.index-rows-at-in-loop-at.is) (sym c.if-not-is_before.ensures)

pub returns : goal.returns
returns c = rising_told c.args.rows.now (λ k low. c.loop-at.invariant.1 k (omega (arith, low, c.loop-at-test.false)) low) c.have_ids.result c.have_ids.ensures
