use Rattle.rd_store.proofs.Common.{◌∙◌, ℕ, List, ap, arith, length, digest_cmp, entries, Audience, with_keys}
use Rattle.rd_store.proofs.CopyLemmas.{all_copied, at_same, first_of, none_copied, one_copied}
use Rattle.rd_store.proofs.Orders.{digest_order}
use Rattle.rd_store.proofs.copying.copy_keys.Goals as goal

pub returns-in_err-copy_key-clause-moves : goal.returns-in_err-copy_key-clause-moves
returns-in_err-copy_key-clause-moves g c before all none is =
    let item : List ℕ × Audience = c.key_at-entry.result in
    none_copied g.S.Store digest_order before all with_keys c.loop-at.at (c.loop-at.invariant.1 before all none is) item (at_same (entries all) c.args.keys.now c.loop-at.at item is (omega (arith, c.loop-at-test.true)) (c.key_at-entry.ensures item)) c.from_residual.result c.from_residual.ensures.0 (c.in_err-copy_key.ensures.moves (with_keys (first_of digest_cmp c.loop-at.at all) before))

pub loop-at-preserved : goal.loop-at-preserved
loop-at-preserved g c = (
  c.copy_key.ensures.same_reference ∙ c.loop-at.invariant.0,
  λ before all none is.
      let item : List ℕ × Audience = c.key_at-entry.result in
      one_copied g.S.Store digest_order before all with_keys c.loop-at.at (c.loop-at.invariant.1 before all none is) item (at_same (entries all) c.args.keys.now c.loop-at.at item is (omega (arith, c.loop-at-test.true)) (c.key_at-entry.ensures item)) (c.in_ok-copy_key.ensures.moves (with_keys (first_of digest_cmp c.loop-at.at all) before)),
)

pub returns-clause-moves : goal.returns-clause-moves
returns-clause-moves g c before all none is = all_copied g.S.Store digest_order before all with_keys c.loop-at.at (c.loop-at.invariant.1 before all none is) (omega (arith, ap length is, c.loop-at-test.false, c.loop-at.auto.at-end))
