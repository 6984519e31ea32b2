use Rattle.rd_store.proofs.Common.{◌≡◌, ◌∙◌, ◌+◌, ◌-◌, inl, inr, ap, arith, slice_index_or, sym, ◌<◌, length, true, true≢false, is_lt, subst₂, get_or_default, place_cmp, place_of}
use Rattle.rd_store.proofs.Listings.{below_or_at}
use Rattle.rd_store.proofs.Rulebooks.{all_rise, are_all}
use Rattle.rd_store.proofs.rulebook.are_ascending.Goals as goal

pub loop-i-preserved : goal.loop-i-preserved
loop-i-preserved c = λ k d low. elim (below_or_at (k + 1) c.loop-i.i low) [
  | inl early ↦ c.loop-i.invariant k d early
  | inr same ↦
      let rules = c.args.rules.now in
      let one = c.index-rules-i.result in
      let other = c.index-rules-i-in-loop-i.result in
      let before : k ≡ c.loop-i.i - 1 = omega (arith, same) in
      let first : slice_index_or rules k d ≡ one = get_or_default rules k d one (omega (arith, same, c.loop-i-test.true)) ∙ ap (λ n. slice_index_or rules n one) before ∙ sym c.index-rules-i.is in
      let second : slice_index_or rules (k + 1) d ≡ other = get_or_default rules (k + 1) d other (omega (arith, same, c.loop-i-test.true)) ∙ ap (λ n. slice_index_or rules n other) same ∙ sym c.index-rules-i-in-loop-i.is in
      rw (first, second) (sym c.if-not-is_before.ensures)
]

pub returns-then-not-is_before : goal.returns-then-not-is_before
returns-then-not-is_before c all =
    let rules = c.args.rules.now in
    let one = c.index-rules-i.result in
    let other = c.index-rules-i-in-loop-i.result in
    let before = c.loop-i.i - 1 in
    let low : before + 1 < length rules = omega arith in
    let place : before + 1 ≡ c.loop-i.i = omega arith in
    let second : slice_index_or rules (before + 1) one ≡ other = get_or_default rules (before + 1) one other low ∙ ap (λ n. slice_index_or rules n other) place ∙ sym c.index-rules-i-in-loop-i.is in
    true≢false (sym (subst₂ (λ x y. is_lt (place_cmp (place_of x) (place_of y)) ≡ true) (sym c.index-rules-i.is) second (all_rise rules all before one low)) ∙ sym c.if-not-is_before.ensures)

pub returns : goal.returns
returns c = are_all c.args.rules.now (λ k d low. c.loop-i.invariant k d (omega (arith, low, c.loop-i-test.false)))
