use Rattle.rd_store.proofs.Common.{◌≡◌, ◌∙◌, ℤ, pos, int_cmp, rules, subst, w64, to_z, of_z, IsBinarySearchResult, to_z-of_z, answers_always}
use Rattle.rd_store.proofs.BinarySearch.{searched}
use Rattle.rd_store.proofs.columns.is_among.Goals as goal

-- the closure gives a number as a signed one
pub returns : goal.returns
returns c =
    let facts = c.binary_search_by_key.ensures in
    let exact : to_z w64 (of_z w64 c.args.number) ≡ c.args.number = to_z-of_z w64 c.args.number c.ranges.number in
    let by_key = facts.position (λ one. pos one) (answers_always _ _ _ (λ f a r g called. search rules)) in
    c.is_ok.ensures.value
    ∙ searched c.args.numbers.now c.args.number _ c.requires facts.bound (subst (λ (n : ℤ). IsBinarySearchResult (λ one. int_cmp (pos one) n) c.args.numbers.now c.binary_search_by_key.result) exact by_key)
