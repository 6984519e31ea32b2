use Rattle.rd_store.proofs.Common.{ℕ, length, nat_cmp, rules, subst, IsBinarySearchResult, IsSearchInRange, answers_always, Heading}
use Rattle.rd_store.proofs.Registers.{placed}
use Rattle.rd_store.proofs.register.place.Goals as goal

pub returns-clause-place : goal.returns-clause-place
returns-clause-place c images is =
    let facts = c.binary_search_by_key.ensures in
    let found = c.binary_search_by_key.result in
    let by_key = facts.position (λ (entry : ℕ × Heading). entry.0) (answers_always _ _ _ (λ f a r g called. search rules)) in
    placed images c.args.acc found (subst (λ l. IsSearchInRange found (length l)) is facts.bound) (subst (λ l. IsBinarySearchResult (λ (entry : ℕ × Heading). nat_cmp entry.0 c.args.acc) l found) is by_key)
