use Rattle.rd_store.proofs.Common.{◌∙◌, ap, map, rule_spelling, rule_of}
use Rattle.rd_store.proofs.QueryResults.{rules_back}
use Rattle.rd_store.proofs.ReadLemmas.{read_told}
use Rattle.rd_store.proofs.store.Store.rulebook.Goals as goal

pub returns-in-Some-clause-reads : goal.returns-in-Some-clause-reads
returns-in-Some-clause-reads g c = read_told g.S.Store _ _ c.in_ok-rows.ensures.reads _ (λ is_open are.
    let rows = c.deref.ensures.value ∙ are in
    c.in-Some.ensures ∙ c.in_ok-rules.ensures.rules ∙ ap (map (λ row. rule_of (rule_spelling.entry row))) rows ∙ rules_back _)
