use Rattle.rd_store.proofs.Common.{◌≡◌, ◌∙◌, ap, map, subst, IfOk, rule_spelling, rule_of}
use Rattle.rd_store.proofs.QueryResults.{rules_back}
use Rattle.rd_store.proofs.ReadLemmas.{read_told}
use Rattle.rd_store.proofs.store.Store.rules_at.Goals as goal

pub returns-clause-reads : goal.returns-clause-reads
returns-clause-reads g c = read_told g.S.Store _ _ c.in_ok-rows.ensures.reads c.read_rules.result (λ is_open are.
    let rows = c.deref.ensures.value ∙ are in
    subst (λ l. IfOk c.read_rules.result (λ rules. rules.items ≡ l)) (ap (map (λ row. rule_of (rule_spelling.entry row))) rows ∙ rules_back _) c.read_rules.ensures.rules)
