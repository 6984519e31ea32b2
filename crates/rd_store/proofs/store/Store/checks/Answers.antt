use Rattle.rd_store.proofs.Common.{◌∙◌, ap, map, IfOk-weaker, numbered_check, check_spelling}
use Rattle.rd_store.proofs.CheckListQuery.{checks_back}
use Rattle.rd_store.proofs.ReadLemmas.{read_told}
use Rattle.rd_store.proofs.store.Store.checks.Goals as goal

pub returns-clause-reads : goal.returns-clause-reads
returns-clause-reads g c = read_told g.S.Store _ _ c.in_ok-rows.ensures.reads c.read_checks.result (λ is_open are.
    let rows = c.deref.ensures.value ∙ are in
    IfOk-weaker c.read_checks.result _ _ (λ read is. is ∙ ap (map (λ row. numbered_check (check_spelling.entry row))) rows ∙ checks_back _) c.read_checks.ensures.checks)
