use Rattle.rd_store.proofs.Common.{◌∙◌, ap, map, IfOk-weaker, deed_spelling}
use Rattle.rd_store.proofs.QueryResults.{deeds_back}
use Rattle.rd_store.proofs.ReadLemmas.{read_told}
use Rattle.rd_store.proofs.store.Store.deeds.Goals as goal

pub returns-clause-reads : goal.returns-clause-reads
returns-clause-reads g c = read_told g.S.Store _ _ c.in_ok-rows.ensures.reads c.read_deeds.result (λ is_open are.
    let rows = c.deref.ensures.value ∙ are in
    IfOk-weaker c.read_deeds.result _ _ (λ read is. is ∙ ap (map deed_spelling.entry) rows ∙ deeds_back _) c.read_deeds.ensures.entries)
