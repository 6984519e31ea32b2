use Rattle.rd_store.proofs.Common.{◌∙◌, ap, map, IfOk-weaker, key_spelling}
use Rattle.rd_store.proofs.QueryResults.{keys_back}
use Rattle.rd_store.proofs.ReadLemmas.{read_told}
use Rattle.rd_store.proofs.store.Store.keys.Goals as goal

pub returns-clause-reads : goal.returns-clause-reads
returns-clause-reads g c = read_told g.S.Store _ _ c.in_ok-rows.ensures.reads c.read_keys.result (λ is_open are.
    let rows = c.deref.ensures.value ∙ are in
    IfOk-weaker c.read_keys.result _ _ (λ read is. is ∙ ap (map key_spelling.entry) rows ∙ keys_back _) c.read_keys.ensures.entries)
