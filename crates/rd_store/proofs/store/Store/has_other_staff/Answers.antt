use Rattle.rd_store.proofs.Common.{◌∙◌, IfOk-weaker, desk}
use Rattle.rd_store.proofs.QueryResults.{other_told}
use Rattle.rd_store.proofs.ReadLemmas.{read_told}
use Rattle.rd_store.proofs.store.Store.has_other_staff.Goals as goal

pub returns-clause-reads : goal.returns-clause-reads
returns-clause-reads g c = read_told g.S.Store _ _ c.in_ok-rows.ensures.reads c.show_other.result (λ is_open are.
    let are = c.deref.ensures.value ∙ are in
    IfOk-weaker c.show_other.result _ _ (λ b told. other_told (desk g.S.Store c.args.self.now) c.args.digest.now c.deref.result.now are b told) c.show_other.ensures.other)
