use Rattle.rd_store.proofs.Common.{[], ◌∷◌, all_deeds_asks, marks_table}
use Rattle.rd_store.proofs.QueryResults.{deeds_listed}
use Rattle.rd_store.proofs.ReadLemmas.{rows_told}
use Rattle.rd_store.proofs.store.Store.numbered_rows.Goals as goal

pub query-requires : goal.query-requires
query-requires g c = record { plain = (all_deeds_asks (marks_table 11 ∷ [])).plain }

pub returns-clause-reads : goal.returns-clause-reads
returns-clause-reads g c =
    rows_told g.S.Store c.args.self.now c.query.new.self ([]) c.query.ensures.holds c.query.ensures.reads (all_deeds_asks (marks_table 11 ∷ [])) (λ rows spelled picks. deeds_listed _ rows spelled.deeds picks)
