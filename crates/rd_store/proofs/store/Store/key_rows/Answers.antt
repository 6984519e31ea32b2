use Rattle.rd_store.proofs.Common.{[], keys_asks}
use Rattle.rd_store.proofs.QueryResults.{keys_found}
use Rattle.rd_store.proofs.ReadLemmas.{rows_told}
use Rattle.rd_store.proofs.store.Store.key_rows.Goals as goal

pub query-requires : goal.query-requires
query-requires g c = record { plain = keys_asks.plain }

pub returns-clause-reads : goal.returns-clause-reads
returns-clause-reads g c =
    rows_told g.S.Store c.args.self.now c.query.new.self ([]) c.query.ensures.holds c.query.ensures.reads keys_asks (λ rows spelled picks. keys_found _ rows spelled.keys picks)
