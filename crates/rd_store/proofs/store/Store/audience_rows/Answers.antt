use Rattle.rd_store.proofs.Common.{[], ◌∷◌, Blob, audience_asks}
use Rattle.rd_store.proofs.QueryResults.{audience_found}
use Rattle.rd_store.proofs.ReadLemmas.{rows_told}
use Rattle.rd_store.proofs.store.Store.audience_rows.Goals as goal

pub query-requires : goal.query-requires
query-requires g c = record { plain = audience_asks.plain }

pub returns-clause-reads : goal.returns-clause-reads
returns-clause-reads g c =
    rows_told g.S.Store c.args.self.now c.query.new.self (Blob c.args.digest.now ∷ []) c.query.ensures.holds (rw (c.to_sql-key.ensures, c.as_slice.ensures) at c.query.ensures.reads) audience_asks (λ rows spelled picks. audience_found c.args.digest.now _ rows spelled.keys picks)
