use Rattle.rd_store.proofs.Common.{[], ◌∷◌, pos, Int, deed_asks}
use Rattle.rd_store.proofs.QueryResults.{deed_found}
use Rattle.rd_store.proofs.ReadLemmas.{rows_told}
use Rattle.rd_store.proofs.store.Store.deed_rows.Goals as goal

pub query-requires : goal.query-requires
query-requires g c = record { plain = deed_asks.plain }

pub returns-clause-reads : goal.returns-clause-reads
returns-clause-reads g c =
    rows_told g.S.Store c.args.self.now c.query.new.self (Int (pos c.args.num) ∷ []) c.query.ensures.holds (rw c.to_sql-key.ensures at c.query.ensures.reads) deed_asks (λ rows spelled picks. deed_found c.args.num _ rows spelled.deeds picks)
