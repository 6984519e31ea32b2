use Rattle.rd_store.proofs.Common.{[], ◌∷◌, pos, Int}
use Rattle.rd_store.proofs.LatestCheckQuery.{latest_asks, latest_found}
use Rattle.rd_store.proofs.ReadLemmas.{first_told}
use Rattle.rd_store.proofs.store.Store.latest_rows.Goals as goal

pub query-requires : goal.query-requires
query-requires g c = record { plain = latest_asks.plain }

pub returns-clause-reads : goal.returns-clause-reads
returns-clause-reads g c =
    first_told g.S.Store c.args.self.now c.query.new.self (Int (pos c.args.acc) ∷ []) c.query.ensures.holds (rw c.to_sql-key.ensures at c.query.ensures.reads) latest_asks (λ rows spelled picks. latest_found c.args.acc _ rows spelled.checks picks)
